-- A term that can be printed, and its parts.
use Prim.Native.Nat.{ℕ}
use mathlib.Core.Path.{◌≡◌}
use mathlib.Core.List.{List}
use native.Mathlib.Omega.{arith}
use Rattle.rules.specs.Words.{NONE, tag, field_a, field_b, LA}
use Rattle.laws.specs.Lists.{Listed}
use Rattle.text.specs.Printable.{Term, Terms}

module _ (ws : List ℕ) (l : ℕ) (h : Terms ws l) where
  pub terms_listed : Listed ws l
  terms_listed =
      record {
        top = h.top;
        inside = h.good.inside;
        few = h.good.few;
        good = h.good.cell;
        here = λ n. let q = h.here n in (q.0, q.1);
      }

  module _ (real : l ≡ NONE → ⊥) where
    pub terms_rest : Terms ws (field_b ws l)
    terms_rest =
        let q = h.here real in
        let l<top = q.0 in
        record {
          top = h.top;
          good = h.good;
          here = λ n. let b = h.good.rest l l<top q.1 q.2 n in let lower = b.0 in (omega arith, b.1, b.2);
        }

    pub terms_first : Term ws (field_a ws l)
    terms_first =
        let q = h.here real in
        let l<top = q.0 in
        let lower = (h.good.cell l l<top q.1).elem in
        record { top = h.top; good = h.good; here = omega arith; term = q.2 }

module _ (ws : List ℕ) (r : ℕ) (h : Term ws r) where
  pub term_body : tag ws r ≡ LA → Term ws (field_a ws r)
  term_body e =
      let b = h.good.body r h.here e in
      let lower = b.0 in
      let here = h.here in
      record { top = h.top; good = h.good; here = omega arith; term = b.1 }

  pub term_list : (tag ws r ≡ LA → ⊥) → Terms ws (field_b ws r)
  term_list n =
      let here = h.here in
      record {
        top = h.top;
        good = h.good;
        here = λ m. let b = h.good.list r here h.term n m in let lower = b.0 in (omega arith, b.1, b.2);
      }
