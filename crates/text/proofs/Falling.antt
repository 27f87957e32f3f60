-- What a call inside printing asks: that the record is in the table, that its number falls, and that it can be printed.
use Prim.Native.Nat.{ℕ, ◌+◌, ◌*◌, ◌<◌, ◌≤◌}
use mathlib.Core.Path.{◌≡◌, sym, ◌∙◌}
use mathlib.Core.List.{List}
use native.Mathlib.Omega.{arith}
use lib.ListN.{length}
use Rattle.rules.specs.Words.{NONE, field_b, LA}
use Rattle.laws.specs.Lists.{size, size_real, size_below}
use Rattle.table.specs.declared.Record.{Record}
use Rattle.table.specs.Reading.{IsRecord}
use Rattle.text.specs.Printable.{Term, Terms}
use Rattle.text.proofs.Printable.{terms_rest, terms_first, term_body, term_list}

module _ (ws : List ℕ) (r : ℕ) (h : Term ws r) where
  pub term_inside : 4 * r + 3 < length ws
  term_inside = let here = h.here in let inside = h.good.inside in omega arith

  module _ (w : Record) (is : IsRecord ws r w) where
    pub to_body : w.tag ≡ LA → Term ws w.a
    to_body e = rw is.a_is (term_body ws r h (sym is.tag_is ∙ e))

    pub fall_body : (t : ℕ) → r + 1 ≡ t → w.tag ≡ LA → w.a + 1 < t
    fall_body t m e = let lower = (h.good.body r h.here (sym is.tag_is ∙ e)).0 in let same = is.a_is in omega arith

    pub to_list : (w.tag ≡ LA → ⊥) → Terms ws w.b
    to_list n = rw is.b_is (term_list ws r h (λ e. n (is.tag_is ∙ e)))

    pub fall_list : (t : ℕ) → r + 1 ≡ t → (w.tag ≡ LA → ⊥) → size w.b < t
    fall_list t m n =
        let low : size (field_b ws r) ≤ r = size_below (field_b ws r) r (λ k. (h.good.list r h.here h.term (λ e. n (is.tag_is ∙ e)) k).0) in
        rw is.b_is (omega arith)

module _ (ws : List ℕ) (l : ℕ) (h : Terms ws l) (n : l ≡ NONE → ⊥) where
  pub cell_inside : 4 * l + 3 < length ws
  cell_inside = let here = (h.here n).0 in let inside = h.good.inside in omega arith

  module _ (w : Record) (is : IsRecord ws l w) where
    pub to_first : Term ws w.a
    to_first = rw is.a_is (terms_first ws l h n)

    pub fall_first : (t : ℕ) → size l ≡ t → w.a + 1 < t
    fall_first t m =
        let q = h.here n in
        let lower = (h.good.cell l q.0 q.1).elem in
        let same = is.a_is in
        let z = size_real l n in
        omega arith

    pub to_rest : Terms ws w.b
    to_rest = rw is.b_is (terms_rest ws l h n)

    pub fall_rest : (t : ℕ) → size l ≡ t → size w.b < t
    fall_rest t m =
        let q = h.here n in
        let z = size_real l n in
        let low : size (field_b ws l) ≤ l = size_below (field_b ws l) l (λ k. ((h.good.cell l q.0 q.1).rest k).0) in
        rw is.b_is (omega arith)
