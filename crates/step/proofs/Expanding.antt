-- Step 1: while a side's head is a solved hole, the side is replaced by a copy of the solution.
use Prim.Native.Nat.{ℕ, suc, ◌-◌, ◌<◌, ◌≤◌}
use mathlib.Core.Path.{◌≡◌, refl, sym, ap, ◌∙◌}
use mathlib.Core.List.{List}
use native.Mathlib.Omega.{arith}
use native.Mathlib.Decide.{ℕ_discrete}
use lib.ListN.{length, get_or}
use borrow.Author.Tests.{eq-eqb, ne_eqb}
use Rattle.rules.specs.declared.Failure.{Failure}
use Rattle.std.specs.Prelude.{Option, Some, None, Ok, Err}
use Rattle.store.specs.declared.Written.{Written}
use Rattle.table.specs.declared.Record.{Record}
use Rattle.table.specs.Reading.{IsRecord}
use Rattle.rules.specs.Lists.{both, enough}
use Rattle.rules.specs.Words.{NONE, HA, tag, field_a, has, variables}
use Rattle.rules.specs.Store.{goes, ◌>>=◌, solved, solution}
use Rattle.rules.specs.Map.{to_variables}
use Rattle.rules.specs.Rewrite.{copy, expand}
use Rattle.invariants.specs.Floor.{Grown, limit}
use Rattle.invariants.specs.Grow.{solved_at}
use Rattle.invariants.specs.Write.{Written as Copied}
use Rattle.invariants.specs.Rise.{reach}
use Rattle.invariants.specs.Copy.{Nobody}
use Rattle.invariants.proofs.Copy.{copy_grows}
use Rattle.promise.proofs.SideKnown.{side-solution, side_copied}
use Rattle.rewrite.specs.LevelsLaws.{fuel}
use Rattle.store.specs.Said.{Answer, wrote, store, shown}
use Rattle.store.specs.Solutions.{solution_in}
use Rattle.store.specs.SaidLaws.{since_root, since_failed}
use Rattle.store.specs.SolutionsLaws.{word_none, word_some, word_real}
use Rattle.rewrite.specs.PartsLaws.{term_read}
use Rattle.walk.specs.Solution.{Copying, CopiesSolution}
use Rattle.walk.specs.SolutionLaws.{names_low, names_fit}
use Rattle.step.specs.Expand.{head_solution, Heading, Expanding, Expands}

module _ (ws ss : List ℕ) (r : ℕ) where
  pub head_hole : (w : Record) (t : Option ℕ) → IsRecord ws r w → w.tag ≡ HA → solution_in ss w.a ≡ t → head_solution ws ss r ≡ t
  unfolding head_solution has
  head_hole w t e k p = rw (eq-eqb _ _ (sym e.tag_is ∙ k), head_solution, ← e.a_is) p

  pub head_other : (w : Record) → IsRecord ws r w → (w.tag ≡ HA → ⊥) → head_solution ws ss r ≡ None
  unfolding head_solution has
  head_other w e k = let n : tag ws r ≡ HA → ⊥ = λ z. k (e.tag_is ∙ z) in rw (ne_eqb _ _ n, head_solution)

  head-none : head_solution ws ss r ≡ None → tag ws r ≡ HA → get_or ss (field_a ws r) NONE ≡ NONE
  unfolding head_solution has
  head-none e k = word_none _ None (rw (eq-eqb _ _ k, head_solution) at e) refl

  head-solved : (t : ℕ) → head_solution ws ss r ≡ Some t → (tag ws r ≡ HA) × (get_or ss (field_a ws r) NONE ≡ t) × (t ≡ NONE → ⊥)
  unfolding head_solution has
  head-solved t e = go (ℕ_discrete (tag ws r) HA)
    where
      go : Dec (tag ws r ≡ HA) → (tag ws r ≡ HA) × (get_or ss (field_a ws r) NONE ≡ t) × (t ≡ NONE → ⊥)
      go (yes k) = let s : solution_in ss (field_a ws r) ≡ Some t = rw (eq-eqb _ _ k, head_solution) at e in (k, word_some _ (Some t) s t refl, word_real _ (Some t) s t refl)
      go (no k) = let s : None ≡ Some t = rw (ne_eqb _ _ k, head_solution) at e in absurd (cc)

pub heading_held : (ws ss : List ℕ) (r : ℕ) (w : Record) → Heading ws ss r → IsRecord ws r w → w.tag ≡ HA → w.a < length ss
heading_held ws ss r w h e k = let g = h.held (sym e.tag_is ∙ k) in let z = e.a_is in omega arith

-- one turn of the rule
module _ (R n : ℕ) (ws ss : List ℕ) (used r : ℕ) where
  expand_done : head_solution ws ss r ≡ None → n ≤ used → Expands R n ws ss used r ws ss (wrote r used)
  unfolding expand both has solved
  expand_done e h = record { run = λ f hf. let q = fuel f _ hf in rw q.1 (go q.0 (ℕ_discrete (tag ws r) HA)); grown = since_root _ _ h }
    where
      go : (k : ℕ) → Dec (tag ws r ≡ HA) → expand (suc k) R r (store ws ss used) ≡ goes (store ws ss used) r
      go k (yes t) = let z = head-none ws ss r e t in rw (eq-eqb _ _ t, expand, z)
      go k (no t) = rw (ne_eqb _ _ t, expand)

  module _ (t : ℕ) (e : head_solution ws ss r ≡ Some t) (ws₁ ss₁ : List ℕ) (x : Answer) (c : CopiesSolution R n ws ss used r t ws₁ ss₁ x) (small : reach R 1 (suc t) < enough) where
    turn : (k : ℕ) → expand (suc k) R r (store ws ss used) ≡ (shown ws₁ ss₁ x >>= λ p. expand k R p.1 p.0)
    unfolding expand both has solved solution
    turn k =
        let h = head-solved ws ss r t e in
        let g : copy enough R (to_variables 0 (variables ws r)) 0 t (store ws ss used) ≡ shown ws₁ ss₁ x = c.run enough small in
        rw (eq-eqb _ _ h.0, expand, h.1, ne_eqb _ _ h.2, h.1, g)

    expand-fails : (e₁ : Failure) → x ≡ Err e₁ → Expands R n ws ss used r ws₁ ss₁ (Err e₁)
    unfolding ◌>>=◌
    expand-fails e₁ p = record { run = λ f hf. let q = fuel f _ hf in rw (q.1, turn q.0, p); grown = since_failed _ _ }

    expand_on : (w : Written) (ws₂ ss₂ : List ℕ) (z : Answer) → x ≡ Ok w → used < w.used → w.used ≤ R → Expands R n ws₁ ss₁ w.used w.root ws₂ ss₂ z → Expands R n ws ss used r ws₂ ss₂ z
    unfolding ◌>>=◌
    expand_on w ws₂ ss₂ z p lt le h = record { run = λ f hf. let q = fuel f _ hf in let q₂ = q.2 in rw (q.1, turn q.0, p) (h.run q.0 (omega arith)); grown = h.grown }

-- a turn of the loop: what was asked at its start follows from what is asked now
pub record Turn (R n : ℕ) (ws₀ ss₀ : List ℕ) (used₀ r₀ : ℕ) (ws ss : List ℕ) (w : Written) : Type 0 where
  pub same : length ws ≡ length ws₀
  pub held : length ss ≡ length ss₀
  pub ready : Expanding R n ws ss w.used w.root
  pub leads : (ws₁ ss₁ : List ℕ) (x : Answer) → Expands R n ws ss w.used w.root ws₁ ss₁ x → Expands R n ws₀ ss₀ used₀ r₀ ws₁ ss₁ x

module _ (R n : ℕ) (ws₀ ss₀ : List ℕ) (used₀ r₀ : ℕ) where
  pub turn_first : Expanding R n ws₀ ss₀ used₀ r₀ → Turn R n ws₀ ss₀ used₀ r₀ ws₀ ss₀ (record { root = r₀; used = used₀ })
  turn_first h = record { same = refl; held = refl; ready = h; leads = λ ws₁ ss₁ x g. g }

  module _ (ws ss : List ℕ) (v : Written) (h : Turn R n ws₀ ss₀ used₀ r₀ ws ss v) where
    pub turn_heads : Heading ws ss v.root
    turn_heads =
        let f = h.ready.fine in
        let wi = f.within in
        let he = f.held in
        let lt = h.ready.is.below in
        record { inside = term_read R n h.ready.home ws ss v.used 0 v.root f h.ready.is; held = λ nine. let b = ((f.good v.root lt).occ nine).below in omega arith }

    pub turn_done : (o : Option ℕ) → head_solution ws ss v.root ≡ o → o ≡ None → Expands R n ws₀ ss₀ used₀ r₀ ws ss (Ok v)
    turn_done o e z = h.leads _ _ _ (expand_done R n ws ss v.used v.root (e ∙ z) h.ready.fine.since)

    module _ (o : Option ℕ) (is : head_solution ws ss v.root ≡ o) (t : ℕ) (some : o ≡ Some t) where
      e : head_solution ws ss v.root ≡ Some t
      e = is ∙ some

      pub turn_copies : Copying R n ws ss v.used v.root t
      turn_copies =
          let hs = head-solved ws ss v.root t e in
          let so = solved_at R n h.ready.home (store ws ss v.used) v.root h.ready.fine h.ready.is.below hs.0 (λ q. hs.2 (sym hs.1 ∙ q)) in
          let si = so.since in
          let one = h.ready.fine.some in
          record {
            home = h.ready.home;
            fine = h.ready.fine;
            at = h.ready.is;
            nine = hs.0;
            is = rw (← hs.1) (record { below = so.below; term = so.term; up = omega arith });
            known = side-solution h.ready.known hs.0 t hs.1 hs.2;
          }

      module _ (ws₁ ss₁ : List ℕ) (x : Answer) (c : CopiesSolution R n ws ss v.used v.root t ws₁ ss₁ x) where
        little : reach R 1 (suc t) < enough
        little = let b = turn_copies.is.below in let w = h.ready.fine.within in let q = h.ready.fine.few in omega arith

        pub turn_fails : (e₁ : Failure) → x ≡ Err e₁ → Expands R n ws₀ ss₀ used₀ r₀ ws₁ ss₁ (Err e₁)
        turn_fails e₁ p = h.leads _ _ _ (expand-fails R n ws ss v.used v.root t e ws₁ ss₁ x c little e₁ p)

        module _ (w : Written) (p : x ≡ Ok w) where
          abbrev more : ℕ
          more = suc (reach R 1 (suc t))

          gives : copy more R (to_variables 0 (variables ws v.root)) 0 t (store ws ss v.used) ≡ goes (store ws₁ ss₁ w.used) w.root
          gives = c.run more (omega arith) ∙ ap (shown ws₁ ss₁) p

          grows : Grown Nobody (Copied 0 v.used) R n h.ready.home (store ws ss v.used) (store ws₁ ss₁ w.used) w.root
          unfolding turn_copies
          grows =
              let i = turn_copies.is in
              rw gives at (copy_grows R n (limit v.root) more (to_variables 0 (variables ws v.root)) 0 t (store ws ss v.used) h.ready.home h.ready.fine (record { below = i.below; term = i.term; up = omega arith }) (names_low turn_copies) (names_fit turn_copies) (omega arith))

          risen : (v.used < w.used) × (w.used ≤ R)
          risen = let g = grows in let a = g.root.new in let b = g.root.sub.below in (omega arith, g.fine.within)

          pub turn_less : R - w.used < R - v.used
          turn_less = let a = risen.0 in let b = risen.1 in omega arith

          pub turn_next : length ws₁ ≡ length ws → length ss₁ ≡ length ss → Turn R n ws₀ ss₀ used₀ r₀ ws₁ ss₁ w
          turn_next l i =
              let hs = head-solved ws ss v.root t e in
              record {
                same = l ∙ h.same;
                held = i ∙ h.held;
                ready = record { home = grows.home₁; fine = grows.fine; is = grows.root.sub; known = side_copied h.ready.known hs.0 t hs.1 hs.2 more gives };
                leads = λ ws₂ ss₂ z k. h.leads ws₂ ss₂ z (expand_on R n ws ss v.used v.root t e ws₁ ss₁ x c little w ws₂ ss₂ z p risen.0 risen.1 k);
              }
