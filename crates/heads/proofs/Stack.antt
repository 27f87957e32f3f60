-- The binders on the stack: one more is pushed, one is read.
use Rattle.std.specs.Prelude.{Some, None}
use Prim.Native.Nat.{ℕ, zero, suc, ◌+◌, ◌-◌, ◌<◌, ◌≤◌}
use mathlib.Core.Path.{◌≡◌, refl, sym, ap, ◌∙◌}
use mathlib.Core.List.{List, ◌∷◌}
use native.Mathlib.Omega.{arith}
use native.Mathlib.Numerals.{add-one}
use lib.ListN.{length, get_or, set}
use lib.Seq.{get_or-set_same, get_or-set_other}
use Rattle.heads.specs.Stack.{binders, type_of}
use Rattle.heads.specs.HeadsLaws.{type_bound, type_free}

pub binders_above : (st : List ℕ) (d k v : ℕ) → d ≤ k → binders (set st k v) d ≡ binders st d
unfolding binders
binders_above st zero k v h = refl
binders_above st (suc d) k v h =
    let ne : d ≡ k → ⊥ = λ e. omega arith in
    rw (get_or-set_other st k d v 0 ne, binders_above st d k v (omega arith))

pub binders-push : (st : List ℕ) (d v : ℕ) → d < length st → binders (set st d v) (d + 1) ≡ v ∷ binders st d
unfolding binders
binders-push st d v h = rw (add-one, get_or-set_same st d v 0 h, binders_above st d d v (omega arith))

pub binders-count : (st : List ℕ) (d : ℕ) → length (binders st d) ≡ d
unfolding binders
binders-count st zero = refl
binders-count st (suc d) = ap suc (binders-count st d)

pub binders_at : (st : List ℕ) (d k : ℕ) → k < d → get_or (binders st d) k 0 ≡ get_or st (d - 1 - k) 0
unfolding binders
binders_at st zero k h = absurd (omega arith)
binders_at st (suc d) zero h = let q : suc d - 1 - 0 ≡ d = omega arith in rw q
binders_at st (suc d) (suc k) h = let q : suc d - 1 - suc k ≡ d - 1 - k = omega arith in rw (q, binders_at st d k (omega arith))

module _ (st : List ℕ) (d v : ℕ) where
  pub type-above : (1 + v ≤ d → ⊥) → None ≡ type_of (binders st d) v
  type-above z = sym (type_free (binders st d) v (rw binders-count (omega arith)))

  pub type_at : (k : ℕ) → 1 + v ≤ d → k ≡ d - (1 + v) → Some (get_or st k 0) ≡ type_of (binders st d) v
  type_at k h e =
      let q : k ≡ d - 1 - v = omega arith in
      rw q (ap Some (sym (binders_at st d v (omega arith))) ∙ sym (type_bound (binders st d) v (rw binders-count (omega arith))))
