-- The equations in a list: what each is, and the first that fails.
use Rattle.std.specs.Prelude.{Option, ℕ, Some, None}
use Prim.Native.Nat.{ℕ, zero, suc, ◌+◌, ◌<◌}
use mathlib.Core.Path.{◌≡◌, refl}
use mathlib.Core.List.{List, [], ◌∷◌}
use mathlib.Core.Bool.{Bool, true, false}
use native.Mathlib.Omega.{arith}
use Rattle.rules.specs.Lists.{both, those, from, below, first, lowest}
use Rattle.laws.specs.Members.{Every, none, more, every_so}

-- the first of a list that passes
unfoldable pub first_of : (ℕ → Bool) → List ℕ → Option ℕ
first_of ok [] = None
first_of ok (x ∷ xs) = elim (ok x) [ true ↦ Some x | false ↦ first_of ok xs ]

pub first_on : (ok : ℕ → Bool) (x : ℕ) (xs : List ℕ) → ok x ≡ false → first_of ok (x ∷ xs) ≡ first_of ok xs
unfolding first_of
first_on ok x xs e = rw (e, first_of)

pub first_stop : (ok : ℕ → Bool) (x : ℕ) (xs : List ℕ) → ok x ≡ true → first_of ok (x ∷ xs) ≡ Some x
unfolding first_of
first_stop ok x xs e = rw (e, first_of)

module _ (p : ℕ → Bool) where
  -- the first number that passes both tests is the first, of those that pass one, that passes the other
  first-those : (q : ℕ → Bool) (k i : ℕ) → first k (λ e. both (p e) (q e)) i ≡ first_of q (those p (from i k))
  unfolding first first_of those from both
  first-those q zero i = refl
  first-those q (suc k) i = go (p i) refl (first-those q k (i + 1))
    where
      other : (b : Bool) → q i ≡ b → first k (λ e. both (p e) (q e)) (i + 1) ≡ first_of q (those p (from (i + 1) k))
          → elim (q i) as (λ c. Option ℕ) [ true ↦ Some i | false ↦ first k (λ e. both (p e) (q e)) (i + 1) ] ≡ first_of q (i ∷ those p (from (i + 1) k))
      other true e ih = rw (e, first_of)
      other false e ih = rw (e, first_of) ih

      go : (b : Bool) → p i ≡ b → first k (λ e. both (p e) (q e)) (i + 1) ≡ first_of q (those p (from (i + 1) k))
          → first (suc k) (λ e. both (p e) (q e)) i ≡ first_of q (those p (from i (suc k)))
      go true e ih = rw (e, first, those) (other (q i) refl ih)
      go false e ih = rw (e, first, those) ih

  pub lowest-those : (q : ℕ → Bool) (n : ℕ) → lowest n (λ e. both (p e) (q e)) ≡ first_of q (those p (below n))
  unfolding lowest below
  lowest-those q n = first-those q n 0

  from_every : (k i : ℕ) → Every (λ x. (x < i + k) × (p x ≡ true)) (those p (from i k))
  unfolding those from
  from_every zero i = none
  from_every (suc k) i = go (p i) refl (every_so _ _ _ (λ x h. let l = h.0 in (omega arith, h.1)) (from_every k (i + 1)))
    where
      go : (b : Bool) → p i ≡ b → Every (λ x. (x < i + suc k) × (p x ≡ true)) (those p (from (i + 1) k)) → Every (λ x. (x < i + suc k) × (p x ≡ true)) (those p (from i (suc k)))
      go true e ih = let l : i < i + suc k = omega arith in rw (e, those) (more (l, e) ih)
      go false e ih = rw (e, those) ih

  -- those that pass are below n, and pass
  pub those_every : (n : ℕ) → Every (λ x. (x < n) × (p x ≡ true)) (those p (below n))
  unfolding below
  those_every n = every_so _ _ _ (λ x h. let l = h.0 in (omega arith, h.1)) (from_every n 0)
