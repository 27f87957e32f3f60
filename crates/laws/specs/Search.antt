-- A search record by record: what is known while the lower records are passed.
use Rattle.std.specs.Prelude.{ℕ, zero, suc, ◌+◌, ◌-◌, ◌<◌, ◌≤◌, ◌≡◌, refl, Bool, true, false, Option, Some, None}
use native.Mathlib.Omega.{arith}
use Rattle.rules.specs.Lists.{first, lowest}

-- what the search among the first n numbers has yet to answer when those below i are passed
unfoldable pub ahead : ℕ → (ℕ → Bool) → ℕ → Option ℕ
ahead n ok i = first (n - i) ok i

module _ (n : ℕ) (ok : ℕ → Bool) where
  pub ahead-start : lowest n ok ≡ ahead n ok 0
  unfolding lowest ahead
  ahead-start = let e : n - 0 ≡ n = omega arith in rw e

  module _ (i : ℕ) where
    left : i < n → n - i ≡ suc (n - (i + 1))
    left h = omega arith

    pub ahead_on : i < n → ok i ≡ false → ahead n ok i ≡ ahead n ok (i + 1)
    unfolding ahead first
    ahead_on h e = rw (left h, e, first)

    pub ahead_stop : i < n → ok i ≡ true → ahead n ok i ≡ Some i
    unfolding ahead first
    ahead_stop h e = rw (left h, e, first)

    pub ahead_end : n ≤ i → ahead n ok i ≡ None
    unfolding ahead first
    ahead_end h = let e : n - i ≡ 0 = omega arith in rw e

first_below : (k : ℕ) (ok : ℕ → Bool) (i r : ℕ) → first k ok i ≡ Some r → r < i + k
unfolding first
first_below zero ok i r e = absurd (let z : None ≡ Some r = e in let y : ◌≡◌ {A = ℕ} 0 1 = cc in omega arith)
first_below (suc k) ok i r e = go (ok i) refl (first_below k ok (i + 1) r)
  where
    go : (b : Bool) → ok i ≡ b → (first k ok (i + 1) ≡ Some r → r < i + 1 + k) → r < i + suc k
    go true q ih = let z : Some i ≡ Some r = (rw (q, first) at e) in let y : i ≡ r = cc in omega arith
    go false q ih = let l = ih (rw (q, first) at e) in omega arith

-- what is found passes
pub first_passes : (k : ℕ) (ok : ℕ → Bool) (i r : ℕ) → first k ok i ≡ Some r → ok r ≡ true
unfolding first
first_passes zero ok i r e = absurd (let z : None ≡ Some r = e in let y : ◌≡◌ {A = ℕ} 0 1 = cc in omega arith)
first_passes (suc k) ok i r e = go (ok i) refl (first_passes k ok (i + 1) r)
  where
    go : (b : Bool) → ok i ≡ b → (first k ok (i + 1) ≡ Some r → ok r ≡ true) → ok r ≡ true
    go true q ih = let z : Some i ≡ Some r = (rw (q, first) at e) in let y : i ≡ r = cc in rw (← y) q
    go false q ih = ih (rw (q, first) at e)

first_nowhere : (k : ℕ) (ok : ℕ → Bool) (i : ℕ) → ((j : ℕ) → i ≤ j → j < i + k → ok j ≡ false) → first k ok i ≡ None
unfolding first
first_nowhere zero ok i h = refl
first_nowhere (suc k) ok i h = rw (h i (omega arith) (omega arith), first) (first_nowhere k ok (i + 1) (λ j a b. h j (omega arith) (omega arith)))

-- where none passes nothing is found
pub lowest_nowhere : (n : ℕ) (ok : ℕ → Bool) → ((j : ℕ) → j < n → ok j ≡ false) → lowest n ok ≡ None
unfolding lowest
lowest_nowhere n ok h = first_nowhere n ok 0 (λ j a b. h j (omega arith))

-- what is found is below n
pub lowest-below : (n : ℕ) (ok : ℕ → Bool) (r : ℕ) → lowest n ok ≡ Some r → r < n
unfolding lowest
lowest-below n ok r e = let l = first_below n ok 0 r e in omega arith
