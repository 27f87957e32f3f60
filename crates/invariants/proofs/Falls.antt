-- What is ahead of a run falls where a pair is dropped, taken apart or replaced by lower ones, and where a record is written.
use Prim.Native.Nat.{ℕ, zero, suc, ◌+◌, ◌-◌, ◌*◌, ◌<◌, ◌≤◌}
use Rattle.std.specs.Prelude.{◌≡◌, List, [], ◌∷◌, ◌++◌}
use native.Mathlib.Omega.{arith}
use Rattle.std.proofs.Common.{le_refl}
use Rattle.std.proofs.Math.Nat.{suc-mul, mul-le-mul_right}
use Rattle.std.proofs.Math.ListN.{length}
use Rattle.rules.specs.Machine.{Pair, weight, steps, zip}
use Rattle.invariants.specs.Floor.{All}
use Rattle.invariants.specs.Running.{weights, ahead}

weight_some : (l : ℕ) → 1 ≤ weight l
unfolding weight
weight_some zero = omega arith
weight_some (suc l) = omega arith

weight_grows : (k l : ℕ) → weight l ≤ weight (l + k)
unfolding weight
weight_grows zero l = rw (let z : l + 0 ≡ l = omega arith in z) (le_refl _)
weight_grows (suc k) l = let h = weight_grows k l in rw (let z : l + suc k ≡ suc (l + k) = omega arith in z) (omega arith)

-- lower records weigh no more
weight_mono : (l k : ℕ) → l ≤ k → weight l ≤ weight k
weight_mono l k h = let g = weight_grows (k - l) l in let z : l + (k - l) ≡ k = omega arith in rw z at g

-- a lower record weighs less than a sixteenth
pub weight_lower : (x l : ℕ) → x < l → 16 * weight x < weight l
unfolding weight
weight_lower x zero h = absurd (omega arith)
weight_lower x (suc l) h = let g = weight_mono x l (omega arith) in omega arith

-- pairs whose left sides are at most l
weights_bound : (l : ℕ) (q : List Pair) → All (λ p. p.0 ≤ l) q → weights q ≤ length q * weight l
unfolding weights
weights_bound l [] h = omega arith
weights_bound l (p ∷ q) h = let g = weights_bound l q h.1 in let w = weight_mono p.0 l h.0 in rw suc-mul (omega arith)

pub weights-append : (p q : List Pair) → weights (p ++ q) ≡ weights p + weights q
unfolding weights
weights-append [] q = omega arith
weights-append (x ∷ p) q = let g = weights-append p q in omega arith

zip-weights : (l : ℕ) (xs ys : List ℕ) → All (λ x. x < suc l) xs → weights (zip xs ys) ≤ length xs * weight l
unfolding zip weights
zip-weights l [] ys h = omega arith
zip-weights l (x ∷ xs) [] h = omega arith
zip-weights l (x ∷ xs) (y ∷ ys) h = let g = zip-weights l xs ys h.1 in let a = h.0 in let w = weight_mono x l (omega arith) in rw suc-mul (omega arith)

-- up to 16 pairs of parts weigh less than the whole
pub zip_lower : (l : ℕ) (xs ys : List ℕ) → length xs ≤ 16 → All (λ x. x < l) xs → weights (zip xs ys) < weight l
unfolding weight zip weights
zip_lower zero [] ys few h = omega arith
zip_lower zero (x ∷ xs) ys few h = let a = h.0 in absurd (omega arith)
zip_lower (suc l) xs ys few h = let b = zip-weights l xs ys h in let m = mul-le-mul_right {m = length xs} {n = 16} (weight l) few in omega arith

module _ (R C : ℕ) where
  -- without writing
  pub lighter : (u : ℕ) (p q : List Pair) → weights p < weights q → ahead R C u p < ahead R C u q
  unfolding ahead
  lighter u p q h = omega arith

  -- the pair in hand is dropped
  pub dropped : (u v l r : ℕ) (q : List Pair) → u ≤ v → ahead R C v q < ahead R C u ((l, r) ∷ q)
  unfolding ahead weights
  dropped u v l r q h =
      let m = mul-le-mul_right {m = R - v} {n = R - u} (1 + (C + 1) * weight R) (omega arith) in
      let w = weight_some l in
      omega arith

  -- a record is written
  pub written : (u v : ℕ) (p q : List Pair) → u < v → v ≤ R → length p ≤ C → All (λ p. p.0 ≤ R) p → ahead R C v p < ahead R C u q
  unfolding ahead
  written u v p q h g few low =
      let m = mul-le-mul_right {m = suc (R - v)} {n = R - u} (1 + (C + 1) * weight R) (omega arith) in
      let b = weights_bound R p low in
      let c = mul-le-mul_right {m = length p} {n = C + 1} (weight R) (omega arith) in
      let e : suc (R - v) * (1 + (C + 1) * weight R) ≡ (R - v) * (1 + (C + 1) * weight R) + (1 + (C + 1) * weight R) = suc-mul (R - v) (1 + (C + 1) * weight R) in
      omega arith

  -- the run's fuel is more
  pub steps-more : (u : ℕ) (q : List Pair) → length q ≤ C → All (λ p. p.0 ≤ R) q → ahead R C u q < steps R C
  unfolding ahead steps
  steps-more u q few low =
      let m = mul-le-mul_right {m = R - u} {n = R} (1 + (C + 1) * weight R) (omega arith) in
      let b = weights_bound R q low in
      let c = mul-le-mul_right {m = length q} {n = C + 1} (weight R) (omega arith) in
      let z : R + 1 ≡ suc R = omega arith in
      let e : suc R * (1 + (C + 1) * weight R) ≡ R * (1 + (C + 1) * weight R) + (1 + (C + 1) * weight R) = suc-mul R (1 + (C + 1) * weight R) in
      rw z (omega arith)
