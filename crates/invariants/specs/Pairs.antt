-- Pairs of terms: kept where the store grows, made of arguments; the positions at which arguments agree.
use Rattle.std.specs.Prelude.{ℕ, suc, ◌+◌, ◌<◌, ◌≤◌, ◌≡◌, refl, List, [], ◌∷◌, ◌++◌, Bool, true, false, length, eqb}
use Rattle.std.proofs.Common.{arith, le_refl}
use Rattle.rules.specs.Store.{Store}
use Rattle.rules.specs.Machine.{Pair, zip, agreeing}
use Rattle.invariants.specs.Floor.{Sub, All, Ext}
use Rattle.invariants.specs.Grow.{all_map, sub-kept}
use Rattle.invariants.specs.Copy.{Nobody}
use Rattle.invariants.specs.Running.{Sides}

-- pairs stay pairs where the store has grown
pub sides-kept : (R n : ℕ) (home : ℕ → ℕ) (s : Store) (home₁ : ℕ → ℕ) (s₁ : Store) (q : List Pair) → Ext Nobody home s home₁ s₁ → All (Sides home s) q → All (Sides home₁ s₁) q
sides-kept R n home s home₁ s₁ q e h =
    all_map (Sides home s) (Sides home₁ s₁)
    (λ p i.
    record {
      left = sub-kept Nobody R n home s home₁ s₁ 0 s.used s₁.used p.0 e (le_refl _) e.grown i.left;
      right = sub-kept Nobody R n home s home₁ s₁ 0 s.used s₁.used p.1 e (le_refl _) e.grown i.right;
    })
    q h

pub all_append : {A : Type 0} (P : A → Type 0) (xs ys : List A) → All P xs → All P ys → All P (xs ++ ys)
all_append P [] ys h g = g
all_append P (x ∷ xs) ys h g = (h.0, all_append P xs ys h.1 g)

pub zip-sides : (home : ℕ → ℕ) (s : Store) (xs ys : List ℕ) → All (Sub s.words home 0 s.used) xs → All (Sub s.words home 0 s.used) ys → All (Sides home s) (zip xs ys)
unfolding zip
zip-sides home s [] ys h g = tt
zip-sides home s (x ∷ xs) [] h g = tt
zip-sides home s (x ∷ xs) (y ∷ ys) h g = (record { left = h.0; right = g.0 }, zip-sides home s xs ys h.1 g.1)

-- agreeing positions are positions
pub agreeing_few : (j : ℕ) (xs ys : List ℕ) → (length (agreeing j xs ys) ≤ length xs) × All (λ k. k < j + length xs) (agreeing j xs ys)
unfolding agreeing
agreeing_few j [] ys = (omega arith, tt)
agreeing_few j (x ∷ xs) [] = (omega arith, tt)
agreeing_few j (x ∷ xs) (y ∷ ys) = go (eqb x y) refl (agreeing_few (j + 1) xs ys)
  where
    go : (b : Bool) → eqb x y ≡ b → (length (agreeing (j + 1) xs ys) ≤ length xs) × All (λ k. k < j + 1 + length xs) (agreeing (j + 1) xs ys)
        → (length (agreeing j (x ∷ xs) (y ∷ ys)) ≤ suc (length xs)) × All (λ k. k < j + suc (length xs)) (agreeing j (x ∷ xs) (y ∷ ys))
    go true e ih =
        rw (e, agreeing) (omega arith, (omega arith, all_map (λ k. k < j + 1 + length xs) (λ k. k < j + suc (length xs)) (λ k q. omega arith) (agreeing (j + 1) xs ys) ih.1))
    go false e ih =
        rw (e, agreeing) (omega arith, all_map (λ k. k < j + 1 + length xs) (λ k. k < j + suc (length xs)) (λ k q. omega arith) (agreeing (j + 1) xs ys) ih.1)
