-- How high the variables of an occurrence are, and a side after step 1.
use Prim.Native.Nat.{ℕ, ◌<◌, ◌≤◌}
use Rattle.std.specs.Prelude.{◌≡◌, List, [], ◌∷◌, map, ◌⊎◌}
use native.Mathlib.Omega.{arith}
use Rattle.rules.specs.Words.{tag, field_a, field_b, elements, arguments, variables, HA}
use Rattle.rules.specs.Store.{Store}
use Rattle.invariants.specs.Floor.{Sub, All, limit, Fine}
use Rattle.invariants.specs.Grow.{all_map}

-- copies may hold solved holes: their homes are 0, and no hole is barred
abbrev pub Nobody : ℕ → Type 0
Nobody v = ⊥

all_mapped : (P : ℕ → Type 0) (g : ℕ → ℕ) (xs : List ℕ) → All (λ x. P (g x)) xs → All P (map g xs)
all_mapped P g [] h = tt
all_mapped P g (x ∷ xs) h = (h.0, all_mapped P g xs h.1)

-- the variables of an occurrence are no higher than its limit
pub occurrence_low : (R n : ℕ) (home : ℕ → ℕ) (s : Store) (r : ℕ) → Fine R n home s → r < s.used → tag s.words r ≡ HA → All (λ v. v ≤ limit r) (variables s.words r)
unfolding variables arguments
occurrence_low R n home s r f lt nine =
    all_mapped (λ v. v ≤ limit r) (λ x. field_a s.words x) (elements s.words (field_b s.words r))
    (all_map (Sub s.words home (home r) r) (λ x. field_a s.words x ≤ limit r)
    (λ x p. let b = p.below in let l = (f.good x (omega arith)).low p.term.low p.term.high in omega arith)
    (elements s.words (field_b s.words r)) ((f.good r lt).app (omega arith) (omega arith)).all)

-- a side after step 1: nothing was written, or there is less room
pub record Expanded (s : Store) (r : ℕ) (home : ℕ → ℕ) (s₁ : Store) (x : ℕ) : Type 0 where
  pub sub : Sub s₁.words home 0 s₁.used x
  pub less : ((s₁ ≡ s) × (x ≡ r)) ⊎ (s.used < s₁.used)
