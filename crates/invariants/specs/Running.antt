-- A state of the run: the invariant, the sides of the pairs, how many they are, and how many steps are ahead at most.
use Rattle.std.specs.Prelude.{ℕ, ◌+◌, ◌-◌, ◌*◌, ◌<◌, ◌≤◌, List, [], ◌∷◌, length}
use Rattle.rules.specs.Store.{Store}
use Rattle.rules.specs.Machine.{Pair, Next, weight, upcoming}
use Rattle.invariants.specs.Floor.{Sub, All, Fine}

-- both sides of a pair are terms of the table
pub record Sides (home : ℕ → ℕ) (s : Store) (p : Pair) : Type 0 where
  pub left : Sub s.words home 0 s.used p.0
  pub right : Sub s.words home 0 s.used p.1

-- the pair in hand and those that wait; without a record there is no pair
pub record Running (R C n : ℕ) (home : ℕ → ℕ) (s : Store) (q : List Pair) : Type 0 where
  pub some : 1 ≤ length q → 1 ≤ n
  pub fine : 1 ≤ n → Fine R n home s
  pub sides : All (Sides home s) q
  pub few : length q ≤ C

-- more than the steps, none of which writes, that come of these pairs
unfoldable pub weights : List Pair → ℕ
weights [] = 0
weights (p ∷ q) = weight p.0 + weights q

-- as many steps as are ahead at most: it falls at each
unfoldable pub ahead : ℕ → ℕ → ℕ → List Pair → ℕ
ahead R C u q = (R - u) * (1 + (C + 1) * weight R) + weights q

-- what a step comes to, for the pair (l, r) while q waits
pub record Stepped (R C n u l r : ℕ) (q : List Pair) (home : ℕ → ℕ) (s : Store) (next : Next) : Type 0 where
  pub running : Running R C n home s (upcoming q next)
  pub falls : ahead R C s.used (upcoming q next) < ahead R C u ((l, r) ∷ q)
