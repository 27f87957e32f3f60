-- The context entries at kept positions, and their cells.
use Rattle.std.specs.Prelude.{ℕ, ◌*◌, ◌≤◌, ◌≡◌, List, map, length, get_or}
use Rattle.places.specs.declared.Map.{Map}
use Rattle.rules.specs.Words.{elements}
use Rattle.laws.specs.Lists.{Listed}

-- the context entries at these positions
abbrev pub contexts : List ℕ → ℕ → List ℕ → List ℕ
contexts ws l ks = map (λ k. get_or (elements ws l) k 0) ks

-- what writing context cells asks: a position of the map for each entry of the context
pub record Choosing (ws : List ℕ) (n u R l : ℕ) (m : Map) : Type 0 where
  pub room : 4 * R ≤ length ws
  pub since : n ≤ u
  pub list : Listed ws l
  pub arity : length (elements ws l) ≡ m.len
