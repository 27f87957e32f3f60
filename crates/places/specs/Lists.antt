-- Lists in the table, cell by cell: what reading them asks.
use Rattle.std.specs.Prelude.{ℕ, ◌≤◌, List, map, length}
use Rattle.rules.specs.Words.{field_a, elements}
use Rattle.laws.specs.Lists.{Listed}

-- a list of at most 16 elements that can be read
pub record Counts (ws : List ℕ) (l : ℕ) : Type 0 where
  pub list : Listed ws l
  pub few : length (elements ws l) ≤ 16

-- the variable numbers of a list of bare variables
abbrev pub vars_of : List ℕ → ℕ → List ℕ
vars_of ws l = map (λ x. field_a ws x) (elements ws l)
