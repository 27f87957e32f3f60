-- What looking a variable up in a map asks and says.
use Rattle.std.specs.Prelude.{ℕ, ◌+◌, ◌<◌, ◌≡◌, Bool, false, Option, Some, None, Option, Some, None}
use Rattle.table.specs.declared.Variable.{Variable}
use Rattle.places.specs.declared.Map.{Map}
use Rattle.rules.specs.Words.{NONE}
use Rattle.invariants.specs.Places.{Low}
use Rattle.places.specs.Maps.{map_of}

-- a place as the rules have it
abbrev pub found_at : Option Variable → Option ℕ
found_at (Some v) = Some v.0
found_at None = None

-- what a lookup under d lambdas asks
pub record Looks (b : Bool) (m : Map) (d : ℕ) : Type 0 where
  pub top : ℕ
  pub low : Low (map_of b m) top
  pub fits : top + d < 134217728

-- below a solved hole, under d lambdas, a variable is bound inside or has a position
pub record Within (b : Bool) (m : Map) (d v : ℕ) : Type 0 where
  pub within : b ≡ false → v < d + m.len

-- a place as a number, NONE for none
unfoldable pub seat : Option ℕ → ℕ
seat (Some w) = w
seat None = NONE
