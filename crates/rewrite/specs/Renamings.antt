-- The map that follows a hole's arguments, each of which has a place.
use Rattle.std.specs.Prelude.{ℕ, ◌≡◌, List, false, Some}
use Rattle.rules.specs.Map.{place_of}
use Rattle.invariants.specs.Floor.{All}
use Rattle.places.specs.declared.Map.{Map}
use Rattle.places.specs.Maps.{map_of}
use Rattle.places.specs.Looking.{Looks}
use Rattle.places.specs.Lists.{Counts, vars_of}

-- a variable has a place
abbrev pub Has : Map → ℕ → ℕ → Type 0
Has m d v = (to : ℕ) × (place_of (map_of false m) d v ≡ Some to)

-- what renaming arguments asks: each has a place
pub record Renamings (ws : List ℕ) (m : Map) (d l : ℕ) : Type 0 where
  pub counts : Counts ws l
  pub looks : Looks false m d
  pub have : All (Has m d) (vars_of ws l)
