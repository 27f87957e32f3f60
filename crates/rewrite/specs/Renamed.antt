-- A variable that has a place, renamed.
use Rattle.std.specs.Prelude.{ℕ, ◌≡◌, false, Some}
use Rattle.rules.specs.Map.{place_of}
use Rattle.places.specs.declared.Map.{Map}
use Rattle.places.specs.Maps.{map_of}
use Rattle.places.specs.Looking.{Looks}

-- what renaming asks: the variable has a place
pub record Renaming (m : Map) (d v : ℕ) : Type 0 where
  pub looks : Looks false m d
  pub to : ℕ
  pub has : place_of (map_of false m) d v ≡ Some to
