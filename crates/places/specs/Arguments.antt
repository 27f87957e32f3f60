-- A hole's arguments, and a context's variables in order, as maps.
use Rattle.std.specs.Prelude.{ℕ, ◌≡◌, List, false, length}
use Rattle.places.specs.declared.Map.{Map}
use Rattle.rules.specs.Lists.{below}
use Rattle.rules.specs.Words.{elements}
use Rattle.rules.specs.Map.{to_variables}
use Rattle.places.specs.Maps.{places_of, map_of}
use Rattle.places.specs.Lists.{vars_of}

-- the variables of a list of bare variables are the places
pub record Arguments (ws : List ℕ) (l : ℕ) (r : Map) : Type 0 where
  pub run : places_of r ≡ vars_of ws l
  pub len : r.len ≡ length (elements ws l)

-- the variables of a context in order
pub record Ordered (ws : List ℕ) (l : ℕ) (r : Map) : Type 0 where
  pub run : map_of false r ≡ to_variables 0 (below (length (elements ws l)))
  pub len : r.len ≡ length (elements ws l)
