-- The map that follows a hole's arguments.
use Rattle.std.specs.Prelude.{ℕ, ◌≡◌, List, Bool, false, length}
use Rattle.places.specs.declared.Map.{Map}
use Rattle.rules.specs.Words.{elements}
use Rattle.rules.specs.Map.{follow}
use Rattle.invariants.specs.Floor.{All}
use Rattle.places.specs.Maps.{map_of}
use Rattle.places.specs.Looking.{Looks, Within}
use Rattle.places.specs.Lists.{Counts, vars_of}

-- what following asks: each argument is bound inside or has a position
pub record Following (ws : List ℕ) (b : Bool) (m : Map) (d l : ℕ) : Type 0 where
  pub counts : Counts ws l
  pub looks : Looks b m d
  pub within : All (Within b m d) (vars_of ws l)

-- the map that follows; it has a position for each argument
pub record Followed (ws : List ℕ) (b : Bool) (m : Map) (d l : ℕ) (r : Map) : Type 0 where
  pub run : map_of false r ≡ follow (map_of b m) d 0 (vars_of ws l)
  pub len : r.len ≡ length (elements ws l)
