-- A map under which a variable, or every position of a context, has a place.
use Rattle.std.specs.Prelude.{ℕ, ◌<◌, ◌≡◌, Some}
use Rattle.rules.specs.Map.{Map, place_of}
use Rattle.trees.specs.Moves.{Def}
use Rattle.promise.specs.Maps.{place}

-- the variable v has a place
abbrev pub HasPlace : Map → ℕ → ℕ → Type 0
HasPlace m d v = (w : ℕ) × (place_of m d v ≡ Some w)

-- so has every position of a context of c variables
pub record Full (m : Map) (c : ℕ) : Type 0 where
  pub place_at : (j : ℕ) → j < c → Def (place m 0) j
