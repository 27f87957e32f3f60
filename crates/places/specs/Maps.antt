-- The map by value, read as the rules' list of pairs: from places to positions, or from positions to places.
use Rattle.std.specs.Prelude.{ℕ, ◌+◌, ◌≡◌, List, [], ◌∷◌, Bool, true, false, take, set, replicate, eqb}
use Rattle.rules.specs.Words.{NONE}
use Rattle.rules.specs.Map.{Map as Pairs, sources, targets, to_positions}
use Rattle.places.specs.declared.Map.{Map}

-- from each position, counted from j, that has a place, to that place
unfoldable pub leads : ℕ → List ℕ → Pairs
leads j [] = []
leads j (w ∷ ws) = elim (eqb w NONE) [ true ↦ leads (j + 1) ws | false ↦ (j, w) ∷ leads (j + 1) ws ]

-- the places of its positions
abbrev pub places_of : Map → List ℕ
places_of m = take m.len m.places

-- the map as the rules have it: from places to positions, or from positions to places
unfoldable pub map_of : Bool → Map → Pairs
map_of true m = to_positions 0 (places_of m)
map_of false m = leads 0 (places_of m)

-- what the map leads from, or to
unfoldable pub side : Bool → Pairs → List ℕ
side true m = sources m
side false m = targets m

-- no position, and no place anywhere in the array
pub record Unplaced (m : Map) : Type 0 where
  pub places : m.places ≡ replicate 16 NONE
  pub len : m.len ≡ 0

-- the next position has this place
pub record Pushed (m : Map) (w : ℕ) (m₁ : Map) : Type 0 where
  pub places : m₁.places ≡ set m.places m.len w
  pub len : m₁.len ≡ m.len + 1
