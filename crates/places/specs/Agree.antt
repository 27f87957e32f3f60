-- The positions at which two lists of arguments agree.
use Rattle.std.specs.Prelude.{ℕ, ◌≡◌, List, true, false, length, eqb}
use Rattle.places.specs.declared.Map.{Map}
use Rattle.rules.specs.Words.{NONE, elements}
use Rattle.rules.specs.Map.{sources}
use Rattle.rules.specs.Machine.{agreeing}
use Rattle.laws.specs.Lists.{Listed}
use Rattle.places.specs.Maps.{map_of}
use Rattle.places.specs.Lists.{Counts, vars_of}

-- what comparing asks: two lists that can be read, of the same length
pub record Comparing (ws : List ℕ) (l r : ℕ) : Type 0 where
  pub left : Counts ws l
  pub right : Listed ws r
  pub alike : length (elements ws l) ≡ length (elements ws r)

-- the map leads from the agreeing positions, and has a position for each argument
pub record Agrees (ws : List ℕ) (l r : ℕ) (x : Map) : Type 0 where
  pub run : sources (map_of false x) ≡ agreeing 0 (vars_of ws l) (vars_of ws r)
  pub len : x.len ≡ length (elements ws l)

-- position j, or NONE where the two differ
unfoldable pub agreed : ℕ → ℕ → ℕ → ℕ
agreed j x y = elim (eqb x y) [ true ↦ j | false ↦ NONE ]
