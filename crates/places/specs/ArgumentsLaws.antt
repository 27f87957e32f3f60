-- The map of arguments is the rules' map, both ways.
use Rattle.std.specs.Prelude.{ℕ, ◌+◌, ◌<◌, ◌≡◌, refl, List, [], ◌∷◌, true, false}
use Rattle.std.proofs.Common.{arith}
use Rattle.places.specs.declared.Map.{Map}
use Rattle.rules.specs.Words.{NONE}
use Rattle.rules.specs.Map.{to_positions, to_variables}
use Rattle.invariants.specs.Floor.{All}
use Rattle.places.specs.Maps.{leads, map_of}
use Rattle.places.specs.MapsLaws.{leads_some}
use Rattle.places.specs.Lists.{vars_of}
use Rattle.places.specs.Arguments.{Arguments}

pub leads-variables : (j : ℕ) (vs : List ℕ) → All (λ v. v < NONE) vs → leads j vs ≡ to_variables j vs
unfolding leads to_variables
leads-variables j [] h = refl
leads-variables j (v ∷ vs) h = let lt = h.0 in rw (leads_some j v vs (omega arith), leads-variables (j + 1) vs h.1)

module _ (ws : List ℕ) (l : ℕ) (r : Map) (h : Arguments ws l r) where
  -- from each variable to its position
  pub arguments_above : map_of true r ≡ to_positions 0 (vars_of ws l)
  unfolding map_of
  arguments_above = rw h.run

  -- from each position to its variable; NONE is no variable
  pub arguments_inside : All (λ v. v < NONE) (vars_of ws l) → map_of false r ≡ to_variables 0 (vars_of ws l)
  unfolding map_of
  arguments_inside a = rw h.run (leads-variables 0 (vars_of ws l) a)
