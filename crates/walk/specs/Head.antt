-- What a rigid head is written as: a constant as it is, a variable as its place; and whether it has no arguments.
use Rattle.std.specs.Prelude.{ℕ, Bool, true, false, eqb, Option, Some}
use Rattle.table.specs.declared.Record.{Record}
use Rattle.rules.specs.Words.{NONE, CA, VA}
use Rattle.rules.specs.Map.{Map, place_of}

unfoldable pub head_of : Map → ℕ → Record → Option ℕ
head_of m d w = elim (eqb w.tag VA) [ true ↦ place_of m d w.a | false ↦ Some w.a ]

-- a rigid head without arguments
unfoldable pub is_leaf : Record → Bool
is_leaf w = elim (eqb w.b NONE) [ true ↦ elim (eqb w.tag CA) [ true ↦ true | false ↦ eqb w.tag VA ] | false ↦ false ]
