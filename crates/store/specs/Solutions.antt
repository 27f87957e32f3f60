-- The record of a hole's solution, if it has one.
use Rattle.std.specs.Prelude.{ℕ, List, true, false, get_or, eqb, Option, Some, None}
use Rattle.rules.specs.Words.{NONE}

-- a word as the record that it names: NONE names none
unfoldable pub named_record : ℕ → Option ℕ
named_record w = elim (eqb w NONE) [ true ↦ None | false ↦ Some w ]

-- the solution of hole h
abbrev pub solution_in : List ℕ → ℕ → Option ℕ
solution_in ss h = named_record (get_or ss h NONE)
