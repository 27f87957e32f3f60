-- Answers 6 and 7 together: what the descent judges of the first n records.
use Rattle.std.specs.Prelude.{ℕ, ◌≡◌, true, false, List, eqb, Some, None, Result, Ok, Err}
use Rattle.rules.specs.Lists.{those, below}
use Rattle.rules.specs.Words.{NONE, EQ, has}
use Rattle.rules.specs.Typing.{ill_typed}
use Rattle.rules.specs.Pattern.{no_pattern}
use Rattle.rules.specs.declared.Refused.{Refused}
use Rattle.rules.specs.declared.Refused.TheVariants.{IllTyped, NoPattern}

-- the lowest ill-typed equation; if there is none, the lowest offending hole occurrence
unfoldable pub judged : List ℕ → ℕ → Result Unit Refused
judged ws n = elim (ill_typed ws n) [ Some e ↦ Err (IllTyped e) | None ↦ elim (eqb (no_pattern ws n) NONE) [ true ↦ Ok tt | false ↦ Err (NoPattern (no_pattern ws n)) ] ]

-- where the notes are the equations among the first n records, these are judged
pub record Judges (ws es : List ℕ) (r : Result Unit Refused) : Type 0 where
  pub says : (n : ℕ) → es ≡ those (λ e. has ws e EQ) (below n) → r ≡ judged ws n
