-- Answers 4 to 7 in their order, otherwise 0.
use Rattle.std.specs.Prelude.{ℕ, true, false, List, eqb, ltb, Some, None}
use Rattle.rules.specs.declared.Refused.TheVariants.{NoRoom, Broken, IllTyped, NoPattern}
use Rattle.rules.specs.declared.Reply.{Reply}
use Rattle.rules.specs.Words.{NONE}
use Rattle.rules.specs.Answers.{reply, refusing, records}
use Rattle.rules.specs.Records.{broken}
use Rattle.rules.specs.Typing.{ill_typed}
use Rattle.rules.specs.Pattern.{no_pattern}
use Rattle.rules.specs.Solve.{Refusal, admitted, refused}

-- the reply to what comes before the machine: 0 where nothing is refused
unfoldable pub saying : Refusal → Reply
saying admitted = reply 0 0 0
saying (refused x) = refusing x

-- the order 4, 5, 6, 7
unfoldable pub checked : List ℕ → ℕ → Reply
checked ws n =
    elim (ltb (records ws) n) [
      | true ↦ refusing NoRoom
      | false ↦ elim (broken ws n) [
        | Some r ↦ refusing (Broken r)
        | None ↦ elim (ill_typed ws n) [
          | Some r ↦ refusing (IllTyped r)
          | None ↦ elim (eqb (no_pattern ws n) NONE) [ false ↦ refusing (NoPattern (no_pattern ws n)) | true ↦ reply 0 0 0 ]
        ]
      ]
    ]
