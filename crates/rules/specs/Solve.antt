-- Solving: the order of refusals, and what is left behind.
use Rattle.std.specs.Prelude.{ℕ, ◌+◌, ◌*◌, ◌-◌, Bool, true, false, List, [], ◌++◌, length, take, drop, replicate, eqb, ltb, Some, None}
use Rattle.rules.specs.declared.Refused.{Refused}
use Rattle.rules.specs.declared.Refused.TheVariants.{NoRoom, Broken, NoHole, IllTyped, NoPattern}
use Rattle.rules.specs.declared.Reply.{Reply}
use Rattle.rules.specs.Lists.{either}
use Rattle.rules.specs.Words.{NONE}
use Rattle.rules.specs.Answers.{number, reply, refusing, records, pairs}
use Rattle.rules.specs.Records.{broken}
use Rattle.rules.specs.Typing.{ill_typed}
use Rattle.rules.specs.Pattern.{no_pattern}
use Rattle.rules.specs.Store.{Store, goes, fails, spent}
use Rattle.rules.specs.Machine.{machine}

-- what comes before the machine: nothing, or why the input is refused
pub data Refusal : Type 0 where
  admitted : Refusal
  refused : Refused → Refusal

-- order: 4, 5, 10, 6, 7; `asked` is false where show is asked for no input hole
unfoldable pub refusal : Bool → List ℕ → List ℕ → ℕ → Refusal
refusal asked ws ss n =
    elim (either (ltb (records ws) n) (ltb (length ss) (records ws))) [
      | true ↦ refused NoRoom
      | false ↦ elim (broken ws n) [
        | Some r ↦ refused (Broken r)
        | None ↦ elim asked [
          | false ↦ refused NoHole
          | true ↦ elim (ill_typed ws n) [
            | Some r ↦ refused (IllTyped r)
            | None ↦ elim (eqb (no_pattern ws n) NONE) [ false ↦ refused (NoPattern (no_pattern ws n)) | true ↦ admitted ]
          ]
        ]
      ]
    ]

-- k words from word i on become x, the others stay
unfoldable pub filled : ℕ → ℕ → ℕ → List ℕ → List ℕ
filled i k x ws = take i ws ++ (replicate k x ++ drop (i + k) ws)

-- where the machine starts: records n to R - 1 all zero, the first R solution words NONE, n records used
unfoldable pub start : List ℕ → List ℕ → ℕ → Store
start ws ss n = record { words = filled (4 * n) (4 * (records ws - n)) 0 ws; solutions = filled 0 (records ws) NONE ss; used = n }

-- the first 2 × C queue words become 0
unfoldable pub emptied : List ℕ → List ℕ
emptied qs = filled 0 (2 * pairs qs) 0 qs

-- table, solution and queue words left behind, and the reply
pub record Behind : Type 0 where
  pub table : List ℕ
  pub solutions : List ℕ
  pub queue : List ℕ
  pub said : Reply

-- where fuel is spent: no words at all, and no answer of the document
abbrev pub unsaid : Behind
unsaid = record { table = []; solutions = []; queue = []; said = reply NONE 0 0 }

-- what is left behind. 4 to 7 and 10: nothing is written; 0: what the machine wrote; 1, 2, 3, 8, 9: all as where the machine started
unfoldable pub leaves : Refusal → List ℕ → List ℕ → List ℕ → ℕ → Behind
leaves (refused x) ws ss qs n = record { table = ws; solutions = ss; queue = qs; said = refusing x }
leaves admitted ws ss qs n =
    let s = start ws ss n in
    elim (machine (records ws) (pairs qs) n s) [
      | goes s₁ q ↦ record { table = s₁.words; solutions = s₁.solutions; queue = emptied qs; said = reply 0 0 s₁.used }
      | fails ws₁ ss₁ e ↦ record { table = s.words; solutions = s.solutions; queue = emptied qs; said = reply (number e) 0 0 }
      | spent ↦ unsaid
    ]

-- solving the first n records of a table, with solution and queue words
unfoldable pub solve : List ℕ → List ℕ → List ℕ → ℕ → Behind
solve ws ss qs n = leaves (refusal true ws ss n) ws ss qs n
