-- The parts of a refusal, in order.
use Rattle.std.specs.Prelude.{ℕ, ◌≤◌, ◌≡◌, List, Bool, true, false, length, take, eqb, ltb, Option, Some, None, Result, Ok, Err}
use Rattle.rules.specs.declared.Refused.TheVariants.{Broken as BrokenAt, NoHole, IllTyped as IllTypedAt, NoPattern as NoPatternAt}
use Rattle.rules.specs.Lists.{both, either, those, below}
use Rattle.rules.specs.Words.{NONE, HO, EQ, has}
use Rattle.rules.specs.Answers.{records}
use Rattle.rules.specs.Records.{broken}
use Rattle.rules.specs.Typing.{ill_typed}
use Rattle.rules.specs.Pattern.{no_pattern}
use Rattle.typing.specs.Asks.{JudgeAsks}
use Rattle.rules.specs.Solve.{Refusal as Refuses, admitted, refused}
use Rattle.laws.specs.Members.{Legal}
use Rattle.rules.specs.declared.Refused.{Refused}

-- the code's refusal as the rules have it
abbrev pub refusal_of : {A : Type 0} → Result A Refused → Refuses
refusal_of (Ok x) = admitted
refusal_of (Err x) = refused x

-- record h is an input hole
unfoldable pub is_hole : List ℕ → ℕ → ℕ → Bool
is_hole ws n h = both (ltb h n) (has ws h HO)

-- what is asked for, solving or the answer of a record, can be had
unfoldable pub asks : Option ℕ → List ℕ → ℕ → Bool
asks None ws n = true
asks (Some h) ws n = is_hole ws n h

-- 6 and 7
unfoldable pub typed : List ℕ → ℕ → Refuses
typed ws n = elim (ill_typed ws n) [ Some r ↦ refused (IllTypedAt r) | None ↦ elim (eqb (no_pattern ws n) NONE) [ false ↦ refused (NoPatternAt (no_pattern ws n)) | true ↦ admitted ] ]

-- 10, then 6 and 7
unfoldable pub asking : Bool → List ℕ → ℕ → Refuses
asking b ws n = elim b [ false ↦ refused NoHole | true ↦ typed ws n ]

-- 5, then the others
unfoldable pub sound : Bool → List ℕ → ℕ → Refuses
sound b ws n = elim (broken ws n) [ Some r ↦ refused (BrokenAt r) | None ↦ asking b ws n ]

-- answer 4
unfoldable pub outside : List ℕ → List ℕ → ℕ → Bool
outside ws ss n = either (ltb (records ws) n) (ltb (length ss) (records ws))

-- the first n records are legal, the notes are their equations, and can be judged
pub record AskedAsks (ws st es : List ℕ) (n : ℕ) : Type 0 where
  pub legal : Legal ws n
  pub noted : es ≡ those (λ e. has ws e EQ) (below n)
  pub judge : JudgeAsks ws st es

-- 5, 10, 6 and 7; where the problem is admitted, its equations are noted
pub record Settled (ws es : List ℕ) (n : ℕ) (b : Bool) (r : Result ℕ Refused) : Type 0 where
  pub says : sound b ws n ≡ refusal_of r
  pub noted : (k : ℕ) → r ≡ Ok k → take k es ≡ those (λ e. has ws e EQ) (below n)
  pub few : (k : ℕ) → r ≡ Ok k → k ≤ n
