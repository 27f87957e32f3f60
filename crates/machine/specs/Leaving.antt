-- An admitted input, and what the machine leaves behind.
use Rattle.std.specs.Prelude.{ℕ, ◌≡◌, List, true}
use Rattle.rules.specs.declared.Failure.{Failure}
use Rattle.rules.specs.declared.Reply.{Reply}
use Rattle.rules.specs.Answers.{number, reply, records}
use Rattle.rules.specs.Solve.{Refusal, leaves}
use Rattle.invariants.specs.Floor.{Rest}
use Rattle.invariants.specs.Admit.{Admitted}
use Rattle.promise.specs.Admitting.{Admitted as Typed}
use Rattle.store.specs.Clearing.{Cleared}
use Rattle.machine.specs.Start.{Noted}

-- an admitted input, in R records, with the equations noted
pub record Admits (R n : ℕ) (ws ss es : List ℕ) : Type 0 where
  pub input : Admitted true ws ss n
  pub typed : Typed ws ss n
  pub room : records ws ≡ R
  pub noted : Noted ws n es

-- a failure's reply; where all but what was written is as it was cleared, all is cleared
pub record Fails (n R : ℕ) (e : Failure) (ws ss ws₁ ss₁ : List ℕ) (r : Reply) : Type 0 where
  pub says : reply (number e) 0 0 ≡ r
  pub clears : Rest R n ws ss → Cleared n R ws ss ws₁ ss₁

-- left behind where x is refused, or nothing is
abbrev pub LeftBehind : Refusal → List ℕ → List ℕ → List ℕ → ℕ → List ℕ → List ℕ → List ℕ → Reply → Type 0
LeftBehind x ws ss qs n ws₁ ss₁ qs₁ r = leaves x ws ss qs n ≡ record { table = ws₁; solutions = ss₁; queue = qs₁; said = r }
