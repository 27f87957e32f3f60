-- An input within its words, and what is left behind for what is asked.
use Rattle.std.specs.Prelude.{ℕ, ◌≤◌, ◌≡◌, List, false, Option}
use Rattle.rules.specs.declared.Reply.{Reply}
use Rattle.rules.specs.Solve.{refusal}
use Rattle.checks.specs.Refusing.{asks, outside}
use Rattle.machine.specs.Leaving.{LeftBehind}

-- an input within its table and solution words, of at most k records
pub record Inside (k : ℕ) (ws ss : List ℕ) (n : ℕ) : Type 0 where
  pub small : k ≤ 4096
  pub few : n ≤ k
  pub within : outside ws ss n ≡ false

-- left behind for what is asked: the order of refusals, and otherwise the machine
abbrev pub AskedLeaves : Option ℕ → List ℕ → List ℕ → List ℕ → ℕ → List ℕ → List ℕ → List ℕ → Reply → Type 0
AskedLeaves asked ws ss qs n ws₁ ss₁ qs₁ r = LeftBehind (refusal (asks asked ws n) ws ss n) ws ss qs n ws₁ ss₁ qs₁ r
