-- What clearing asks and says, part by part.
use Rattle.std.specs.Prelude.{ℕ, ◌+◌, ◌-◌, ◌*◌, ◌≤◌, ◌≡◌, List, length}
use Rattle.std.proofs.Common.{arith}
use Rattle.rules.specs.Words.{NONE}
use Rattle.rules.specs.Solve.{filled}
use Rattle.store.specs.Clearing.{Clearing, Cleared}

module _ (n R : ℕ) (ws ss : List ℕ) (h : Clearing n R ws ss) where
  pub clearing_table : 4 * n + 4 * (R - n) ≤ length ws
  clearing_table = let a = h.in_table in let b = h.room in omega arith

  pub clearing_solutions : 0 + R ≤ length ss
  clearing_solutions = let a = h.held in omega arith

  pub clearing_on : (ws₁ ss₁ : List ℕ) → length ws₁ ≡ length ws → length ss₁ ≡ length ss → Clearing n R ws₁ ss₁
  clearing_on ws₁ ss₁ e f = let a = h.room in let b = h.held in record { in_table = h.in_table; few = h.few; room = omega arith; held = omega arith }

pub cleared : (n R : ℕ) (ws ss ws₁ ss₁ : List ℕ) → filled (4 * n) (4 * (R - n)) 0 ws ≡ ws₁ → filled 0 R NONE ss ≡ ss₁ → Cleared n R ws ss ws₁ ss₁
cleared n R ws ss ws₁ ss₁ e f = record { table = e; solutions = f }
