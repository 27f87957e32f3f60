-- Records n to R - 1 all zero, the first R solution words NONE: where the machine starts.
use Rattle.std.specs.Prelude.{ℕ, ◌-◌, ◌*◌, ◌≤◌, ◌≡◌, List, length}
use Rattle.rules.specs.Words.{NONE}
use Rattle.rules.specs.Solve.{filled}

-- what clearing asks
pub record Clearing (n R : ℕ) (ws ss : List ℕ) : Type 0 where
  pub in_table : n ≤ R
  pub few : R ≤ 4096
  pub room : 4 * R ≤ length ws
  pub held : R ≤ length ss

-- table and solution words cleared
pub record Cleared (n R : ℕ) (ws ss ws₁ ss₁ : List ℕ) : Type 0 where
  pub table : filled (4 * n) (4 * (R - n)) 0 ws ≡ ws₁
  pub solutions : filled 0 R NONE ss ≡ ss₁
