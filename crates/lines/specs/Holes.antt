-- The input holes are noted in record order.
use Rattle.std.specs.Prelude.{ℕ, ◌*◌, ◌≤◌, List, length}
use Rattle.rules.specs.Words.{HO}
use Rattle.records.specs.Noting.{Noted}

-- the first k notes are the holes among the first n records
abbrev pub Holes : List ℕ → List ℕ → ℕ → ℕ → Type 0
Holes ws hs k n = Noted HO ws hs k n

-- n records lie in the table, and each of them can be noted
pub record Notable (ws hs : List ℕ) (n : ℕ) : Type 0 where
  pub inside : 4 * n ≤ length ws
  pub few : n ≤ 4096
  pub room : n ≤ length hs
