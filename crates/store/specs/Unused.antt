-- The first record that was not written.
use Rattle.std.specs.Prelude.{ℕ, ◌-◌, ◌<◌, ◌≤◌, ◌≡◌, List}
use Rattle.rules.specs.Words.{tag}

-- the first record from n on that was not written is from `low` on and at most `high`: the one before `low` has a tag, `high` has none
pub record Unused (n R : ℕ) (ws : List ℕ) (low high : ℕ) : Type 0 where
  pub since : n ≤ low
  pub order : low ≤ high
  pub within : high ≤ R
  pub tagged : n < low → 1 ≤ tag ws (low - 1)
  pub blank : high < R → tag ws high ≡ 0
