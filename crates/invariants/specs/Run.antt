-- A result of which nothing is said.
use Rattle.std.specs.Prelude.{ℕ}
use Rattle.rules.specs.Store.{Store}

-- nothing is said of the result
abbrev pub Any : {A : Type 0} → (ℕ → ℕ) → Store → A → Type 0
Any home s x = Unit {0}
