-- What writing asks.
use Rattle.std.specs.Prelude.{ℕ, ◌*◌, ◌≤◌, List, Bool, true, false, length}
use Rattle.store.specs.declared.Part.{Part}

-- what writing asks: the part lies in the table, and its first records are used
abbrev pub Writing : List ℕ → Part → ℕ → Type 0
Writing ws p u = (4 * p.room ≤ length ws) × (p.n ≤ u)

-- one of a pair's two numbers
unfoldable pub variable_of : Bool → ℕ → ℕ → ℕ
variable_of true j w = j
variable_of false j w = w
