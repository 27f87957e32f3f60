-- Where the machine starts.
use Rattle.std.specs.Prelude.{ℕ, ◌*◌, ◌≤◌, ◌≡◌, List, length}
use Rattle.rules.specs.Lists.{those, below}
use Rattle.rules.specs.Words.{EQ, has}
use Rattle.rules.specs.Machine.{equations}
use Rattle.invariants.specs.Running.{Running}
use Rattle.promise.specs.Known.{Known}
use Rattle.store.specs.Said.{store}

-- these numbers are those of the equations, in record order
abbrev pub Noted : List ℕ → ℕ → List ℕ → Type 0
Noted ws n es = es ≡ those (λ e. has ws e EQ) (below n)

-- a table and solutions as they stand where the machine starts, with the equations noted
pub record Started (R n : ℕ) (ws ss q : List ℕ) (cap : ℕ) (es : List ℕ) : Type 0 where
  pub inside : 4 * n ≤ length ws
  pub room : 2 * cap ≤ length q
  pub few : cap ≤ 1024
  pub home : ℕ → ℕ
  pub running : length (equations ws n) ≤ cap → Running R cap n home (store ws ss n) (equations ws n)
  pub known : Known R (store ws ss n) (equations ws n)
  pub noted : Noted ws n es
