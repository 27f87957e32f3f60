-- Lambdas written after a body, the innermost first.
use Rattle.std.specs.Prelude.{ℕ, zero, suc, ◌≡◌, List, Ok}
use Rattle.store.specs.declared.Written.{Written}
use Rattle.rules.specs.Store.{Out, ◌>>=◌}
use Rattle.rules.specs.Words.{LA}
use Rattle.store.specs.Said.{Answer, Since, shown, under}

-- k lambdas over what was written
unfoldable pub lambdas : ℕ → ℕ → Out ℕ → Out ℕ
lambdas R zero o = o
lambdas R (suc k) o = lambdas R k (o >>= under R LA 0)

-- words and answer, whatever the solutions are
pub record Under (n R k : ℕ) (ws : List ℕ) (w : Written) (ws₁ : List ℕ) (x : Answer) : Type 0 where
  pub run : (ss : List ℕ) → lambdas R k (shown ws ss (Ok w)) ≡ shown ws₁ ss x
  pub grown : Since n x
