-- What joining the argument pairs of two lists asks and says.
use Rattle.std.specs.Prelude.{ℕ, ◌≡◌, List, length}
use Rattle.rules.specs.Words.{elements}
use Rattle.rules.specs.Machine.{Pair as Waiting, zip}
use Rattle.laws.specs.Lists.{Listed}
use Rattle.queue.specs.declared.Ring.{Ring}
use Rattle.queue.specs.Ring.{Fine}

-- the argument pairs, in order
abbrev pub pairs_of : List ℕ → ℕ → ℕ → List Waiting
pairs_of ws l r = zip (elements ws l) (elements ws r)

-- both lists can be read and are equally long
pub record Both (ws : List ℕ) (l r : ℕ) : Type 0 where
  pub left : Listed ws l
  pub right : Listed ws r
  pub same : length (elements ws l) ≡ length (elements ws r)

pub record Joining (ws q : List ℕ) (g : Ring) (l r : ℕ) : Type 0 where
  pub both : Both ws l r
  pub fine : Fine q g
