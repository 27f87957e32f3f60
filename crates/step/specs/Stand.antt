-- The pair in hand where two sides meet whose heads are no solved holes.
use Rattle.std.specs.Prelude.{ℕ, List, ◌∷◌}
use Rattle.queue.specs.declared.Ring.{Ring}
use Rattle.invariants.specs.Running.{Running}
use Rattle.store.specs.Said.{store}
use Rattle.promise.specs.Known.{Known}
use Rattle.queue.specs.Ring.{view, Fine as Ringed}

-- the pair (l, r) is in hand while those of the ring wait
pub record Stood (R n : ℕ) (ws ss : List ℕ) (used : ℕ) (q : List ℕ) (g : Ring) (l r : ℕ) : Type 0 where
  pub home : ℕ → ℕ
  pub running : Running R g.cap n home (store ws ss used) ((l, r) ∷ view q g)
  pub known : Known R (store ws ss used) ((l, r) ∷ view q g)
  pub ring : Ringed q g
