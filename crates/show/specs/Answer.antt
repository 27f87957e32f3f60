-- What the answer of an input hole asks and says.
use Rattle.std.specs.Prelude.{ℕ, ◌*◌, ◌<◌, ◌≤◌, List, length}
use Rattle.rules.specs.Lists.{below}
use Rattle.rules.specs.Words.{field_a, elements}
use Rattle.rules.specs.Map.{to_variables}
use Rattle.promise.specs.ShowKnown.{HoleKnown}
use Rattle.store.specs.Said.{store}
use Rattle.places.specs.Lists.{Counts}
use Rattle.show.specs.Ready.{Final}

-- what showing a hole asks: a final store of the machine, in which it is a hole with at most 16 context variables
pub record Answering (O : ℕ) (ws ss os : List ℕ) (h : ℕ) : Type 0 where
  pub table : Final ws ss
  pub hole : h < table.used
  pub context : Counts ws (field_a ws h)
  pub room : 4 * O ≤ length os
  pub known : HoleKnown table.R (store ws ss table.used) (to_variables 0 (below (length (elements ws (field_a ws h))))) h
