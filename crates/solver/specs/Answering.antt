-- A hole's answer after solving.
use Rattle.std.specs.Prelude.{ℕ, ◌<◌, ◌≡◌, List, length}
use Rattle.rules.specs.declared.Reply.{Reply}
use Rattle.rules.specs.Lists.{below}
use Rattle.rules.specs.Map.{to_variables}
use Rattle.rules.specs.Words.{field_a, elements}
use Rattle.rules.specs.Solve.{Behind}
use Rattle.rules.specs.Show.{answering, shows}
use Rattle.promise.specs.ShowKnown.{HoleKnown}
use Rattle.store.specs.Said.{store}
use Rattle.places.specs.Lists.{Counts}
use Rattle.show.specs.Ready.{Final}

-- a final store of the machine, and an input hole
pub record Answerable (ws ss : List ℕ) (h : ℕ) : Type 0 where
  pub table : Final ws ss
  pub hole : h < table.used
  pub context : Counts ws (field_a ws h)
  pub known : HoleKnown table.R (store ws ss table.used) (to_variables 0 (below (length (elements ws (field_a ws h))))) h

-- after solving answered 0, show writes this and replies so
pub record Writes (ws ss : List ℕ) (h : ℕ) (os os₁ : List ℕ) (r : Reply) : Type 0 where
  pub run : (l : Behind) → l.table ≡ ws → l.solutions ≡ ss → l.said.answer ≡ 0 → shows l os h ≡ record { behind = answering l r; output = os₁ }
