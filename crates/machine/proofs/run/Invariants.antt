use Rattle.invariants.specs.Running.{ahead}
use mathlib.Core.List.{◌∷◌}
use Rattle.queue.specs.Ring.{view, waiting}
use Rattle.machine.proofs.Turning.{Turn}
use Rattle.machine.proofs.run.Given as goal

abbrev pub invariant-turns : goal.invariant-turns
invariant-turns l = Turn l.part.room l.part.n l.initial.ring.cap (waiting l.initial.pair ∷ view l.initial.queue l.initial.ring) l.initial.table l.initial.solutions l.initial.used l.initial.queue (waiting l.pair ∷ view l.queue l.ring) l.table l.solutions l.used l.queue l.ring

abbrev pub decreases-turns : goal.decreases-turns
decreases-turns l = ahead l.part.room l.initial.ring.cap l.used (waiting l.pair ∷ view l.queue l.ring)
