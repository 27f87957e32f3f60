use Prim.Native.Nat.{◌-◌}
use Rattle.step.proofs.Expanding.{Turn}
use Rattle.step.proofs.expand.Given as goal

abbrev pub invariant-loop-solution : goal.invariant-loop-solution
invariant-loop-solution l = Turn l.part.room l.part.n l.initial.table l.initial.solutions l.used l.at l.table l.solutions l.side

abbrev pub decreases-loop-solution : goal.decreases-loop-solution
decreases-loop-solution l = l.part.room - l.side.used
