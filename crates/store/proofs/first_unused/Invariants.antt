use Prim.Native.Nat.{◌-◌}
use Rattle.store.specs.Unused.{Unused}
use Rattle.store.proofs.first_unused.Given as goal

abbrev pub invariant-loop-low : goal.invariant-loop-low
invariant-loop-low l = Unused l.fn.part.n l.fn.part.room l.table l.low l.high

abbrev pub decreases-loop-low : goal.decreases-loop-low
decreases-loop-low l = l.high - l.low
