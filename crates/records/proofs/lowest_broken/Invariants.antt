use Rattle.records.proofs.Passing.{Going}
use Rattle.records.proofs.lowest_broken.Given as goal

abbrev pub invariant-loop-r : goal.invariant-loop-r
invariant-loop-r l = Going l.table l.initial.marks l.initial.last l.initial.before l.initial.equations l.marks l.last l.before l.equations l.n l.r l.count
