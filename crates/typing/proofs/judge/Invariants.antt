use Rattle.typing.proofs.Equations.{Gone}
use Rattle.typing.proofs.judge.Given as goal

abbrev pub invariant-loop-e : goal.invariant-loop-e
invariant-loop-e l = Gone l.table l.initial.stack l.fn.equations l.equations l.stack l.low l.e-index
