use Rattle.queue.proofs.Equations.{Entered}
use Rattle.queue.proofs.Ring.enter_equations.Given as goal

abbrev pub invariant-loop-equation : goal.invariant-loop-equation
invariant-loop-equation l = Entered l.table l.cap l.fn.equations l.equations l.equation-index l.queue l.ring
