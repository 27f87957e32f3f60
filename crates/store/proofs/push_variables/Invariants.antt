use Rattle.store.proofs.Writing.{Named}
use Rattle.store.proofs.push_variables.Given as goal

abbrev pub invariant-loop-i : goal.invariant-loop-i
invariant-loop-i l = Named l.part.room l.part.n l.froms l.fn.map l.initial.table l.fn.used l.table l.noted.items l.taken l.i
