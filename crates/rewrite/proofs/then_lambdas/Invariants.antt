use Rattle.rewrite.proofs.Lambdas.{Turn}
use Rattle.rewrite.proofs.then_lambdas.Given as goal

abbrev pub invariant-loop : goal.invariant-loop
invariant-loop l = Turn l.part.n l.part.room l.k l.initial.table l.initial.written l.table l.written l.counter
