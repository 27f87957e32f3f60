use Rattle.records.proofs.Earlier.{Searched}
use Rattle.records.proofs.join_chain.Given as goal

abbrev pub invariant-loop-j : goal.invariant-loop-j
invariant-loop-j l = Searched l.table l.r l.j

abbrev pub decreases-loop-j : goal.decreases-loop-j
decreases-loop-j l = l.j
