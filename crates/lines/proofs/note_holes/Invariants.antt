use Rattle.lines.proofs.Noting.{Passed}
use Rattle.lines.proofs.note_holes.Given as goal

abbrev pub invariant-loop-r : goal.invariant-loop-r
invariant-loop-r l = Passed l.table l.initial.holes l.holes l.n l.count l.r
