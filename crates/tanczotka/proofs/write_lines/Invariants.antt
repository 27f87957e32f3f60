-- At most half of the buffer is filled before each line.
use Rattle.tanczotka.specs.Gathering.{Gathers}
use Rattle.tanczotka.proofs.write_lines.Given as goal

abbrev pub invariant-loop-i : goal.invariant-loop-i
invariant-loop-i g l = Gathers l.begun l.table l.solutions l.holes l.output l.text l.end
