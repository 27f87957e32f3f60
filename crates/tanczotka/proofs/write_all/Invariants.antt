-- What is left gets shorter.
use Rattle.std.proofs.Common.{length}
use Rattle.tanczotka.proofs.write_all.Given as goal

abbrev pub decreases-loop-rest : goal.decreases-loop-rest
decreases-loop-rest g l = length l.rest
