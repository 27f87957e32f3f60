use Rattle.solver.proofs.Showing.{solves}
use Rattle.solver.proofs.solve.Goals as goal

pub returns : goal.returns
returns c = search solves
