use Rattle.typing.proofs.Equations.{equation_inside, left-asks, right_asks, left-fails, right_says}
use Rattle.typing.proofs.offends.Goals as goal

pub read-x-requires : goal.read-x-requires
read-x-requires c = search equation_inside

pub check_term-requires : goal.check_term-requires
check_term-requires c = search left-asks

pub check_term-requires-else-not-check_term : goal.check_term-requires-else-not-check_term
check_term-requires-else-not-check_term c = search right_asks

pub returns-then-not-check_term : goal.returns-then-not-check_term
returns-then-not-check_term c = search left-fails

pub returns-else-not-check_term : goal.returns-else-not-check_term
returns-else-not-check_term c = search right_says
