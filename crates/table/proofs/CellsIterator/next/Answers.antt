use Rattle.laws.specs.Lists.{elements_none}
use Rattle.table.proofs.Lists.{cell_inside, rest_listed, first_read, follows, fewer_left}
use Rattle.table.proofs.CellsIterator.next.Goals as goal

pub read-cell-requires : goal.read-cell-requires
read-cell-requires c = search cell_inside

pub returns-then-self-clause-steps : goal.returns-then-self-clause-steps
returns-then-self-clause-steps c = search elements_none

pub returns-clause-steps : goal.returns-clause-steps
returns-clause-steps c = search (first_read, follows)

pub returns-clause-goes : goal.returns-clause-goes
returns-clause-goes c = search (fewer_left, rest_listed)
