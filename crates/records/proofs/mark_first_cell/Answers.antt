use Rattle.records.proofs.Judging.{first_cell_none, first_cell_some}
use Rattle.records.proofs.mark_first_cell.Goals as goal

pub returns-then-x-eq-NONE : goal.returns-then-x-eq-NONE
returns-then-x-eq-NONE c = search first_cell_none

pub returns : goal.returns
returns c = search first_cell_some
