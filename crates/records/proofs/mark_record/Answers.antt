use Rattle.rules.specs.Lists.{both}
use Rattle.rules.specs.Records.{shapes}
use Rattle.records.specs.Kinds.{field}
use Rattle.records.specs.Marks.{within}
use Rattle.records.proofs.Keeping.{row_asks, chain-asks, cell_asks, says_broken, says_type, says_cell, says_row, says_unknown}
use Rattle.records.proofs.mark_record.Goals as goal

pub mark_row-requires : goal.mark_row-requires
unfolding field shapes within both
mark_row-requires c = search row_asks

pub join_chain-requires : goal.join_chain-requires
unfolding field shapes within both
join_chain-requires c = search chain-asks

pub mark_row-requires-in-2 : goal.mark_row-requires-in-2
unfolding field shapes within both
mark_row-requires-in-2 c = search row_asks

pub join_chain-requires-then-mark_row-2 : goal.join_chain-requires-then-mark_row-2
unfolding field shapes within both
join_chain-requires-then-mark_row-2 c = search chain-asks

pub mark_row-requires-in-3 : goal.mark_row-requires-in-3
unfolding field shapes within both
mark_row-requires-in-3 c = search row_asks

pub mark_row-requires-in-4 : goal.mark_row-requires-in-4
unfolding field shapes within both
mark_row-requires-in-4 c = search row_asks

pub mark_cell-requires : goal.mark_cell-requires
unfolding field shapes within both
mark_cell-requires c = search cell_asks

pub mark_row-requires-in-6 : goal.mark_row-requires-in-6
unfolding field shapes within both
mark_row-requires-in-6 c = search row_asks

pub mark_row-requires-in-7 : goal.mark_row-requires-in-7
unfolding field shapes within both
mark_row-requires-in-7 c = search row_asks

pub mark_row-requires-in-8 : goal.mark_row-requires-in-8
unfolding field shapes within both
mark_row-requires-in-8 c = search row_asks

pub mark_row-requires-in-9 : goal.mark_row-requires-in-9
unfolding field shapes within both
mark_row-requires-in-9 c = search row_asks

pub mark_row-requires-in-10 : goal.mark_row-requires-in-10
unfolding field shapes within both
mark_row-requires-in-10 c = search row_asks

pub returns-then-mark_row : goal.returns-then-mark_row
unfolding field shapes within both
returns-then-mark_row c = search says_type

pub returns-else-mark_row : goal.returns-else-mark_row
unfolding field shapes within both
returns-else-mark_row c = search says_broken

pub returns-then-mark_row-2 : goal.returns-then-mark_row-2
unfolding field shapes within both
returns-then-mark_row-2 c = search says_type

pub returns-else-mark_row-2 : goal.returns-else-mark_row-2
unfolding field shapes within both
returns-else-mark_row-2 c = search says_broken

pub returns-in-3 : goal.returns-in-3
unfolding field shapes within both
returns-in-3 c = search says_row

pub returns-in-4 : goal.returns-in-4
unfolding field shapes within both
returns-in-4 c = search says_row

pub returns-in-5 : goal.returns-in-5
unfolding field shapes within both
returns-in-5 c = search says_cell

pub returns-in-6 : goal.returns-in-6
unfolding field shapes within both
returns-in-6 c = search says_row

pub returns-in-7 : goal.returns-in-7
unfolding field shapes within both
returns-in-7 c = search says_row

pub returns-in-8 : goal.returns-in-8
unfolding field shapes within both
returns-in-8 c = search says_row

pub returns-in-9 : goal.returns-in-9
unfolding field shapes within both
returns-in-9 c = search says_row

pub returns-in-10 : goal.returns-in-10
unfolding field shapes within both
returns-in-10 c = search says_row

pub returns-in_default : goal.returns-in_default
unfolding field shapes within both
returns-in_default c = search says_unknown
