use Rattle.checks.proofs.Order.{outside-checked, inside_table, inside_fits, inside_checked}
use Rattle.checks.proofs.check.Goals as goal

pub returns-then-out_of_room : goal.returns-then-out_of_room
returns-then-out_of_room c = search outside-checked

pub overflow_cast-n : goal.overflow_cast-n
overflow_cast-n c = search inside_fits

pub check_records-requires : goal.check_records-requires
check_records-requires c = inside_table _ _ _ c.out_of_room.ensures c.if-out_of_room.false

pub returns : goal.returns
returns c = search inside_checked
