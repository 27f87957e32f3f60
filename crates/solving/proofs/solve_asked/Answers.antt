use Rattle.std.proofs.Common.{arith}
use Rattle.solving.proofs.Leaving.{left-outside, inside_fits, inside_few, inside_most}
use Rattle.solving.proofs.solve_asked.Goals as goal

pub returns-then-out_of_room : goal.returns-then-out_of_room
returns-then-out_of_room c = search left-outside

pub overflow_cast-n : goal.overflow_cast-n
overflow_cast-n c = search inside_fits

pub check_and_solve-requires : goal.check_and_solve-requires
check_and_solve-requires c =
    inside_few _ _ _ _ c.out_of_room.ensures c.if-out_of_room.false 256 (omega arith) (omega arith)

pub overflow_cast-n-2 : goal.overflow_cast-n-2
overflow_cast-n-2 c = search inside_fits

pub check_and_solve-requires-2 : goal.check_and_solve-requires-2
check_and_solve-requires-2 c =
    inside_most _ _ _ _ c.out_of_room.ensures c.if-out_of_room.false
