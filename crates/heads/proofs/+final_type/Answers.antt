use Rattle.std.proofs.Common.{arith, ◌<◌}
use Rattle.heads.proofs.Finals.{final_here, result_inside, final_one, second_less, second_type, type_lent, final_room, final_two}
use Rattle.heads.proofs.+final_type.Goals as goal

pub returns-then-x-ne-AR : goal.returns-then-x-ne-AR
returns-then-x-ne-AR t c = search final_here

pub read-y-requires : goal.read-y-requires
read-y-requires t c = search result_inside

pub returns-then-y-ne-AR : goal.returns-then-y-ne-AR
returns-then-y-ne-AR t c = search final_one

pub final_type-f-requires : goal.final_type-f-requires
final_type-f-requires t c = (search second_less, type_lent c.args.table.now _ (search second_type))

pub overflow_add-result : goal.overflow_add-result
overflow_add-result t c = let few : c.final_type-f.result.count < 4096 = search final_room in omega arith

pub returns : goal.returns
returns t c = search final_two
