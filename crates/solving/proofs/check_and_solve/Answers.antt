use Rattle.std.proofs.Common.{arith, rules}
use Rattle.solving.proofs.Leaving.{blank-serve, left_refused, settled_admits, left_solved}
use Rattle.solving.proofs.check_and_solve.Goals as goal

pub refuse-requires : goal.refuse-requires
refuse-requires g c = let small = c.requires.small in (omega arith, blank-serve _ _ (search rules) _ _ _ c.requires)

pub machine-requires : goal.machine-requires
machine-requires g c = settled_admits _ _ _ _ _ _ _ c.requires c.refuse.ensures _ _ c.room_of.ensures c.in-Ok.is

pub returns-in-Err : goal.returns-in-Err
returns-in-Err g c = left_refused _ _ _ _ _ _ _ c.requires c.refuse.ensures _ _ _ c.in-Err.is c.refusing.ensures

pub returns-in-Ok : goal.returns-in-Ok
returns-in-Ok g c = left_solved _ _ _ _ _ _ _ c.requires c.refuse.ensures _ _ _ c.in-Ok.is c.machine.ensures
