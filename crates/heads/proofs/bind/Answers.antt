use Prim.Native.Nat.{◌<◌}
use native.Mathlib.Omega.{arith}
use Rattle.laws.specs.Places.{placed_inside}
use Rattle.heads.proofs.Binders.{bind_none, domain_few, bind_arrow}
use Rattle.heads.proofs.bind.Goals as goal

pub read-x-requires : goal.read-x-requires
read-x-requires c = search placed_inside

pub returns-then-x-ne-AR : goal.returns-then-x-ne-AR
returns-then-x-ne-AR c = search bind_none

pub overflow_cast-stack : goal.overflow_cast-stack
overflow_cast-stack c = let few : c.read-x.result.a < 4096 = search domain_few in omega arith

pub returns : goal.returns
returns c = search bind_arrow
