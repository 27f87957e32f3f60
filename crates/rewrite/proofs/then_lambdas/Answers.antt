use Prim.Native.Nat.{◌<◌, ◌≤◌}
use native.Mathlib.Omega.{arith}
use Rattle.store.specs.SaidLaws.{failure_passed}
use Rattle.rewrite.proofs.Lambdas.{turn_first, turn_room, turn_since, turn_stops, turn_next, turn_ends}
use Rattle.rewrite.proofs.then_lambdas.Goals as goal

pub loop-init : goal.loop-init
loop-init c = search turn_first

pub push-requires : goal.push-requires
push-requires c = (search turn_room, search turn_since)

pub returns-in_err-written : goal.returns-in_err-written
returns-in_err-written c = let lt : c.loop.counter < c.args.k = omega arith in search (turn_stops, c.in_err-written.was, failure_passed)

pub loop-preserved : goal.loop-preserved
loop-preserved c = let lt : c.loop.counter < c.args.k = omega arith in search (turn_next, c.in_ok-written.was)

pub returns : goal.returns
returns c = let over : c.args.k ≤ c.loop.counter = omega arith in search turn_ends
