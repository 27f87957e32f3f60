use native.Mathlib.Omega.{arith}
use Rattle.store.specs.SaidLaws.{failure_passed}
use Rattle.store.proofs.Writing.{named-first, named_slot, named_skip, named_stops, named-takes, named_end}
use Rattle.store.proofs.push_variables.Goals as goal

pub loop-i-init : goal.loop-i-init
loop-i-init c = search named-first

pub loop-i-preserved-then-place : goal.loop-i-preserved-then-place
loop-i-preserved-then-place c = search named_skip

pub returns-in_err-written : goal.returns-in_err-written
returns-in_err-written c = search (named_stops, c.in_err-written.was, failure_passed)

pub push-requires-in-loop-i : goal.push-requires-in-loop-i
push-requires-in-loop-i c = (omega arith, search named_slot)

pub loop-i-preserved : goal.loop-i-preserved
loop-i-preserved c = search (named-takes, c.in_ok-written.was)

pub returns : goal.returns
returns c = search named_end
