use Rattle.store.specs.SaidLaws.{failure_passed}
use Rattle.step.proofs.Taken.{expands_left, left_fails, right_expands, right_fails, sides_stood, taken}
use Rattle.step.proofs.take_step.Goals as goal

pub expand-requires : goal.expand-requires
expand-requires c = search expands_left

pub returns-in_err-one : goal.returns-in_err-one
returns-in_err-one c = rw (failure_passed _ _ c.from_residual.ensures.1) (search (left_fails, c.in_err-one.was))

pub expand-requires-2 : goal.expand-requires-2
expand-requires-2 c = search (right_expands, c.in_ok-one.was)

pub returns-in_err-two : goal.returns-in_err-two
returns-in_err-two c = rw (failure_passed _ _ c.from_residual-in_err-two.ensures.1) (search (right_fails, c.in_ok-one.was, c.in_err-two.was))

pub meet-requires : goal.meet-requires
meet-requires c = search (sides_stood, c.in_ok-one.was, c.in_ok-two.was)

pub returns : goal.returns
returns c = search (taken, c.in_ok-one.was, c.in_ok-two.was)
