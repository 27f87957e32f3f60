use Rattle.store.specs.SaidLaws.{failure_passed}
use Rattle.step.proofs.Same.{same_read, same_occurs, same_narrows, same_all, same_fails, same_some}
use Rattle.step.proofs.same_hole.Goals as goal

pub agreement-kept-requires : goal.agreement-kept-requires
agreement-kept-requires c = search same_occurs

pub returns-then-all_placed : goal.returns-then-all_placed
returns-then-all_placed c = search same_all

pub read-one-requires : goal.read-one-requires
read-one-requires c = search same_read

pub narrow-requires : goal.narrow-requires
narrow-requires c = search same_narrows

pub returns-in_err-new : goal.returns-in_err-new
returns-in_err-new c = rw (failure_passed _ _ c.from_residual.ensures.1) (search (same_fails, c.in_err-new.was))

pub returns : goal.returns
returns c = search (same_some, c.in_ok-new.was)
