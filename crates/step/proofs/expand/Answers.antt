use Rattle.store.specs.SaidLaws.{failure_passed}
use Rattle.step.proofs.Expanding.{turn_first, turn_heads, turn_done, turn_copies, turn_fails, turn_less, turn_next}
use Rattle.step.proofs.expand.Goals as goal

pub loop-solution-init : goal.loop-solution-init
loop-solution-init c = search turn_first

pub head_solution-requires : goal.head_solution-requires
head_solution-requires c = search turn_heads

pub copy_solution-requires : goal.copy_solution-requires
copy_solution-requires c = search turn_copies

pub returns-in_err-side : goal.returns-in_err-side
returns-in_err-side c = rw (failure_passed _ _ c.from_residual.ensures.1) (search (turn_fails, c.in_err-side.was))

pub loop-solution-smaller : goal.loop-solution-smaller
loop-solution-smaller c = search (turn_less, c.in_ok-side.was)

pub loop-solution-preserved : goal.loop-solution-preserved
loop-solution-preserved c = search (turn_next, c.in_ok-side.was)

pub returns : goal.returns
returns c = search turn_done
