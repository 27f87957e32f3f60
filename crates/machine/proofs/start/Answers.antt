use Rattle.store.specs.SaidLaws.{failure_passed}
use Rattle.machine.proofs.Starting.{started_enters, started_full, started_front, started_none, started_stood, started_runs}
use Rattle.machine.proofs.start.Goals as goal

pub enter_equations-requires : goal.enter_equations-requires
enter_equations-requires c = search started_enters

pub returns-in_err-ring : goal.returns-in_err-ring
returns-in_err-ring c = rw (failure_passed _ _ c.from_residual.ensures.1) (search (started_full, c.in_err-ring.was))

pub returns-then-ring-eq0 : goal.returns-then-ring-eq0
returns-then-ring-eq0 c = search (started_none, c.in_ok-ring.was)

pub first-pair-requires : goal.first-pair-requires
first-pair-requires c = search (started_front, c.in_ok-ring.was)

pub run-requires : goal.run-requires
run-requires c = search (started_stood, c.in_ok-ring.was)

pub returns : goal.returns
returns c =
    let asked = c.requires in
    let entered = c.enter_equations.ensures in
    let front = c.first-pair.ensures in
    let left = c.leave.ensures in
    let ran = c.run.ensures in
    search (started_runs, c.in_ok-ring.was)
