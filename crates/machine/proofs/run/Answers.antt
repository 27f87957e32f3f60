use mathlib.Core.Path.{ap, ◌∙◌}
use Rattle.std.specs.Prelude.{Ok}
use Rattle.step.specs.declared.Step.{Step}
use Rattle.store.specs.SaidLaws.{failure_passed}
use Rattle.machine.proofs.Turning.{turn_first, turn_stood, turn_fails, on_less, turn_on, turn_ends, takes_less, turn_takes}
use Rattle.machine.proofs.run.Goals as goal

pub turns-init : goal.turns-init
turns-init c = search turn_first

pub take_step-requires : goal.take_step-requires
take_step-requires c = search turn_stood

pub returns-in_err-bodies : goal.returns-in_err-bodies
returns-in_err-bodies c = search (turn_fails, c.in_err-bodies.was, failure_passed)

pub turns-smaller-in-On : goal.turns-smaller-in-On
turns-smaller-in-On c = search (on_less, c.in_ok-bodies.was)

pub turns-preserved-in-On : goal.turns-preserved-in-On
turns-preserved-in-On c = search (turn_on, c.in_ok-bodies.was)

pub returns-then-left-eq0 : goal.returns-then-left-eq0
returns-then-left-eq0 c = search (turn_ends, c.in_ok-bodies.was)

pub turns-smaller : goal.turns-smaller
turns-smaller c = search (takes_less, c.in_ok-bodies.was)

pub turns-preserved : goal.turns-preserved
turns-preserved c =
    let is = c.in_ok-bodies.was ∙ ap (λ (step : Step). Ok step) c.in-Done.is in
    let turn = c.turns.invariant in
    let took = c.take_step.ensures in
    let long = c.take_step.auto.queue in
    search turn_takes
