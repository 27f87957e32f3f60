use mathlib.Core.Path.{◌≡◌}
use native.Mathlib.Omega.{arith}
use Rattle.std.specs.Prelude.{Ok, Err}
use Rattle.std.proofs.Common.{inl, inr}
use Rattle.rules.specs.declared.Failure.TheVariants.{QueueFull}
use Rattle.store.specs.SaidLaws.{failure_passed}
use Rattle.step.proofs.Arguments.{full-or-joined}
use Rattle.step.proofs.Stand.{stood_terms, stood_argues, stood_same, stood_solve, met_bodies, met_full, met_joins, met_lost, met_same, met_unsolved, met_solve, met_clash}
use Rattle.step.proofs.meet.Goals as goal

pub meets-requires : goal.meets-requires
meets-requires c = search stood_terms

pub join_pairs-requires : goal.join_pairs-requires
join_pairs-requires c = search stood_argues

pub same_hole-requires : goal.same_hole-requires
same_hole-requires c = search stood_same

pub assign-requires : goal.assign-requires
assign-requires c = search stood_solve

pub returns-in-Bodies : goal.returns-in-Bodies
returns-in-Bodies c = search met_bodies

pub returns-in_err-more-in-Arguments : goal.returns-in_err-more-in-Arguments
returns-in_err-more-in-Arguments c =
    let left = failure_passed _ _ c.from_residual.ensures.1 in
    let full : (c.join_pairs.result ≡ Err QueueFull) × (c.from_residual.result ≡ Err QueueFull) = elim (full-or-joined _ _ _ _ _ c.join_pairs.ensures) [ inl e ↦ (e, grind arith) | inr e ↦ grind arith ] in
    rw full.1 (search (met_full, full.0))

pub returns-in_ok-more-in-Arguments : goal.returns-in_ok-more-in-Arguments
returns-in_ok-more-in-Arguments c =
    let joined : c.join_pairs.result ≡ Ok c.in_ok-more-in-Arguments.more = elim (full-or-joined _ _ _ _ _ c.join_pairs.ensures) [ inl e ↦ grind arith | inr e ↦ grind arith ] in
    search (met_joins, joined)

pub returns-in_err-then-in-SameHole : goal.returns-in_err-then-in-SameHole
returns-in_err-then-in-SameHole c = rw (failure_passed _ _ c.from_residual-in_err-then-in-SameHole.ensures.1) (search (met_lost, c.in_err-then-in-SameHole.was))

pub returns-in_ok-then-in-SameHole : goal.returns-in_ok-then-in-SameHole
returns-in_ok-then-in-SameHole c = search (met_same, c.in_ok-then-in-SameHole.was)

pub returns-in_err-walked-in-Solve : goal.returns-in_err-walked-in-Solve
returns-in_err-walked-in-Solve c = rw (failure_passed _ _ c.from_residual-in_err-walked-in-Solve.ensures.1) (search (met_unsolved, c.in_err-walked-in-Solve.was))

pub returns-in_ok-walked-in-Solve : goal.returns-in_ok-walked-in-Solve
returns-in_ok-walked-in-Solve c = search (met_solve, c.in_ok-walked-in-Solve.was)

pub returns-in-Clash : goal.returns-in-Clash
returns-in-Clash c = search met_clash
