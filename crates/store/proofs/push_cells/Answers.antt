use mathlib.Core.Path.{◌≡◌}
use native.Mathlib.Omega.{arith}
use Rattle.std.specs.Slice.Iter.{iter_rest}
use Rattle.store.specs.SaidLaws.{failure_passed}
use Rattle.store.proofs.Cells.{push_equal, behind-first, behind-asks, behind_stops, behind_more, behind_end}
use Rattle.store.proofs.push_cells.Goals as goal

pub loop-at-init : goal.loop-at-init
loop-at-init c =
    let e : iter_rest c.into_iter-at-iterator.result.iter ≡ c.args.noted.now = rw (c.into_iter-at-iterator.ensures.into_iter_gives, c.rev-at-items.ensures.source) c.iter.ensures.rest in
    search (behind-first, e)

pub push-requires : goal.push-requires
push-requires c = search behind-asks

pub returns-in_err-cells : goal.returns-in_err-cells
returns-in_err-cells c = let s = c.in-Some.ensures.steps in search (behind_stops, s, c.in_err-cells.was, failure_passed)

pub loop-at-preserved : goal.loop-at-preserved
loop-at-preserved c =
    let s = c.in-Some.ensures.steps in
    let p = push_equal _ _ _ _ _ _ _ _ c.in-Some.field-0.now c.push.ensures (omega arith) in
    search (behind_more, s, p, c.in_ok-cells.was)

pub returns : goal.returns
returns c = let s = c.in-None.ensures.steps in search (behind_end, s.0)
