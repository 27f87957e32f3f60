use Rattle.checks.proofs.Refusals.{broken_at, noted_held, none_broken, asked_refused, asked-asks}
use Rattle.checks.proofs.refuse_lent.Goals as goal

pub returns-in_err-count : goal.returns-in_err-count
returns-in_err-count c = broken_at _ _ _ _ c.lowest_broken.ensures _ _ _ c.in_err-count.was c.from_residual.ensures

pub slice_bounds-refuse_asked-end : goal.slice_bounds-refuse_asked-end
slice_bounds-refuse_asked-end c =
    noted_held _ _ _ _ c.lowest_broken.ensures _ c.in_ok-count.was _ _ _ _ c.requires c.lowest_broken.auto.equations

pub refuse_asked-requires : goal.refuse_asked-requires
refuse_asked-requires c =
    asked-asks _ _ _ _ c.lowest_broken.ensures _ c.in_ok-count.was _ _ _ _ c.requires c.lowest_broken.auto.equations _ c.lowest_broken.auto.last

pub returns-in_err-refuse_asked : goal.returns-in_err-refuse_asked
returns-in_err-refuse_asked c =
    asked_refused _ _ _ _ c.lowest_broken.ensures _ c.in_ok-count.was _ _ c.refuse_asked.ensures _ c.in_err-refuse_asked.was _ c.from_residual-in_err-refuse_asked.ensures

pub returns : goal.returns
returns c = none_broken _ _ _ _ c.lowest_broken.ensures _ c.in_ok-count.was _ _ c.refuse_asked.ensures _ c.in_ok-refuse_asked.was
