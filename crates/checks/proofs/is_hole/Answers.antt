use Rattle.checks.proofs.Refusals.{hole_within, hole_past}
use Rattle.checks.proofs.is_hole.Goals as goal

pub returns-then-at-n : goal.returns-then-at-n
returns-then-at-n c = search hole_within

pub returns-else-at-n : goal.returns-else-at-n
returns-else-at-n c = search hole_past
