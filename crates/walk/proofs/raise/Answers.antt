use Rattle.invariants.specs.Rise.{raised-first, raised_on}
use Rattle.walk.proofs.raise.Goals as goal

pub returns-then-floor-eq0 : goal.returns-then-floor-eq0
returns-then-floor-eq0 c = search raised-first

pub returns : goal.returns
returns c = search raised_on
