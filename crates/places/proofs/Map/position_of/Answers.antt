use Rattle.places.specs.LookingLaws.{ahead-first, ahead_hit, ahead_on, ahead_end}
use Rattle.places.proofs.Map.position_of.Goals as goal

pub loop-i-init : goal.loop-i-init
loop-i-init c = search ahead-first

pub returns-then-place-v : goal.returns-then-place-v
returns-then-place-v c = search ahead_hit

pub loop-i-preserved : goal.loop-i-preserved
loop-i-preserved c = search ahead_on

pub returns : goal.returns
returns c = search ahead_end
