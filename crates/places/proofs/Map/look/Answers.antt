use Rattle.places.specs.LookingLaws.{within_at, look_above, look_inside}
use Rattle.places.proofs.Map.look.Goals as goal

pub returns-then-above : goal.returns-then-above
returns-then-above c = search look_above

pub place_at-requires : goal.place_at-requires
place_at-requires c = search within_at

pub returns : goal.returns
returns c = search look_inside
