use Rattle.places.specs.LookingLaws.{place_none, place_some}
use Rattle.places.proofs.Map.place_at.Goals as goal

pub returns-then-w : goal.returns-then-w
returns-then-w c = search place_none

pub returns : goal.returns
returns c = search place_some
