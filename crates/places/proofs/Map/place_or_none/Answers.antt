use Rattle.places.specs.LookingLaws.{placed-seat, no_seat}
use Rattle.places.proofs.Map.place_or_none.Goals as goal

pub returns-in_default : goal.returns-in_default
returns-in_default c = search no_seat

pub returns : goal.returns
returns c = search placed-seat
