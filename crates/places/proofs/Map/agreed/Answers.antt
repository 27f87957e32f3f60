use Rattle.places.proofs.Agree.{agreed_same, agreed_not}
use Rattle.places.proofs.Map.agreed.Goals as goal

pub returns-then-x-y : goal.returns-then-x-y
returns-then-x-y c = search agreed_same

pub returns : goal.returns
returns c = search agreed_not
