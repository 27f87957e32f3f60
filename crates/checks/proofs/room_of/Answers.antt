use Rattle.checks.proofs.Refusals.{room_is}
use Rattle.checks.proofs.room_of.Goals as goal

pub returns : goal.returns
returns c = search room_is
