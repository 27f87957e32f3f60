use Rattle.checks.proofs.Refusals.{above_room, within_room}
use Rattle.checks.proofs.out_of_room.Goals as goal

pub returns-then-room-n : goal.returns-then-room-n
returns-then-room-n c = search above_room

pub returns-else-room-n : goal.returns-else-room-n
returns-else-room-n c = search within_room
