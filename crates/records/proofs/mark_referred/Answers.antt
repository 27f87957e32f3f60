use Rattle.records.proofs.Judging.{referred_out, referred_room, referred_so}
use Rattle.records.proofs.mark_referred.Goals as goal

pub returns-then-m-low : goal.returns-then-m-low
returns-then-m-low c = search referred_out

pub bounds-marks-x : goal.bounds-marks-x
bounds-marks-x c = search referred_room

pub returns : goal.returns
returns c = search referred_so
