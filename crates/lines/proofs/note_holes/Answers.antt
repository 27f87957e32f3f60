use Rattle.lines.proofs.Noting.{passed_none, passed_asks, passed_more, passed_all}
use Rattle.lines.proofs.note_holes.Goals as goal

pub loop-r-init : goal.loop-r-init
loop-r-init c = search passed_none

pub note-count-requires : goal.note-count-requires
note-count-requires c = search passed_asks

pub loop-r-preserved : goal.loop-r-preserved
loop-r-preserved c = search passed_more

pub returns : goal.returns
returns c = search passed_all
