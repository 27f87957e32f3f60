use Rattle.records.proofs.Passing.{going_start, going_asks, going_stop, going_notes, going_on, going_end}
use Rattle.records.proofs.lowest_broken.Goals as goal

pub loop-r-init : goal.loop-r-init
loop-r-init c = search going_start

pub mark_record-requires : goal.mark_record-requires
mark_record-requires c = search going_asks

pub returns-then-not-mark_record : goal.returns-then-not-mark_record
returns-then-not-mark_record c = search going_stop

pub note-count-requires : goal.note-count-requires
note-count-requires c = search going_notes

pub loop-r-preserved : goal.loop-r-preserved
loop-r-preserved c = search going_on

pub returns : goal.returns
returns c = search going_end
