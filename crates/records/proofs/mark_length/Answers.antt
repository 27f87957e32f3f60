use Rattle.records.proofs.Cells.{length-one, length_low, length_long, length_more}
use Rattle.records.proofs.mark_length.Goals as goal
use Rattle.records.proofs.mark_length.Goals.{then-mark-start-via-then-mark-start, then-mark-start-via-else-mark-start+then-start-mark}

pub returns-then-rest-eq-NONE : goal.returns-then-rest-eq-NONE
returns-then-rest-eq-NONE c = search length-one

pub returns-then-mark-start : goal.returns-then-mark-start
returns-then-mark-start c = elim c.then-mark-start.branch [
  | then-mark-start-via-then-mark-start w ↦ search length_low
  | then-mark-start-via-else-mark-start+then-start-mark w ↦ search length_long
]

pub returns : goal.returns
returns c = search length_more
