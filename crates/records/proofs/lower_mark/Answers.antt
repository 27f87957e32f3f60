use Rattle.records.proofs.Judging.{below_yes, below_no}
use Rattle.records.proofs.lower_mark.Goals as goal

pub returns-then-x-r : goal.returns-then-x-r
returns-then-x-r c = search below_yes

pub returns-else-x-r : goal.returns-else-x-r
returns-else-x-r c = search below_no
