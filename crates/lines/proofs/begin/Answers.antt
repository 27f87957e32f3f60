use Rattle.lines.proofs.Beginning.{begins_refused, begins_notable, begins_failed, begins_solved}
use Rattle.lines.proofs.begin.Goals as goal

pub returns-then-given-ne0 : goal.returns-then-given-ne0
returns-then-given-ne0 c = search begins_refused

pub note_holes-count-requires : goal.note_holes-count-requires
note_holes-count-requires c = search begins_notable

pub returns-then-reply-ne0 : goal.returns-then-reply-ne0
returns-then-reply-ne0 c = search begins_failed

pub returns : goal.returns
returns c = search begins_solved
