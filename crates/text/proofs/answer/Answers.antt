-- A term, or a question mark.
use Rattle.text.proofs.Lines.{answered_some, answered_term, writes_answer, writes_none}
use Rattle.text.proofs.answer.Goals as goal

pub overflow_sub-said : goal.overflow_sub-said
overflow_sub-said c = search answered_some

pub term-requires : goal.term-requires
term-requires c = search answered_term

pub returns-then-said-eq0 : goal.returns-then-said-eq0
returns-then-said-eq0 c = search writes_answer

pub returns : goal.returns
returns c = search writes_none
