use Rattle.solver.specs.AnsweringLaws.{answerable}
use Rattle.solver.proofs.Showing.{show_refused, show_answered, hole_fits}
use Rattle.solver.proofs.show.Goals as goal

pub returns-then-reply-ne0 : goal.returns-then-reply-ne0
returns-then-reply-ne0 c = search show_refused

pub overflow_cast-hole : goal.overflow_cast-hole
overflow_cast-hole c = search hole_fits

pub write_answer-requires : goal.write_answer-requires
write_answer-requires c = search answerable

pub returns : goal.returns
returns c = search show_answered
