use Rattle.solver.proofs.Answering.{blank-fits, answers, finishing, writes, writes_none}
use Rattle.solver.proofs.write_answer.Goals as goal

pub fill-requires : goal.fill-requires
fill-requires c = search blank-fits

pub answer-requires : goal.answer-requires
answer-requires c = search answers

pub fill-requires-in-Err : goal.fill-requires-in-Err
fill-requires-in-Err c = search finishing

pub returns-in-Ok : goal.returns-in-Ok
returns-in-Ok c = search writes

pub returns-in-Err : goal.returns-in-Err
returns-in-Err c = search writes_none
