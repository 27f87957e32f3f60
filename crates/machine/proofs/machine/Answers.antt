use Rattle.machine.proofs.Pairs.{pairs_fit, pairs_held, lent_whole, pairs-filled}
use Rattle.machine.proofs.Admitting.{admits_clearing, admits_started, admits_clearing_on}
use Rattle.machine.proofs.Ending.{Ended, ends}
use borrow.Author.Rules.{rules}
use Rattle.machine.proofs.machine.Goals as goal

pub overflow_mul-end : goal.overflow_mul-end
overflow_mul-end c = search pairs_fit

pub clear-requires : goal.clear-requires
clear-requires c = search admits_clearing

pub slice_bounds-start-end : goal.slice_bounds-start-end
slice_bounds-start-end c = search pairs_held

pub slice_bounds-start-end-2 : goal.slice_bounds-start-end-2
slice_bounds-start-end-2 c = search lent_whole

pub start-outcome-requires : goal.start-outcome-requires
start-outcome-requires c = search admits_started

pub fill-requires : goal.fill-requires
fill-requires c = search pairs-filled

pub reply_to_failure-requires : goal.reply_to_failure-requires
reply_to_failure-requires c = search admits_clearing_on

pub returns-in-Ok : goal.returns-in-Ok
returns-in-Ok c =
    let ended : Ended c.args.part.room c.args.part.n c.args.table.now c.args.solutions.now c.args.queue.now c.start-outcome.new.table c.start-outcome.new.solutions c.fill.new.words c.start-outcome.result =
    ends _ _ _ _ _ c.requires _ _ _ _ _ _ c.start-outcome.new.queue _ _ c.pairs_of-cap.ensures c.clear.ensures c.start-outcome.ensures (search rules) c.fill.ensures in
    ended.solved _ (search rules)

pub returns-in-Err : goal.returns-in-Err
returns-in-Err c =
    let ended : Ended c.args.part.room c.args.part.n c.args.table.now c.args.solutions.now c.args.queue.now c.start-outcome.new.table c.start-outcome.new.solutions c.fill.new.words c.start-outcome.result =
    ends _ _ _ _ _ c.requires _ _ _ _ _ _ c.start-outcome.new.queue _ _ c.pairs_of-cap.ensures c.clear.ensures c.start-outcome.ensures (search rules) c.fill.ensures in
    ended.failed _ _ _ _ (search rules) c.reply_to_failure.ensures
