use Rattle.machine.proofs.Written.{clearing_to, failure_replied}
use Rattle.machine.proofs.reply_to_failure.Goals as goal

pub clear-requires : goal.clear-requires
clear-requires c = search clearing_to

pub returns : goal.returns
returns c = search failure_replied
