use Rattle.checks.proofs.Order.{says_admitted, says_refused}
use Rattle.checks.proofs.reply_to.Goals as goal

pub returns-in-Ok : goal.returns-in-Ok
returns-in-Ok c = search says_admitted

pub returns-in-Err : goal.returns-in-Err
returns-in-Err c = search says_refused
