use Rattle.queue.proofs.Joining.{wraps_in, wraps_out}
use Rattle.queue.proofs.Ring.wrap.Goals as goal

pub returns-then-x-self : goal.returns-then-x-self
returns-then-x-self c = search wraps_in

pub returns : goal.returns
returns c = search wraps_out
