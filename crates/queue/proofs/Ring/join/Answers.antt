use Rattle.queue.proofs.Joining.{joins_at}
use Rattle.queue.proofs.Ring.join.Goals as goal

pub returns : goal.returns
returns c = search joins_at
