use Rattle.store.proofs.Pushing.{push-part, push_full}
use Rattle.store.proofs.push.Goals as goal

pub returns-then-used-part : goal.returns-then-used-part
returns-then-used-part c = search push_full

pub returns : goal.returns
returns c = search push-part
