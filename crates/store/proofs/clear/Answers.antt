use Rattle.store.specs.ClearingLaws.{cleared}
use Rattle.store.proofs.clear.Goals as goal

pub returns : goal.returns
returns c = search cleared
