use Rattle.store.proofs.Filled.{part_filled}
use Rattle.store.proofs.fill.Goals as goal

pub returns : goal.returns
returns c = search (part_filled, c.fill.ensures.after)
