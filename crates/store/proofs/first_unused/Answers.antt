use Rattle.store.proofs.Unused.{unused_all, unused_lower, unused_higher, unused_found}
use Rattle.store.proofs.first_unused.Goals as goal

pub loop-low-init : goal.loop-low-init
loop-low-init c = search unused_all

pub loop-low-preserved-then-table-middle-eq0 : goal.loop-low-preserved-then-table-middle-eq0
loop-low-preserved-then-table-middle-eq0 c = search unused_lower

pub loop-low-preserved : goal.loop-low-preserved
loop-low-preserved c = search unused_higher

pub returns : goal.returns
returns c = search unused_found
