use Rattle.narrow.proofs.Context.{chosen_read, chosen_skip, chosen_takes, chosen_end}
use Rattle.narrow.proofs.push_context.Goals as goal

pub read-cell-requires : goal.read-cell-requires
read-cell-requires c = search chosen_read

pub loop-place-preserved-then-place : goal.loop-place-preserved-then-place
loop-place-preserved-then-place c = search chosen_skip

pub loop-place-preserved : goal.loop-place-preserved
loop-place-preserved c = search chosen_takes

pub returns : goal.returns
returns c = search chosen_end
