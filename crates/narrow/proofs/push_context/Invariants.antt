use Rattle.narrow.proofs.Context.{Chosen}
use Rattle.narrow.proofs.push_context.Given as goal

abbrev pub invariant-loop-place : goal.invariant-loop-place
invariant-loop-place l = Chosen l.table l.fn.context l.fn.map l.noted.items l.place-index l.list
