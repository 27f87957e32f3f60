use Rattle.std.specs.Slice.Iter.{iter_rest}
use Rattle.store.proofs.Cells.{Behind}
use Rattle.store.proofs.push_cells.Given as goal

abbrev pub invariant-loop-at : goal.invariant-loop-at
invariant-loop-at l = Behind l.part.room l.part.n l.noted l.initial.table l.fn.used l.table (iter_rest l.at-iterator.iter) l.cells
