use Rattle.rules.specs.Words.{elements}
use Rattle.queue.specs.Arguments.{pairs_of}
use Rattle.queue.proofs.Arguments.{Turn}
use Rattle.queue.proofs.Ring.join_pairs.Given as goal

abbrev pub invariant-loop-left : goal.invariant-loop-left
invariant-loop-left l =
    goal.iterator-loop-left.can_next l.left-iterator × goal.iterator-loop-left.is_finite l.left-iterator
    × Turn l.initial.queue l.initial.ring (pairs_of l.table l.fn.lists.left l.fn.lists.right) l.queue l.ring (elements l.left-iterator.a.table.now l.left-iterator.a.list) (elements l.left-iterator.b.table.now l.left-iterator.b.list)
