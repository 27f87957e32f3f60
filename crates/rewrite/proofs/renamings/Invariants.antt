use mathlib.Core.Path.{◌≡◌}
use Rattle.rules.specs.Words.{elements}
use Rattle.rewrite.proofs.Follows.{Turn}
use Rattle.rewrite.proofs.renamings.Given as goal

abbrev pub invariant-loop-at : goal.invariant-loop-at
invariant-loop-at l =
    goal.iterator-loop-at.can_next l.at-iterator × goal.iterator-loop-at.is_finite l.at-iterator
    × (l.at-iterator.table.now ≡ l.table) × Turn l.table l.map l.depth (elements l.table l.list) l.m (elements l.at-iterator.table.now l.at-iterator.list)
