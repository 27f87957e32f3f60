use mathlib.Core.Path.{◌≡◌}
use Rattle.rules.specs.Words.{elements}
use Rattle.patterns.specs.Occurrences.{different}
use Rattle.patterns.proofs.Turns.{Differ}
use Rattle.patterns.proofs.different.Given as goal

abbrev pub invariant-loop-at : goal.invariant-loop-at
invariant-loop-at l =
    goal.iterator-loop-at.can_next l.left × goal.iterator-loop-at.is_finite l.left
    × (l.left.table.now ≡ l.table) × (different l.table l.l ≡ Differ l.table (elements l.left.table.now l.left.list))
