use mathlib.Core.Path.{◌≡◌}
use Rattle.rules.specs.Words.{elements}
use Rattle.patterns.proofs.Turns.{Names}
use Rattle.patterns.proofs.named.Given as goal

abbrev pub invariant-loop-at : goal.invariant-loop-at
invariant-loop-at l =
    goal.iterator-loop-at.can_next l.at-iterator × goal.iterator-loop-at.is_finite l.at-iterator
    × (l.at-iterator.table.now ≡ l.table) × (Names l.table l.v.0 (elements l.table l.l) ≡ Names l.table l.v.0 (elements l.at-iterator.table.now l.at-iterator.list))
