use mathlib.Core.Path.{◌≡◌}
use Rattle.rules.specs.Words.{elements}
use Rattle.places.specs.FillingLaws.{Filling}
use Rattle.places.proofs.Filled.{variable_at}
use Rattle.places.proofs.Map.arguments.Given as goal

abbrev pub invariant-loop-at : goal.invariant-loop-at
invariant-loop-at l =
    goal.iterator-loop-at.can_next l.at-iterator × goal.iterator-loop-at.is_finite l.at-iterator
    × (l.at-iterator.table.now ≡ l.table) × Filling (variable_at l.table) (elements l.table l.list) l.m (elements l.at-iterator.table.now l.at-iterator.list)
