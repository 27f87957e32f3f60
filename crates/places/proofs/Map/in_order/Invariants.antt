use mathlib.Core.Path.{◌≡◌}
use Rattle.rules.specs.Words.{elements}
use Rattle.places.specs.FillingLaws.{Filling}
use Rattle.places.proofs.Filled.{position_at}
use Rattle.places.proofs.Map.in_order.Given as goal

abbrev pub invariant-loop : goal.invariant-loop
invariant-loop l =
    goal.iterator-loop.can_next l.iterator' × goal.iterator-loop.is_finite l.iterator'
    × (l.iterator'.table.now ≡ l.table) × Filling position_at (elements l.table l.context) l.m (elements l.iterator'.table.now l.iterator'.list)
