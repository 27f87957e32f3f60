use mathlib.Core.Path.{◌≡◌}
use Rattle.rules.specs.Words.{elements}
use Rattle.places.proofs.Agree.{Along}
use Rattle.places.proofs.Map.agreeing.Given as goal

abbrev pub invariant-loop-one : goal.invariant-loop-one
invariant-loop-one l =
    goal.iterator-loop-one.can_next l.one-iterator × goal.iterator-loop-one.is_finite l.one-iterator
    × (l.one-iterator.a.table.now ≡ l.table) × (l.one-iterator.b.table.now ≡ l.table)
    × Along l.table (elements l.table l.left) (elements l.table l.right) l.m (elements l.one-iterator.a.table.now l.one-iterator.a.list) (elements l.one-iterator.b.table.now l.one-iterator.b.list)
