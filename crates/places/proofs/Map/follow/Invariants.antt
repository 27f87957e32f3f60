use mathlib.Core.Path.{◌≡◌}
use Rattle.rules.specs.Words.{elements}
use Rattle.places.specs.AlongLaws.{Along}
use Rattle.places.specs.Looking.{Within}
use Rattle.places.specs.Maps.{map_of}
use Rattle.places.specs.FollowLaws.{follow_at}
use Rattle.places.proofs.Map.follow.Given as goal

abbrev pub invariant-loop-at : goal.invariant-loop-at
invariant-loop-at l =
    goal.iterator-loop-at.can_next l.at-iterator × goal.iterator-loop-at.is_finite l.at-iterator
    × (l.at-iterator.table.now ≡ l.table)
    × Along (Within l.above l.self l.depth) (follow_at l.table (map_of l.above l.self) l.depth) l.table (elements l.table l.list) l.m (elements l.at-iterator.table.now l.at-iterator.list)
