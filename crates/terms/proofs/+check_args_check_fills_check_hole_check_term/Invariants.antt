use Prim.Native.Nat.{◌+◌, ◌*◌}
use mathlib.Core.Path.{◌≡◌}
use Rattle.laws.specs.Lists.{size, Listed}
use Rattle.terms.proofs.Arguments.{Counting}
use Rattle.terms.proofs.Arguments.{Filling}
use Rattle.terms.proofs.Terms.{InHand}
use Rattle.terms.proofs.+check_args_check_fills_check_hole_check_term.Given as goal

abbrev pub decreases-check_args : goal.decreases-check_args
decreases-check_args l = 2 * size l.l

abbrev pub decreases-check_fills : goal.decreases-check_fills
decreases-check_fills l = 2 * size l.l

abbrev pub decreases-check_hole : goal.decreases-check_hole
decreases-check_hole l = 2 * l.at + 1

abbrev pub decreases-check_term : goal.decreases-check_term
decreases-check_term l = 2 * l.r + 2

abbrev pub invariant-check_args-loop-left : goal.invariant-check_args-loop-left
invariant-check_args-loop-left l = Counting l.table l.initial.stack l.initial.low l.depth l.l l.head l.stack l.low l.list l.rest l.left

abbrev pub decreases-check_args-loop-left : goal.decreases-check_args-loop-left
decreases-check_args-loop-left l = size l.list

abbrev pub invariant-check_fills-loop-at : goal.invariant-check_fills-loop-at
invariant-check_fills-loop-at l =
    goal.iterator-check_fills-loop-at.can_next l.at-iterator × goal.iterator-check_fills-loop-at.is_finite l.at-iterator
    × Listed l.types.table.now l.types.list × (l.types.table.now ≡ l.table) × (l.at-iterator.table.now ≡ l.table)
    × Filling l.table l.initial.stack l.initial.low l.depth l.l l.context l.stack l.low l.at-iterator.list l.types.list

abbrev pub invariant-check_term-loop-stack : goal.invariant-check_term-loop-stack
invariant-check_term-loop-stack l = InHand l.table l.initial.stack l.initial.low l.depth l.r l.ty l.stack l.low l.d l.at l.term

abbrev pub decreases-check_term-loop-stack : goal.decreases-check_term-loop-stack
decreases-check_term-loop-stack l = l.term
