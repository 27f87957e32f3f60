use borrow.Author.Rules.{rules}
use mathlib.Core.Path.{◌≡◌}
use mathlib.Core.List.{[]}
use Rattle.std.specs.Prelude.{◌⊎◌}
use Rattle.std.proofs.Common.{inl, inr}
use Rattle.rules.specs.Words.{elements}
use Rattle.queue.proofs.Arguments.{turn_first, turn_ends, turn_full, turn_room, turn_next}
use Rattle.queue.proofs.Ring.join_pairs.Goals as goal

pub loop-left-init : goal.loop-left-init
loop-left-init c = search (rules, turn_first)

pub returns-then-ring : goal.returns-then-ring
returns-then-ring c = let steps = c.in-Some.ensures.steps in search turn_full

pub join-ring-requires : goal.join-ring-requires
join-ring-requires c = search turn_room

pub loop-left-preserved : goal.loop-left-preserved
loop-left-preserved c =
    let steps = c.in-Some.ensures.steps in
    let goes = c.in-Some.ensures.goes in
    (search rules, search rules, search turn_next)

pub returns : goal.returns
returns c =
    let over : (elements c.loop-left.left-iterator.a.table.now c.loop-left.left-iterator.a.list ≡ []) ⊎ (elements c.loop-left.left-iterator.b.table.now c.loop-left.left-iterator.b.list ≡ []) =
    elim c.in-None.ensures.steps [ inl p ↦ inl p.1.0.0 | inr p ↦ inr p.1.0.0 ] in
    search turn_ends
