use borrow.Author.Rules.{rules}
use mathlib.Core.Path.{◌≡◌}
use mathlib.Core.List.{[]}
use Rattle.std.specs.Prelude.{◌⊎◌}
use Rattle.std.proofs.Common.{inl, inr}
use Rattle.rules.specs.Words.{elements}
use Rattle.table.proofs.Lists.{element_inside}
use Rattle.places.proofs.Agree.{along_first, along_end, along_room, along_more}
use Rattle.places.proofs.Map.agreeing.Goals as goal

pub loop-one-init : goal.loop-one-init
loop-one-init c = search (rules, along_first)

pub variable_of-x-requires : goal.variable_of-x-requires
variable_of-x-requires c = let steps = c.in-Some.ensures.steps in search element_inside

pub variable_of-y-requires : goal.variable_of-y-requires
variable_of-y-requires c = let steps = c.in-Some.ensures.steps in search element_inside

pub agreed-requires : goal.agreed-requires
agreed-requires c = let steps = c.in-Some.ensures.steps in search along_room

pub push-requires : goal.push-requires
push-requires c = let steps = c.in-Some.ensures.steps in search along_room

pub loop-one-preserved : goal.loop-one-preserved
loop-one-preserved c =
    let steps = c.in-Some.ensures.steps in
    let goes = c.in-Some.ensures.goes in
    (search rules, search rules, search rules, search rules, search along_more)

pub returns : goal.returns
returns c =
    let over : (elements c.loop-one.one-iterator.a.table.now c.loop-one.one-iterator.a.list ≡ []) ⊎ (elements c.loop-one.one-iterator.b.table.now c.loop-one.one-iterator.b.list ≡ []) =
    elim c.in-None.ensures.steps [ inl p ↦ inl p.1.0.0 | inr p ↦ inr p.1.0.0 ] in
    search along_end
