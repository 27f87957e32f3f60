use borrow.Author.Rules.{rules}
use Rattle.table.proofs.Lists.{element_inside}
use Rattle.places.specs.FillingLaws.{filling-first, filling_room, filling-more, filling_end}
use Rattle.places.proofs.Filled.{arguments_are}
use Rattle.places.proofs.Map.arguments.Goals as goal

pub loop-at-init : goal.loop-at-init
loop-at-init c = search (rules, filling-first)

pub variable_of-x-requires : goal.variable_of-x-requires
variable_of-x-requires c = let steps = c.in-Some.ensures.steps in search element_inside

pub push-requires : goal.push-requires
push-requires c = let steps = c.in-Some.ensures.steps in search filling_room

pub loop-at-preserved : goal.loop-at-preserved
loop-at-preserved c =
    let steps = c.in-Some.ensures.steps in
    let goes = c.in-Some.ensures.goes in
    (search rules, search rules, search rules, search filling-more)

pub returns : goal.returns
returns c = let steps = c.in-None.ensures.steps in search (arguments_are, filling_end)
