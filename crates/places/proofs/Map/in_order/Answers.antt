use borrow.Author.Rules.{rules}
use Rattle.places.specs.FillingLaws.{filling-first, filling_room, filling-more, filling_end}
use Rattle.places.proofs.Filled.{in_order}
use Rattle.places.proofs.Map.in_order.Goals as goal

pub loop-init : goal.loop-init
loop-init c = search (rules, filling-first)

pub push-requires : goal.push-requires
push-requires c = let steps = c.in-Some.ensures.steps in search filling_room

pub loop-preserved : goal.loop-preserved
loop-preserved c =
    let steps = c.in-Some.ensures.steps in
    let goes = c.in-Some.ensures.goes in
    (search rules, search rules, search rules, search filling-more)

pub returns : goal.returns
returns c = let steps = c.in-None.ensures.steps in search (in_order, filling_end)
