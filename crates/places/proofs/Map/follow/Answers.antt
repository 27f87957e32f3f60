use borrow.Author.Rules.{rules}
use Rattle.table.proofs.Lists.{element_inside}
use Rattle.places.specs.FillingLaws.{filling_room, filling_end}
use Rattle.places.specs.AlongLaws.{along_first}
use Rattle.places.specs.FollowLaws.{follow-here, follow-more, follows}
use Rattle.places.proofs.Map.follow.Goals as goal

pub loop-at-init : goal.loop-at-init
loop-at-init c = search (rules, along_first)

pub variable_of-x-requires : goal.variable_of-x-requires
variable_of-x-requires c = let steps = c.in-Some.ensures.steps in search element_inside

pub place_or_none-requires : goal.place_or_none-requires
place_or_none-requires c = let steps = c.in-Some.ensures.steps in (search rules, search follow-here)

pub push-requires : goal.push-requires
push-requires c = let steps = c.in-Some.ensures.steps in search filling_room

pub loop-at-preserved : goal.loop-at-preserved
loop-at-preserved c =
    let steps = c.in-Some.ensures.steps in
    let goes = c.in-Some.ensures.goes in
    (search rules, search rules, search rules, search follow-more)

pub returns : goal.returns
returns c = let steps = c.in-None.ensures.steps in search (follows, filling_end)
