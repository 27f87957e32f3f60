use borrow.Author.Rules.{rules}
use Rattle.table.proofs.Lists.{element_inside}
use Rattle.places.specs.FillingLaws.{filling_room, filling_end}
use Rattle.places.specs.FollowLaws.{follows}
use Rattle.rewrite.proofs.Follows.{turn_first, turn_renames, turn_next}
use Rattle.rewrite.proofs.renamings.Goals as goal

pub loop-at-init : goal.loop-at-init
loop-at-init c = search (rules, turn_first)

pub variable_of-x-requires : goal.variable_of-x-requires
variable_of-x-requires c = let steps = c.in-Some.ensures.steps in search element_inside

pub renamed-y-requires : goal.renamed-y-requires
renamed-y-requires c = let steps = c.in-Some.ensures.steps in search turn_renames

pub push-requires : goal.push-requires
push-requires c = let steps = c.in-Some.ensures.steps in search filling_room

pub loop-at-preserved : goal.loop-at-preserved
loop-at-preserved c =
    let steps = c.in-Some.ensures.steps in
    let goes = c.in-Some.ensures.goes in
    (search rules, search rules, search rules, search turn_next)

pub returns : goal.returns
returns c = let steps = c.in-None.ensures.steps in search (follows, filling_end)
