use borrow.Author.Rules.{rules}
use Rattle.table.proofs.Lists.{element_inside}
use Rattle.patterns.proofs.Turns.{named_end, named_here, named_on}
use Rattle.patterns.proofs.named.Goals as goal

pub read-requires : goal.read-requires
read-requires c = let steps = c.in-Some.ensures.steps in search element_inside

pub returns-then-read-v : goal.returns-then-read-v
returns-then-read-v c = let steps = c.in-Some.ensures.steps in search named_here

pub loop-at-preserved : goal.loop-at-preserved
loop-at-preserved c =
    let steps = c.in-Some.ensures.steps in
    let goes = c.in-Some.ensures.goes in
    (search rules, search rules, search rules, search named_on)

pub returns : goal.returns
returns c = let steps = c.in-None.ensures.steps in search named_end
