use mathlib.Core.Path.{◌≡◌}
use borrow.Author.Rules.{rules}
use Rattle.laws.specs.Places.{list_read}
use Rattle.table.proofs.Lists.{element_inside}
use Rattle.patterns.proofs.Turns.{different_all, different_end, another_tag, variable-applied, different_twice, different_on}
use Rattle.patterns.proofs.different.Goals as goal
use Rattle.patterns.proofs.different.Goals.{then-x-ne-VA-via-then-x-ne-VA, then-x-ne-VA-via-else-x-ne-VA+then-x, then-x-ne-VA-via-else-x-ne-VA+else-x+then-named}

pub loop-at-init : goal.loop-at-init
loop-at-init c = search (rules, list_read, different_all)

pub read-x-requires : goal.read-x-requires
read-x-requires c = let steps = c.in-Some.ensures.steps in search element_inside

pub named-requires : goal.named-requires
named-requires c =
    let steps = c.in-Some.ensures.steps in
    let goes = c.in-Some.ensures.goes in
    search rules

pub returns-then-x-ne-VA : goal.returns-then-x-ne-VA
returns-then-x-ne-VA c =
    let steps = c.in-Some.ensures.steps in
    let table : c.next.new.self.table.now ≡ c.args.table.now = search rules in
    elim c.then-x-ne-VA.branch [
      | then-x-ne-VA-via-then-x-ne-VA w ↦ search another_tag
      | then-x-ne-VA-via-else-x-ne-VA+then-x w ↦ search variable-applied
      | then-x-ne-VA-via-else-x-ne-VA+else-x+then-named w ↦ search different_twice
    ]

pub loop-at-preserved : goal.loop-at-preserved
loop-at-preserved c =
    let steps = c.in-Some.ensures.steps in
    let goes = c.in-Some.ensures.goes in
    let table : c.next.new.self.table.now ≡ c.args.table.now = search rules in
    (search rules, search rules, table, search different_on)

pub returns : goal.returns
returns c = let steps = c.in_default.ensures.steps in search different_end
