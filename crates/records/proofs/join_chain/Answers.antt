use borrow.Author.Rules.{rules}
use lib.ListN.{length-set}
use Rattle.records.proofs.Earlier.{key_low, key_few, search_start, at_few, at_inside, at_room, search_stop, search_on, search_falls, search_end}
use Rattle.records.proofs.join_chain.Goals as goal

pub offset_bounds-last-key : goal.offset_bounds-last-key
offset_bounds-last-key c = search (rules, key_few)

pub bounds-last-key : goal.bounds-last-key
bounds-last-key c = search key_low

pub loop-j-init : goal.loop-j-init
loop-j-init c = search search_start

pub equal-requires : goal.equal-requires
equal-requires c = search at_inside

pub returns-then-equal : goal.returns-then-equal
returns-then-equal c = search search_stop

pub offset_bounds-before-at : goal.offset_bounds-before-at
offset_bounds-before-at c = search (rules, at_few)

pub bounds-before-at : goal.bounds-before-at
bounds-before-at c = search at_room

pub loop-j-smaller : goal.loop-j-smaller
loop-j-smaller c = search search_falls

pub loop-j-preserved : goal.loop-j-preserved
loop-j-preserved c = search search_on

pub offset_bounds-last-key-2 : goal.offset_bounds-last-key-2
offset_bounds-last-key-2 c = search (rules, key_few)

pub bounds-last-key-2 : goal.bounds-last-key-2
bounds-last-key-2 c = search key_low

pub shape_of-last : goal.shape_of-last
shape_of-last c = simp length-set

pub shape_of-before : goal.shape_of-before
shape_of-before c = simp length-set

pub returns : goal.returns
returns c = search search_end
