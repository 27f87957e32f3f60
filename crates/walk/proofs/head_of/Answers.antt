use Rattle.walk.proofs.Head.{head-placed, head_lost, head_constant}
use borrow.Author.Rules.{rules}
use Rattle.walk.proofs.head_of.Goals as goal

pub place_of-requires : goal.place_of-requires
place_of-requires c = (search rules, search c.requires.1)

pub returns-in_err-v : goal.returns-in_err-v
returns-in_err-v c = rw c.from_residual.ensures (search (head_lost, c.in_err-v.was))

pub returns-then-rec-eq-VA : goal.returns-then-rec-eq-VA
returns-then-rec-eq-VA c = search (head-placed, c.in_ok-v.was)

pub returns : goal.returns
returns c = search head_constant
