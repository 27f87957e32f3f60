use borrow.Author.Rules.{rules}
use Rattle.write.proofs.Storing.{mark-stored}
use Rattle.write.proofs.write_mark.Goals as goal

pub returns : goal.returns
returns c = mark-stored _ _ _ _ _ c.mark_of.ensures (search rules) c.requires.room
