use borrow.Author.Rules.{rules}
use Rattle.write.proofs.Storing.{word-stored}
use Rattle.write.proofs.write_word.Goals as goal

pub returns : goal.returns
returns c = word-stored _ _ _ _ (search rules) c.requires
