use native.Mathlib.Omega.{arith}
use borrow.Author.Rules.{rules}
use Rattle.lines.proofs.Making.{reply_stands}
use Rattle.lines.proofs.first_line.Goals as goal

pub returns : goal.returns
returns c = reply_stands _ _ _ (omega arith) (omega arith) (omega arith) _ _ _ (search rules) (omega arith) c.reply_line.ensures
