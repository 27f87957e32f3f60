-- Three numbers, each with the byte after it.
use Rattle.text.proofs.Lines.{writes_reply}
use Rattle.text.proofs.reply_line.Goals as goal

pub returns : goal.returns
returns c = search writes_reply
