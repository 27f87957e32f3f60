-- Its four parts one after another.
use Rattle.text.proofs.Lines.{writes_start}
use Rattle.text.proofs.start_hole.Goals as goal

pub returns : goal.returns
returns c = search writes_start
