-- Start, answer and newline one after another.
use Rattle.text.proofs.Lines.{writes_line}
use Rattle.text.proofs.hole_line.Goals as goal

pub returns : goal.returns
returns c = search writes_line
