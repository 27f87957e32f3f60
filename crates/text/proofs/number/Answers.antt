-- The digits, then the byte.
use Rattle.text.proofs.Lines.{writes_number}
use Rattle.text.proofs.number.Goals as goal

pub returns : goal.returns
returns c = search writes_number
