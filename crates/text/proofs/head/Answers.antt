-- The letter, then the number.
use Rattle.text.proofs.Parts.{writes_head}
use Rattle.text.proofs.head.Goals as goal

pub returns : goal.returns
returns c = search writes_head
