-- Nothing is closed after an empty list.
use Rattle.text.proofs.Parts.{closes_nothing, closes}
use Rattle.std.proofs.Common.{refl}
use Rattle.text.proofs.close_list.Goals as goal

pub returns-then-opened-eq-NONE : goal.returns-then-opened-eq-NONE
returns-then-opened-eq-NONE c = closes_nothing _ _ _ _ c.if-opened-eq-NONE.true refl

pub returns : goal.returns
returns c = search closes
