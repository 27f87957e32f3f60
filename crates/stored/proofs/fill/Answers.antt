-- One more word is filled in each turn.
use Rattle.std.proofs.Common.{refl}
use Rattle.stored.specs.Words.{words_from}
use Rattle.stored.proofs.Filling.{filled_more}
use Rattle.stored.proofs.fill.Goals as goal

pub loop-i-init : goal.loop-i-init
unfolding words_from
loop-i-init c = refl

pub loop-i-preserved : goal.loop-i-preserved
loop-i-preserved c = search filled_more
