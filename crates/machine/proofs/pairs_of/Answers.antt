use mathlib.Core.Path.{sym}
use Rattle.rules.specs.Answers.{pairs}
use Rattle.machine.proofs.pairs_of.Goals as goal

pub returns : goal.returns
unfolding pairs
returns c = sym c.min.ensures
