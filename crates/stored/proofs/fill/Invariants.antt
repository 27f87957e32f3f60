-- After i turns the first i words are filled and the rest is as it was.
use Rattle.std.proofs.Common.{◌≡◌, ◌++◌, drop}
use Rattle.stored.specs.Words.{words_from}
use Rattle.stored.proofs.fill.Given as goal

abbrev pub invariant-loop-i : goal.invariant-loop-i
invariant-loop-i l = l.words ≡ words_from l.bytes l.first l.i ++ drop l.i l.initial.words
