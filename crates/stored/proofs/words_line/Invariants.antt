-- The words before word x are written.
use Rattle.std.proofs.Common.{◌≡◌, drop}
use Rattle.text.specs.Written.{written}
use Rattle.stored.specs.Lines.{spaced}
use Rattle.stored.proofs.words_line.Given as goal

abbrev pub invariant-loop-x : goal.invariant-loop-x
invariant-loop-x l = written l.at (spaced l.words) l.initial.line ≡ written l.end (spaced (drop l.x-index l.words)) l.line
