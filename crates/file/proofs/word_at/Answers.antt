-- The word is that of its four bytes.
use Rattle.std.proofs.Common.{arith}
use Rattle.rules.specs.File.{word}
use Rattle.file.proofs.word_at.Goals as goal

pub returns : goal.returns
unfolding word
returns c = omega (arith, c.from_le_bytes.ensures)
