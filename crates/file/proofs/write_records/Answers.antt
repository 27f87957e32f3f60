-- One record more is written.
use Rattle.std.proofs.Common.{rules, arith, refl}
use Rattle.rules.specs.File.{file_words}
use Rattle.file.proofs.Writing.{stored_more}
use Rattle.file.proofs.write_records.Goals as goal

pub loop-written-init : goal.loop-written-init
unfolding file_words
loop-written-init c = (omega arith, refl, refl)

pub loop-written-preserved : goal.loop-written-preserved
loop-written-preserved c = (omega arith, search rules, search stored_more)
