use mathlib.Core.Path.{refl}
use borrow.Author.Rules.{rules}
use Rattle.rules.specs.FileWrite.{file_bytes}
use Rattle.write.proofs.Storing.{next_asks, more-stored}
use Rattle.write.proofs.write_records.Goals as goal

pub loop-r-init : goal.loop-r-init
unfolding file_bytes
loop-r-init c = (refl, refl)

pub write_record-requires : goal.write_record-requires
write_record-requires c = search next_asks

pub loop-r-preserved : goal.loop-r-preserved
loop-r-preserved c = (search rules, search more-stored)
