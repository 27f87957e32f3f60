use Rattle.write.proofs.Storing.{record_stored}
use Rattle.write.proofs.write_record.Goals as goal

pub returns : goal.returns
returns c = search record_stored
