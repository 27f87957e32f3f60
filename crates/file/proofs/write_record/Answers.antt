-- The four stores are the record's words.
use Rattle.file.proofs.Writing.{stored_by}
use Rattle.file.proofs.write_record.Goals as goal

pub returns : goal.returns
returns c = search stored_by
