use Rattle.records.proofs.Noting.{note_other, note_one}
use Rattle.records.proofs.note.Goals as goal

pub returns-then-x-tag : goal.returns-then-x-tag
returns-then-x-tag c = search note_other

pub returns : goal.returns
returns c = search note_one
