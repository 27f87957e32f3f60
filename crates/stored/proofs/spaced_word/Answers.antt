-- The space, then the number.
use Rattle.text.specs.WrittenLaws.{byte_then}
use Rattle.stored.proofs.spaced_word.Goals as goal

pub returns : goal.returns
returns c = search byte_then
