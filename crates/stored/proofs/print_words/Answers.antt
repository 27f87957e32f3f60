-- The line, as far as the buffer keeps it.
use Rattle.stored.proofs.Printing.{line_kept}
use Rattle.stored.proofs.print_words.Goals as goal

pub returns : goal.returns
returns g c = search line_kept
