-- The space, then the reply's line.
use Rattle.stored.proofs.Printing.{byte_line_kept}
use Rattle.stored.proofs.print_reply.Goals as goal

pub returns : goal.returns
returns g c = search byte_line_kept
