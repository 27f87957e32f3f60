use Rattle.heads.proofs.Bare.{named_other, named_type}
use Rattle.heads.proofs.names.Goals as goal

pub returns-then-y-ne-VA : goal.returns-then-y-ne-VA
returns-then-y-ne-VA c = search named_other

pub returns : goal.returns
returns c = search named_type
