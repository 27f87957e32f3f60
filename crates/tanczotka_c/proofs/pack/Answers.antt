use Rattle.tanczotka_c.proofs.Packed.{packs}
use Rattle.tanczotka_c.proofs.pack.Goals as goal

pub returns : goal.returns
returns c = search packs
