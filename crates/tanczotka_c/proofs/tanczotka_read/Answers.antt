use Rattle.solver.specs.UsedLaws.{read-used}
use Rattle.tanczotka_c.proofs.Packed.{read_packs}
use Rattle.tanczotka_c.proofs.tanczotka_read.Goals as goal

pub pack-requires : goal.pack-requires
pack-requires c = search read-used

pub returns : goal.returns
returns c = search read_packs
