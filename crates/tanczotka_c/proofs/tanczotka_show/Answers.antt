use Rattle.solver.specs.UsedLaws.{show-used}
use Rattle.tanczotka_c.proofs.Packed.{show_packs}
use Rattle.tanczotka_c.proofs.tanczotka_show.Goals as goal

pub pack-requires : goal.pack-requires
pack-requires c = search show-used

pub returns : goal.returns
returns c = search show_packs
