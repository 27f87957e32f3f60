use Rattle.write.specs.SaysLaws.{write-used}
use Rattle.tanczotka_c.proofs.Packed.{write_packs}
use Rattle.tanczotka_c.proofs.tanczotka_write.Goals as goal

pub pack-requires : goal.pack-requires
pack-requires c = search write-used

pub returns : goal.returns
returns c = search write_packs
