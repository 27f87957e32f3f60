use Rattle.solver.specs.UsedLaws.{solve-used}
use Rattle.tanczotka_c.proofs.Packed.{solve_packs}
use Rattle.tanczotka_c.proofs.tanczotka_solve.Goals as goal

pub pack-requires : goal.pack-requires
pack-requires c = search solve-used

pub returns : goal.returns
returns c = search solve_packs
