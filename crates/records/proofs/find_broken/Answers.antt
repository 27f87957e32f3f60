use Rattle.std.proofs.Common.{rules}
use Rattle.records.specs.ZerosLaws.{lent_asks}
use Rattle.records.proofs.find_broken.Goals as goal

pub lowest_broken-requires : goal.lowest_broken-requires
lowest_broken-requires g c = lent_asks _ _ _ c.requires (search rules) (search rules) (search rules) (search rules)
