use Rattle.std.proofs.Common.{rules}
use Rattle.records.specs.ZerosLaws.{lent_asks}
use Rattle.checks.proofs.refuse.Goals as goal

pub refuse_lent-requires : goal.refuse_lent-requires
refuse_lent-requires g c = lent_asks _ _ _ c.requires (search rules) (search rules) (search rules) (search rules)
