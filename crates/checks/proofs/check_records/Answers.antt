use Rattle.std.proofs.Common.{rules}
use native.Mathlib.Omega.{arith}
use Rattle.records.specs.ZerosLaws.{zeros_ask}
use Rattle.checks.proofs.Order.{solving-sound}
use Rattle.checks.proofs.check_records.Goals as goal

pub refuse-requires : goal.refuse-requires
refuse-requires c = (omega arith, zeros_ask 4096 _ (search rules) _ _ c.requires.0 c.requires.0 c.requires.1)

pub returns : goal.returns
returns c = search solving-sound
