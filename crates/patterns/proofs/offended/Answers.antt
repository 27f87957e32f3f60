use Prim.Native.Nat.{◌≤◌}
use native.Mathlib.Omega.{arith}
use Rattle.rules.specs.Words.{NONE}
use Rattle.laws.specs.Places.{list_read}
use Rattle.patterns.proofs.Turns.{occurrence_fine, occurrence_offends}
use Rattle.patterns.proofs.offended.Goals as goal

pub different-requires : goal.different-requires
different-requires c = search list_read

pub returns-then-different : goal.returns-then-different
returns-then-different c = let few : c.args.low ≤ NONE = omega arith in search occurrence_fine

pub returns : goal.returns
returns c = search occurrence_offends
