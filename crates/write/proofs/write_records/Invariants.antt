use Prim.Native.Nat.{◌*◌}
use mathlib.Core.Path.{◌≡◌}
use mathlib.Core.List.{◌++◌}
use lib.ListN.{length, drop}
use Rattle.rules.specs.FileWrite.{file_bytes}
use Rattle.write.proofs.write_records.Given as goal

abbrev pub invariant-loop-r : goal.invariant-loop-r
invariant-loop-r l = (length l.file ≡ length l.initial.file) × (l.file ≡ file_bytes l.table 0 l.r ++ drop (14 * l.r) l.initial.file)
