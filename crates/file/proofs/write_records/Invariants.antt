-- The records written are the file's, and the rest is as it was.
use Rattle.std.proofs.Common.{◌≡◌, ◌≤◌, ◌*◌, ◌++◌, length, drop}
use Rattle.rules.specs.File.{file_words}
use Rattle.file.proofs.write_records.Given as goal

abbrev pub invariant-loop-written : goal.invariant-loop-written
invariant-loop-written l = (l.written ≤ l.n) × (length l.table ≡ length l.initial.table) × (l.table ≡ file_words l.file 0 l.written ++ drop (4 * l.written) l.initial.table)
