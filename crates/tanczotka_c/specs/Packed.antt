-- A reply in one number: answer, place and used in 16-bit fields, lowest first.
use Rattle.std.specs.Prelude.{ℕ, ◌+◌, ◌*◌, List}
use Rattle.rules.specs.declared.Reply.{Reply}
use Rattle.rules.specs.Solve.{Behind}
use Rattle.rules.specs.Show.{Shown}
use Rattle.rules.specs.File.{Read}
use Rattle.rules.specs.FileWrite.{Wrote}

-- answer, place and used, 65,536 apart
unfoldable pub packed : Reply → ℕ
packed r = r.answer + 65536 * r.place + 4294967296 * r.used

-- the words left behind, and the packed reply
unfoldable pub left_by_solve : Behind → List ℕ × List ℕ × List ℕ × ℕ
left_by_solve l = (l.table, l.solutions, l.queue, packed l.said)

unfoldable pub left_by_show : Shown → List ℕ × List ℕ × List ℕ × List ℕ × ℕ
left_by_show x = (x.behind.table, x.behind.solutions, x.behind.queue, x.output, packed x.behind.said)

unfoldable pub left_by_read : Read → List ℕ × ℕ
left_by_read f = (f.table, packed f.said)

unfoldable pub left_by_write : Wrote → List ℕ × ℕ
left_by_write f = (f.file, packed f.said)
