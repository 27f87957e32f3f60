-- After solving with answer 0 the records in use can be written to a file.
use Rattle.std.specs.Prelude.{ℕ, ◌*◌, ◌≤◌, ◌≡◌, List, length}
use Rattle.std.proofs.Common.{le-ltb}
use Rattle.rules.specs.Lists.{either}
use Rattle.rules.specs.Answers.{reply, records}
use Rattle.rules.specs.FileWrite.{write}
use Rattle.rules.specs.Solve.{solve}
use Rattle.legal.proofs.Solved.{solved-records, solved_legal, solved-within}

-- a solved table can be handed on: its records in use, up to 2,048 of them, are written to any file that holds them
pub solved-written : (ws ss qs : List ℕ) (n : ℕ) (bs : List ℕ) → (solve ws ss qs n).said.answer ≡ 0 → (solve ws ss qs n).said.used ≤ 2048 → 14 * (solve ws ss qs n).said.used ≤ length bs
    → (write (solve ws ss qs n).table (solve ws ss qs n).said.used bs).said ≡ reply 0 0 (solve ws ss qs n).said.used
unfolding write either
solved-written ws ss qs n bs e few room =
    let u = (solve ws ss qs n).said.used in
    let held : u ≤ records (solve ws ss qs n).table = rw (solved-records ws ss qs n) (solved-within ws ss qs n e) in
    rw (le-ltb _ _ held, le-ltb _ _ few, solved_legal ws ss qs n e, le-ltb _ _ room, write)
