-- The lines that a file gives, from what reading and solving it left.
use Rattle.std.specs.Prelude.{ℕ, ◌<◌, ◌≤◌, ◌≡◌, List, [], ◌∷◌, map, length, get_or, take, replicate}
use Rattle.rules.specs.Answers.{reply}
use Rattle.rules.specs.Solve.{Behind}
use Rattle.rules.specs.Show.{shows}
use Rattle.rules.specs.Text.{Bytes, reply_line, hole_line, program_lines}
use Rattle.solver.specs.Answering.{Answerable}
use Rattle.lines.specs.declared.Begun.{Begun}

-- the program's room: R = 4,096, C = 1,024, all zero, and a note for each record
pub record Blank (ws ss qs hs : List ℕ) : Type 0 where
  pub table : ws ≡ replicate 16384 0
  pub solutions : ss ≡ replicate 4096 0
  pub queue : qs ≡ replicate 2048 0
  pub holes : length hs ≡ 4096

-- words that solving with answer 0 left
abbrev pub solved : List ℕ → List ℕ → Behind
solved ws ss = record { table = ws; solutions = ss; queue = []; said = reply 0 0 0 }

-- the line of an input hole, shown from these words in an output of 4,096 records
unfoldable pub line_of : List ℕ → List ℕ → ℕ → Bytes
line_of ws ss h = hole_line h (shows (solved ws ss) (replicate 16384 0) h)

-- the program's lines for a file: the reply's, and one for each hole noted
pub record Lines (bs ws ss hs : List ℕ) (x : Begun) : Type 0 where
  pub text : program_lines bs ≡ reply_line x.reply ∷ map (λ h. line_of ws ss h) (take x.holes hs)
  pub few : x.holes ≤ length hs
  pub answerable : (i : ℕ) → i < x.holes → Answerable ws ss (get_or hs i 0)
