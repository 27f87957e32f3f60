-- One line, in a buffer that is long enough.
use Rattle.std.specs.Prelude.{ℕ, ◌≤◌, ◌≡◌, List, [], length, get_or, take}
use Rattle.rules.specs.Text.{Bytes, program_lines}
use Rattle.lines.specs.declared.Begun.{Begun}
use Rattle.lines.specs.Lines.{Lines}

-- no line is longer: 14 bytes for each output record, and the line's own
abbrev pub longest : ℕ
longest = 65536

-- a text no longer than that stands at the buffer's start
pub record Stands (t : Bytes) (text : List ℕ) (r : ℕ) : Type 0 where
  pub short : r ≤ longest
  pub whole : take r text ≡ t

-- line i of some file, with an output of 4,096 records and a buffer for the longest line
pub record Makes (text : List ℕ) (i : ℕ) (x : Begun) (ws ss hs os : List ℕ) : Type 0 where
  pub file : List ℕ
  pub lines : Lines file ws ss hs x
  pub some : i ≤ x.holes
  pub output : length os ≡ 16384
  pub room : longest ≤ length text

-- of whatever file these are the words, the first bytes are line i
pub record Made (i : ℕ) (x : Begun) (ws ss hs text : List ℕ) (r : ℕ) : Type 0 where
  pub short : r ≤ longest
  pub line : (bs : List ℕ) → Lines bs ws ss hs x → Stands (get_or (program_lines bs) i []) text r
