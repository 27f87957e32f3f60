-- The lines that are gathered in a buffer.
use Rattle.std.specs.Prelude.{ℕ, ◌≤◌, ◌≡◌, List, length}
use Rattle.lines.specs.declared.Begun.{Begun}
use Rattle.lines.specs.Lines.{Lines}

-- half of the buffer in which lines are gathered: the other half has room for the longest line
abbrev pub half : ℕ
half = 65536

-- the words that some file left, an output of 4,096 records, and a buffer of which at most half is filled
pub record Gathers (x : Begun) (ws ss hs os text : List ℕ) (end : ℕ) : Type 0 where
  pub file : List ℕ
  pub lines : Lines file ws ss hs x
  pub few : length hs ≡ 4096
  pub output : length os ≡ 16384
  pub long : length text ≡ 131072
  pub filled : end ≤ half
