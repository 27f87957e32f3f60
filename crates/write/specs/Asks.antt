-- What is known where records are judged, and where a mark and where a record is written.
use Rattle.std.specs.Prelude.{ℕ, ◌+◌, ◌*◌, ◌<◌, ◌≤◌, List, length, Result, Ok, Err}
use Rattle.rules.specs.declared.Reply.{Reply}
use Rattle.rules.specs.declared.Unwritten.{Unwritten}
use Rattle.rules.specs.Answers.{reply, unwriting}
use Rattle.rules.specs.Words.{BT, EQ, tag}
use Rattle.laws.specs.Members.{Legal}

-- the first n records, at most k, lie in the table
pub record Within (k : ℕ) (ws : List ℕ) (n : ℕ) : Type 0 where
  pub small : k ≤ 2048
  pub few : n ≤ k
  pub inside : 4 * n ≤ length ws

-- one of the ten tags
pub record Known (t : ℕ) : Type 0 where
  pub low : BT ≤ t
  pub high : t ≤ EQ

-- a tag has a mark, and the mark room in the file
pub record MarkAsks (bs : List ℕ) (i t : ℕ) : Type 0 where
  pub room : i + 1 < length bs
  pub known : Known t

-- record r lies in the table, has a mark, and has room in the file
pub record RecordAsks (ws bs : List ℕ) (r : ℕ) : Type 0 where
  pub inside : 4 * r + 3 < length ws
  pub known : Known (tag ws r)
  pub room : 14 * (r + 1) ≤ length bs

-- the table's first n records are legal, and have room in the file
pub record RecordsAsk (ws bs : List ℕ) (n : ℕ) : Type 0 where
  pub legal : Legal ws n
  pub room : 14 * n ≤ length bs

-- the reply to a table that is written, as so many records, or not
abbrev pub said : Result ℕ Unwritten → Reply
said (Ok used) = reply 0 0 used
said (Err x) = unwriting x
