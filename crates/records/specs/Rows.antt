-- What is known of a record before and after it is looked at.
use Rattle.std.specs.Prelude.{ℕ, ◌+◌, ◌*◌, ◌<◌, ◌≤◌, ◌≡◌, Bool, true, List, length, get_or}
use Rattle.rules.specs.Lists.{both}
use Rattle.rules.specs.Words.{EQ, tag}
use Rattle.rules.specs.Records.{shape, shaped, first_use, keeps}
use Rattle.laws.specs.Sound.{Sound}
use Rattle.records.specs.declared.Field.{Field}
use Rattle.records.specs.declared.Notes.{Notes}
use Rattle.records.specs.Kinds.{field, Above}
use Rattle.records.specs.Marks.{Marked, used}
use Rattle.records.specs.Chains.{Chains}

-- the table's row of record r is a, b, c, and what the lower records refer to is marked
pub record RowAsks (ws ms : List ℕ) (r : ℕ) (a b c : Field) : Type 0 where
  pub above : Above ws r
  pub row : shape ws r ≡ (field a, field b, field c)
  pub tag_low : tag ws r ≤ EQ
  pub room : r < length ms
  pub known : Marked ws ms (used ws r) r

-- the answer for the fields of record r; what it refers to is marked, and its own mark is its tag
pub record RowSays (ws ms : List ℕ) (r : ℕ) (k : Bool) : Type 0 where
  pub answer : k ≡ both (shaped ws r) (first_use ws r)
  pub next : k ≡ true → Marked ws ms (used ws (r + 1)) r
  pub own : k ≡ true → get_or ms r 0 ≡ tag ws r

-- all records below r keep the rules, and the marks are right
pub record Passed (ws ms la be : List ℕ) (r : ℕ) : Type 0 where
  pub lower : Sound ws r
  pub marks : Marked ws ms (used ws r) r
  pub chains : Chains la be ws r

-- there are marks for n records
pub record Room (ms la be : List ℕ) (n : ℕ) : Type 0 where
  pub marks : n ≤ length ms
  pub last : n ≤ length la
  pub before : n ≤ length be

-- record r lies in the table, has marks, and the lower records are passed
pub record RecordAsks (ws ms la be : List ℕ) (r : ℕ) : Type 0 where
  pub inside : 4 * r + 3 < length ws
  pub few : r < 4096
  pub room : Room ms la be (r + 1)
  pub passed : Passed ws ms la be r

-- the answer for record r, and it is passed
pub record RecordSays (ws ms la be : List ℕ) (r : ℕ) (b : Bool) : Type 0 where
  pub answer : b ≡ keeps ws r
  pub next : b ≡ true → Passed ws ms la be (r + 1)

-- blank marks for n records: no chain has begun; a mark and the one before are read only after they are written
pub record Blank (ms la be : List ℕ) (n : ℕ) : Type 0 where
  pub room : Room ms la be n
  pub last : (b : ℕ) → b < length la → get_or la b 0 ≡ 0

-- the first n records lie in the table and have blank marks, and there is room to note each
pub record LentAsks (ws ms la be es : List ℕ) (n : ℕ) : Type 0 where
  pub inside : 4 * n ≤ length ws
  pub few : n ≤ 4096
  pub blank : Blank ms la be n
  pub equations : n ≤ length es

-- the same of notes for at most N records
pub record BrokenAsks {N : ℕ} (ws : List ℕ) (x : Notes N) (n : ℕ) : Type 0 where
  pub inside : 4 * n ≤ length ws
  pub few : n ≤ 4096
  pub room : n ≤ N
  pub blank : (b : ℕ) → b < length x.last → get_or x.last b 0 ≡ 0
