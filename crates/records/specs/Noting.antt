-- The records of one tag are noted in record order.
use Rattle.std.specs.Prelude.{ℕ, ◌+◌, ◌*◌, ◌<◌, ◌≡◌, List, length, Option, Some, None, Result, Ok, Err}
use Rattle.rules.specs.Words.{EQ, has}
use Rattle.rules.specs.Records.{broken}
use Rattle.laws.specs.Noted.{Noted as Noted-of}
use Rattle.records.specs.declared.Broken.{Broken}

-- the first k of the notes are the records of tag t among the first r
abbrev pub Noted : ℕ → List ℕ → List ℕ → ℕ → ℕ → Type 0
Noted t ws es k r = Noted-of (λ e. has ws e t) es k r

-- record r lies in the table, can be noted, and the lower records of tag t are
pub record NoteAsks (t : ℕ) (ws es : List ℕ) (k r : ℕ) : Type 0 where
  pub inside : 4 * r + 3 < length ws
  pub low : r < 4096
  pub room : r < length es
  pub lower : Noted t ws es k r

-- where a pass found a broken record
abbrev pub found_of : Result ℕ Broken → Option ℕ
found_of (Err r) = Some r.0
found_of (Ok k) = None

-- the lowest broken record; where there is none, all equations are noted
pub record BrokenSays (ws es : List ℕ) (n : ℕ) (x : Result ℕ Broken) : Type 0 where
  pub found : found_of x ≡ broken ws n
  pub noted : (k : ℕ) → x ≡ Ok k → Noted EQ ws es k n
