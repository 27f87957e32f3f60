-- A file record as a record of the table.
use Rattle.std.specs.Prelude.{ℕ, ◌*◌, ◌<◌, ◌≤◌, ◌≡◌, List, length, get_or, Some}
use Rattle.std.proofs.lemmas.List.Edits.{sets}
use Rattle.rules.specs.File.{marked}
use Rattle.laws.specs.FileRows.{record_words}

-- the file has n records, and the table has room for them
pub record Fitting (bs ws : List ℕ) (n : ℕ) : Type 0 where
  pub source : 14 * n ≤ length bs
  pub room : 4 * n ≤ length ws

-- the table with file record r as its record r
unfoldable pub stored : List ℕ → ℕ → List ℕ → List ℕ
stored bs r ws = sets ws (4 * r) (record_words bs r)

-- the marks of the first n file records are known, and these are their tags
abbrev pub Noted : List ℕ → List ℕ → ℕ → Type 0
Noted bs ts n = (r : ℕ) → r < n → marked bs r ≡ Some (get_or ts r 0)
