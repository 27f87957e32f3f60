-- A file's records as rows: the words that reading makes of each, the bytes that writing makes of each.
use Rattle.std.specs.Prelude.{ℕ, zero, suc, ◌+◌, ◌*◌, ◌<◌, ◌≡◌, refl, List, [], ◌∷◌, length, get_or}
use Rattle.rules.specs.File.{marked, word, tag_word, file_words}
use Rattle.rules.specs.FileWrite.{word_bytes, mark_bytes, record_bytes, file_bytes}
use Rattle.laws.specs.Rows.{rows}

-- what a table of words holds, as code knows of every slice of u32 that it is lent
abbrev pub Words : List ℕ → Type 0
Words ws = (i : ℕ) → get_or ws i 0 < 4294967296

-- what a file of bytes holds, as code knows of every slice of u8 that it is lent
abbrev pub Bytes : List ℕ → Type 0
Bytes bs = (i : ℕ) → get_or bs i 0 < 256

-- the words of file record r
abbrev pub record_words : List ℕ → ℕ → List ℕ
record_words bs r = tag_word (marked bs r) ∷ word bs (14 * r + 2) ∷ word bs (14 * r + 6) ∷ word bs (14 * r + 10) ∷ []

pub file_words-rows : (bs : List ℕ) (r k : ℕ) → file_words bs r k ≡ rows (record_words bs) r k
unfolding file_words rows
file_words-rows bs r zero = refl
file_words-rows bs r (suc k) = rw (file_words-rows bs (r + 1) k)

pub file_bytes-rows : (ws : List ℕ) (r k : ℕ) → file_bytes ws r k ≡ rows (record_bytes ws) r k
unfolding file_bytes rows
file_bytes-rows ws r zero = refl
file_bytes-rows ws r (suc k) = rw (file_bytes-rows ws (r + 1) k)

pub length-record_bytes : (ws : List ℕ) (r : ℕ) → length (record_bytes ws r) ≡ 14
unfolding record_bytes mark_bytes word_bytes
length-record_bytes ws r = refl
