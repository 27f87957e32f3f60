-- Writing a file: records of a table become records of 14 bytes, the two-byte mark, then a, b, c little-endian.
use Rattle.std.specs.Prelude.{ℕ, zero, suc, ◌+◌, ◌*◌, ◌/◌, ◌%◌, true, false, List, [], ◌∷◌, ◌++◌, length, get_or, drop, ltb, Some, None}
use Rattle.rules.specs.declared.Unwritten.TheVariants.{TooMany, Broken, ShortFile}
use Rattle.rules.specs.declared.Reply.{Reply}
use Rattle.rules.specs.Lists.{either}
use Rattle.rules.specs.Words.{tag, field_a, field_b, field_c}
use Rattle.rules.specs.Answers.{reply, unwriting, records}
use Rattle.rules.specs.Records.{broken}
use Rattle.rules.specs.File.{marks}

-- the four bytes of a word, little-endian
unfoldable pub word_bytes : ℕ → List ℕ
word_bytes w = w % 256 ∷ w / 256 % 256 ∷ w / 65536 % 256 ∷ w / 16777216 % 256 ∷ []

-- the two bytes of a tag's mark
unfoldable pub mark_bytes : ℕ → List ℕ
mark_bytes t = (get_or marks t (0, 0)).0 ∷ (get_or marks t (0, 0)).1 ∷ []

-- the bytes of record r: the mark of its tag, then a, b, c
unfoldable pub record_bytes : List ℕ → ℕ → List ℕ
record_bytes ws r = mark_bytes (tag ws r) ++ (word_bytes (field_a ws r) ++ (word_bytes (field_b ws r) ++ word_bytes (field_c ws r)))

-- the bytes of k records from record r on
unfoldable pub file_bytes : List ℕ → ℕ → ℕ → List ℕ
file_bytes ws r zero = []
file_bytes ws r (suc k) = record_bytes ws r ++ file_bytes ws (r + 1) k

-- the file's bytes left behind, and the reply
pub record Wrote : Type 0 where
  pub file : List ℕ
  pub said : Reply

-- writing the first n records of a table: 4, then 5, then 14, with nothing written in each case; bytes past the file stay
unfoldable pub write : List ℕ → ℕ → List ℕ → Wrote
write ws n bs =
    elim (either (ltb (records ws) n) (ltb 2048 n)) [
      | true ↦ record { file = bs; said = unwriting TooMany }
      | false ↦ elim (broken ws n) [
        | Some r ↦ record { file = bs; said = unwriting (Broken r) }
        | None ↦ elim (ltb (length bs) (14 * n)) [
          | true ↦ record { file = bs; said = unwriting ShortFile }
          | false ↦ record { file = file_bytes ws 0 n ++ drop (14 * n) bs; said = reply 0 0 n }
        ]
      ]
    ]
