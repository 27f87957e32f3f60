-- Lines of words, and what a buffer keeps of a line. Definitions only.
use Rattle.std.specs.Prelude.{ℕ, Bool, List, [], ◌∷◌, ◌++◌, leb, length}
use Rattle.rules.specs.Text.{Bytes, decimal}
use Rattle.text.specs.Written.{written}

-- each word after a space (32)
unfoldable pub spaced : List ℕ → Bytes
spaced [] = []
spaced (x ∷ words) = 32 ∷ (decimal x ++ spaced words)

-- each word after a space, and a newline (10)
unfoldable pub words_line : List ℕ → Bytes
words_line words = spaced words ++ (10 ∷ [])

-- the buffer after a line was written from its start on, and whether the line fits
unfoldable pub kept : Bytes → List ℕ → List ℕ × Bool
kept line buffer = let after = written 0 line buffer in (after.0, leb after.1 (length buffer))
