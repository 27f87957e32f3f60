-- The words that bytes hold. Definitions only.
use Rattle.std.specs.Prelude.{ℕ, zero, suc, ◌+◌, ◌*◌, List, [], ◌∷◌}
use Rattle.rules.specs.File.{word}

-- so many words of a text of bytes, from word `first` on
unfoldable pub words_from : List ℕ → ℕ → ℕ → List ℕ
words_from bytes first zero = []
words_from bytes first (suc count) = word bytes (4 * first) ∷ words_from bytes (first + 1) count
