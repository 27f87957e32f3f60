-- A text written into a lent buffer: what fits is written, and the number that comes back is where the text would end.
use Rattle.std.specs.Prelude.{ℕ, ◌+◌, min, List, [], ◌∷◌, set}
use Rattle.rules.specs.Text.{Bytes}

-- the largest number that an end can be
abbrev pub most : ℕ
most = 18446744073709551615

-- the buffer after a text was written from index `at` on, and the index past it, at most the largest; a byte past the buffer's end is dropped
unfoldable pub written : ℕ → Bytes → List ℕ → List ℕ × ℕ
written at [] out = (out, at)
written at (b ∷ t) out = written (min (at + 1) most) t (set out at b)
