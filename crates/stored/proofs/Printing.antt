-- A line of words, one word after another, and what a buffer keeps of it.
use Prim.Native.Nat.{ℕ, suc, ◌+◌, ◌<◌, ◌≤◌}
use mathlib.Core.Path.{◌≡◌, refl, ◌∙◌}
use mathlib.Core.Bool.{Bool}
use mathlib.Core.List.{List, [], ◌∷◌}
use native.Mathlib.Numerals.{add-one}
use lib.Dec.{leb}
use lib.ListN.{length, get_or, drop, drop_of_length-le}
use lib.Seq.{drop-cons}
use Rattle.rules.specs.Text.{Bytes, decimal}
use Rattle.text.specs.Written.{written}
use Rattle.text.specs.WrittenLaws.{written_none, written_then}
use Rattle.text.specs.WrittenLaws.{byte_then}
use Rattle.stored.specs.Lines.{spaced, words_line, kept}

-- the words before word i are written
module _ (at : ℕ) (words before line : List ℕ) (end i : ℕ) (e : written at (spaced words) before ≡ written end (spaced (drop i words)) line) where
  pub words_more : (line₁ : List ℕ) (end₁ : ℕ) → i < length words → written end (32 ∷ decimal (get_or words i 0)) line ≡ (line₁, end₁)
      → written at (spaced words) before ≡ written end₁ (spaced (drop (i + 1) words)) line₁
  unfolding spaced
  words_more line₁ end₁ h w =
      e ∙ rw (add-one, drop-cons words i 0 h) (written_then end (32 ∷ decimal (get_or words i 0)) (spaced (drop (suc i) words)) line line₁ end₁ _ w refl)

  pub words_end : (y : List ℕ × ℕ) → length words ≤ i → written end (10 ∷ []) line ≡ y → written at (words_line words) before ≡ y
  unfolding spaced words_line
  words_end y h w = written_then at (spaced words) (10 ∷ []) before line end y (e ∙ rw (drop_of_length-le words h) (written_none end line)) w

pub line_kept : (t : Bytes) (before line : List ℕ) (end : ℕ) (r : Bool) → written 0 t before ≡ (line, end) → length line ≡ length before → leb end (length line) ≡ r
    → kept t before ≡ (line, r)
unfolding kept
line_kept t before line end r w l f = rw (w, ← l, f)

-- a byte, and a line after it
pub byte_line_kept : (b : ℕ) (t : Bytes) (before between line : List ℕ) (start end : ℕ) (r : Bool) → written 0 (b ∷ []) before ≡ (between, start)
    → written start t between ≡ (line, end) → length between ≡ length before → length line ≡ length between → leb end (length line) ≡ r → kept (b ∷ t) before ≡ (line, r)
byte_line_kept b t before between line start end r p q k l f =
    line_kept (b ∷ t) before line end r (byte_then 0 b t before between start (line, end) p q) (l ∙ k) f
