-- A number written digit by digit: a single digit, or a tenth of it and one more.
use Prim.Native.Nat.{ℕ, ◌+◌, ◌/◌, ◌%◌, ◌<◌, ◌≤◌}
use mathlib.Core.Path.{◌≡◌}
use mathlib.Core.List.{List, [], ◌∷◌}
use native.Mathlib.Omega.{arith}
use Rattle.rules.specs.Text.{decimal}
use Rattle.laws.specs.Digits.{decimal_small, decimal-more}
use Rattle.text.specs.Written.{written}
use Rattle.text.specs.WrittenLaws.{written_then}

module _ (at : ℕ) (out : List ℕ) (x : ℕ) (y : List ℕ × ℕ) where
  pub writes_digit : x < 10 → written at ((48 + x) ∷ []) out ≡ y → written at (decimal x) out ≡ y
  writes_digit h e = rw (decimal_small x h) e

  pub writes_digits : (o : List ℕ) (n : ℕ) → 10 ≤ x → x < 18446744073709551615 → written at (decimal (x / 10)) out ≡ (o, n) → written n ((48 + x % 10) ∷ []) o ≡ y
      → written at (decimal x) out ≡ y
  writes_digits o n h l p q = rw (decimal-more x h (omega arith)) (written_then at _ _ out o n y p q)
