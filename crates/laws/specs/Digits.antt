-- A number's decimal digits, whatever the fuel: a single digit, or the digits of a tenth and one more.
use Rattle.std.specs.Prelude.{ℕ, zero, suc, ◌+◌, ◌/◌, ◌%◌, ◌<◌, ◌≤◌, ◌≡◌, [], ◌∷◌, ◌++◌}
use Rattle.std.proofs.Common.{ap, ◌∙◌, arith, lt-ltb, le-ltb}
use Rattle.std.proofs.Math.Decide.{dec_lt}
use Rattle.rules.specs.Lists.{enough}
use Rattle.rules.specs.Text.{Bytes, digits, decimal}

digits_small : (f x : ℕ) → x < 10 → digits (suc f) x ≡ (48 + x) ∷ []
unfolding digits
digits_small f x h = rw (lt-ltb _ _ h, digits)

digits_more : (f x : ℕ) → 10 ≤ x → digits (suc f) x ≡ digits f (x / 10) ++ ((48 + x % 10) ∷ [])
unfolding digits
digits_more f x h = rw (le-ltb _ _ h, digits)

-- fuel above the number is as good as any
digits_same : (f g x : ℕ) → x < f → x < g → digits f x ≡ digits g x
digits_same zero g x h k = absurd (omega arith)
digits_same (suc f) zero x h k = absurd (omega arith)
digits_same (suc f) (suc g) x h k = go (dec_lt x 10) (digits_same f g (x / 10))
  where
    go : Dec (x < 10) → (x / 10 < f → x / 10 < g → digits f (x / 10) ≡ digits g (x / 10)) → digits (suc f) x ≡ digits (suc g) x
    go (yes l) ih = rw (digits_small f x l, digits_small g x l)
    go (no l) ih = rw (digits_more f x (omega arith), digits_more g x (omega arith), ih (omega arith) (omega arith))

pub decimal_small : (x : ℕ) → x < 10 → decimal x ≡ (48 + x) ∷ []
unfolding decimal
decimal_small x h = digits_small 18446744073709551615 x h

-- of a number below 2 to the 64th
pub decimal-more : (x : ℕ) → 10 ≤ x → x < enough → decimal x ≡ decimal (x / 10) ++ ((48 + x % 10) ∷ [])
unfolding decimal
decimal-more x h l =
    digits_more 18446744073709551615 x h
    ∙ ap (λ (t : Bytes). t ++ ((48 + x % 10) ∷ [])) (digits_same 18446744073709551615 18446744073709551616 (x / 10) (omega arith) (omega arith))
