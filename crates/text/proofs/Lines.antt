-- The lines of a reply and of a hole: from what their parts write to what they write.
use Prim.Native.Nat.{ℕ, zero, suc, ◌-◌, ◌≤◌}
use mathlib.Core.Path.{◌≡◌, refl}
use mathlib.Core.List.{List, [], ◌∷◌, ◌++◌, append_assoc}
use Rattle.rules.specs.declared.Reply.{Reply}
use Rattle.rules.specs.Lists.{enough}
use Rattle.rules.specs.Text.{Bytes, decimal, printed, reply_line}
use Rattle.text.specs.Written.{written}
use Rattle.text.specs.WrittenLaws.{written_then, byte_then}
use Rattle.text.specs.Notation.{number_text, start_text, answer_text, line_text}
use Rattle.text.specs.Printable.{Term, Answered}

-- a number and a byte, then a text
number_then : (at x b : ℕ) (u : Bytes) (out o : List ℕ) (n : ℕ) (y : List ℕ × ℕ) → written at (number_text x b) out ≡ (o, n) → written n u o ≡ y
    → written at (decimal x ++ (b ∷ u)) out ≡ y
unfolding number_text
number_then at x b u out o n y p q = rw (append_assoc (decimal x) (b ∷ []) u) at (written_then at (decimal x ++ (b ∷ [])) u out o n y p q)

module _ (at : ℕ) (out o : List ℕ) (n : ℕ) (y : List ℕ × ℕ) where
  pub writes_number : (x b : ℕ) → written at (decimal x) out ≡ (o, n) → written n (b ∷ []) o ≡ y → written at (number_text x b) out ≡ y
  unfolding number_text
  writes_number x b p q = written_then at _ _ out o n y p q

  pub writes_reply : (r : Reply) (o₂ : List ℕ) (n₂ : ℕ) → written at (number_text r.answer 32) out ≡ (o, n) → written n (number_text r.place 32) o ≡ (o₂, n₂)
      → written n₂ (number_text r.used 10) o₂ ≡ y → written at (reply_line r) out ≡ y
  unfolding reply_line number_text
  writes_reply r o₂ n₂ p q z = number_then at _ 32 _ out o n y p (number_then n _ 32 _ o o₂ n₂ y q z)

  pub writes_start : (h : ℕ) (o₂ o₃ : List ℕ) (n₂ n₃ : ℕ) → written at (104 ∷ []) out ≡ (o, n) → written n (number_text h 32) o ≡ (o₂, n₂) → written n₂ (61 ∷ []) o₂ ≡ (o₃, n₃)
      → written n₃ (32 ∷ []) o₃ ≡ y → written at (start_text h) out ≡ y
  unfolding start_text
  writes_start h o₂ o₃ n₂ n₃ p q u z =
      byte_then at 104 _ out o n y p (number_then n h 32 _ o o₂ n₂ y q (byte_then n₂ 61 _ o₂ o₃ n₃ y u z))

  pub writes_line : (h : ℕ) (said : Reply) (os o₂ : List ℕ) (n₂ : ℕ) → written at (start_text h) out ≡ (o, n) → written n (answer_text said os) o ≡ (o₂, n₂)
      → written n₂ (10 ∷ []) o₂ ≡ y → written at (line_text h said os) out ≡ y
  unfolding line_text
  writes_line h said os o₂ n₂ p q z = written_then at _ _ out o n y p (written_then n _ _ o o₂ n₂ y q z)

module _ (at : ℕ) (out : List ℕ) (y : List ℕ × ℕ) (said : Reply) (os : List ℕ) where
  pub writes_answer : said.answer ≡ 0 → written at (printed enough os (said.used - 1)) out ≡ y → written at (answer_text said os) out ≡ y
  unfolding answer_text
  writes_answer e p = rw (e, answer_text) p

  pub writes_none : (said.answer ≡ 0 → ⊥) → written at (63 ∷ []) out ≡ y → written at (answer_text said os) out ≡ y
  unfolding answer_text
  writes_none n p = go said.answer refl
    where
      go : (a : ℕ) → said.answer ≡ a → written at (answer_text said os) out ≡ y
      go zero e = absurd (n e)
      go (suc k) e = rw (e, answer_text) p

module _ (said : Reply) (os : List ℕ) (h : Answered said os) (e : said.answer ≡ 0) where
  pub answered_some : 1 ≤ said.used
  answered_some = h.some e

  pub answered_term : Term os (said.used - 1)
  answered_term = h.term e
