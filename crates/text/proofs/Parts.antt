-- Each way that printing a term or a list goes: from what its parts write to what it writes.
use Prim.Native.Nat.{ℕ}
use mathlib.Core.Path.{◌≡◌, sym, ◌∙◌}
use mathlib.Core.List.{List, [], ◌∷◌}
use borrow.Author.Tests.{eq-eqb, ne_eqb}
use Rattle.rules.specs.Lists.{enough}
use Rattle.rules.specs.Words.{NONE, tag, LA}
use Rattle.rules.specs.Text.{decimal, printed}
use Rattle.table.specs.declared.Record.{Record}
use Rattle.table.specs.Reading.{IsRecord}
use Rattle.text.specs.Written.{written}
use Rattle.text.specs.WrittenLaws.{written_none, written_then, byte_then}
use Rattle.text.specs.Notation.{letter, head_text, list_text, closing}
use Rattle.text.specs.Printable.{Term, Terms}
use Rattle.text.proofs.Printed.{list_none, list_cell, printed_lambda, printed-applied}

module _ (at : ℕ) (out : List ℕ) (x : List ℕ × ℕ) where
  pub writes_head : (tag a : ℕ) (o : List ℕ) (n : ℕ) (b : ℕ) → b ≡ letter tag → written at (b ∷ []) out ≡ (o, n) → written n (decimal a) o ≡ x
      → written at (head_text tag a) out ≡ x
  unfolding head_text
  writes_head tag a o n b e p q = byte_then at _ _ out o n x (rw e at p) q

  pub closes_nothing : (l : ℕ) → l ≡ NONE → (out, at) ≡ x → written at (closing l) out ≡ x
  unfolding closing
  closes_nothing l e q = rw (eq-eqb _ _ e, closing) (written_none at out ∙ q)

  pub closes : (l : ℕ) → (l ≡ NONE → ⊥) → written at (41 ∷ []) out ≡ x → written at (closing l) out ≡ x
  unfolding closing
  closes l n q = rw (ne_eqb _ _ n, closing) q

  module _ (ws : List ℕ) (r : ℕ) (h : Term ws r) (w : Record) (is : IsRecord ws r w) (o : List ℕ) (n : ℕ) where
    pub writes_lambda : w.tag ≡ LA → written at (92 ∷ []) out ≡ (o, n) → written n (printed enough ws w.a) o ≡ x → written at (printed enough ws r) out ≡ x
    writes_lambda e p q =
        rw (printed_lambda ws r h (sym is.tag_is ∙ e)) (byte_then at 92 _ out o n x p (rw is.a_is at q))

    pub writes_applied : (o₂ : List ℕ) (n₂ : ℕ) → (w.tag ≡ LA → ⊥) → written at (head_text w.tag w.a) out ≡ (o, n) → written n (list_text 40 ws w.b) o ≡ (o₂, n₂)
        → written n₂ (closing w.b) o₂ ≡ x → written at (printed enough ws r) out ≡ x
    writes_applied o₂ n₂ e p q z =
        rw (printed-applied ws r h (λ k. e (is.tag_is ∙ k)), ← is.tag_is, ← is.a_is, ← is.b_is)
        (written_then at _ _ out o n x p (written_then n _ _ o o₂ n₂ x q z))

  pub writes_no_list : (m : ℕ) (ws : List ℕ) (l : ℕ) → l ≡ NONE → (out, at) ≡ x → written at (list_text m ws l) out ≡ x
  writes_no_list m ws l e q = rw (list_none ws l m e) (written_none at out ∙ q)

  pub writes_list : (m : ℕ) (ws : List ℕ) (l : ℕ) → Terms ws l → (w : Record) → IsRecord ws l w → (l ≡ NONE → ⊥) → (o : List ℕ) (n : ℕ) (o₂ : List ℕ) (n₂ : ℕ)
      → written at (m ∷ []) out ≡ (o, n) → written n (printed enough ws w.a) o ≡ (o₂, n₂) → written n₂ (list_text 44 ws w.b) o₂ ≡ x → written at (list_text m ws l) out ≡ x
  writes_list m ws l h w is real o n o₂ n₂ p q z =
      rw (list_cell ws l m real h, ← is.a_is, ← is.b_is) (byte_then at m _ out o n x p (written_then n _ _ o o₂ n₂ x q z))
