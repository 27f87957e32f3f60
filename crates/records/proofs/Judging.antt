-- One mark is read and judged, and a reference is marked.
use Prim.Native.Nat.{ℕ, ◌+◌, ◌<◌, ◌≤◌}
use mathlib.Core.Path.{◌≡◌, refl, sym, ◌∙◌}
use mathlib.Core.Bool.{Bool, true, false, not}
use mathlib.Core.List.{List}
use mathlib.Core.Logic.{◌⊎◌, inl, inr}
use native.Mathlib.Omega.{arith}
use borrow.Author.Tests.{ltb-true, ltb-false, eq-eqb, ne_eqb, lt-leb, le-leb, lt-ltb, le-ltb}
use lib.ListN.{length, get_or, set}
use lib.Dec.{eqb, ltb, leb}
use Rattle.rules.specs.Lists.{either}
use Rattle.rules.specs.Words.{NONE}
use Rattle.laws.specs.Tests.{false_true}
use Rattle.records.specs.declared.Field.{Field}
use Rattle.records.specs.declared.Field.TheVariants.{Element}
use Rattle.records.specs.Ranges.{TYPE_LOW, TYPE_HIGH, TERM_LOW, TERM_HIGH, LIST_OF_TYPES, LIST_OF_TERMS, REFERRED}
use Rattle.records.specs.Marks.{counted_from, lower_mark, lies, holds, once, referred, ReferredAsks, ReferredSays, FirstCellSays, FieldSays}
use Rattle.records.proofs.Ranges.{within_in, within_low, within_high, within-from}

pub from_types : (m : ℕ) → m ≤ TYPE_HIGH → LIST_OF_TYPES ≡ counted_from (leb m TYPE_HIGH)
unfolding counted_from
from_types m h = rw (le-leb m TYPE_HIGH h)

pub from_terms : (m : ℕ) → TYPE_HIGH < m → LIST_OF_TERMS ≡ counted_from (leb m TYPE_HIGH)
unfolding counted_from
from_terms m h = rw (lt-leb m TYPE_HIGH h)

module _ (ms : List ℕ) (r x : ℕ) where
  pub below_yes : x < r → get_or ms x 0 ≡ lower_mark ms r x
  unfolding lower_mark
  below_yes h = rw (lt-ltb _ _ h, lower_mark)

  pub below_no : r ≤ x → 0 ≡ lower_mark ms r x
  unfolding lower_mark
  below_no h = rw (le-ltb _ _ h, lower_mark)

-- A range of marks

module _ (ms : List ℕ) (r low high x m : ℕ) (e : m ≡ lower_mark ms r x) where
  out_low : m < low → false ≡ lies ms r low high x
  out_low h = rw (← e) (sym (within_low low high m h))

  pub lies_low : m < low → leb low m ≡ lies ms r low high x
  lies_low h = lt-leb _ _ h ∙ out_low h

  pub lies_high : low ≤ m → leb m high ≡ lies ms r low high x
  lies_high h = rw (← e) (sym (within-from low high m h))

  referred_low : m < low → ReferredSays ms ms r low high x false
  referred_low h = record { answer = out_low h; next = λ t. absurd (false_true t) }

  referred_high : high < m → ReferredSays ms ms r low high x false
  referred_high h = record { answer = rw (← e) (sym (within_high low high m h)); next = λ t. absurd (false_true t) }

  pub referred_out : (m < low) ⊎ ((low ≤ m) × (high < m)) → ReferredSays ms ms r low high x false
  referred_out (inl h) = referred_low h
  referred_out (inr h) = referred_high h.1

  module _ (p : ReferredAsks ms r low high) (h : low ≤ m) where
    lower : x < r
    lower = go (ltb x r) refl
      where
        go : (b : Bool) → ltb x r ≡ b → x < r
        go true q = ltb-true _ _ q
        go false q = let z = below_no ms r x (ltb-false x r q) in let s = p.some in absurd (omega arith)

    pub referred_room : x < length ms
    referred_room = let l = lower in let n = p.room in omega arith

    pub referred_so : m ≤ high → ReferredSays ms (set ms x (m + REFERRED)) r low high x true
    unfolding referred
    referred_so k = record {
      answer = rw (← e) (sym (within_in low high m h k));
      next = λ _. rw (e ∙ sym (below_yes ms r x lower));
    }

module _ (ms : List ℕ) (r low high x : ℕ) where
  pub first_cell_none : x ≡ NONE → FirstCellSays ms ms r low high x true
  unfolding either referred
  first_cell_none e = record { answer = rw (eq-eqb _ _ e); next = λ _. rw (eq-eqb _ _ e) }

  pub first_cell_some : (ms₁ : List ℕ) (b : Bool) → (x ≡ NONE → ⊥) → ReferredSays ms ms₁ r low high x b → FirstCellSays ms ms₁ r low high x b
  unfolding either
  first_cell_some ms₁ b e s = record { answer = s.answer ∙ rw (ne_eqb _ _ e); next = λ t. s.next t ∙ rw (ne_eqb _ _ e) }

-- A field

module _ (ms : List ℕ) (r : ℕ) (f : Field) (x : ℕ) (b : Bool) where
  pub field_plain : b ≡ holds ms r f x → once ms r f x ≡ false → FieldSays ms ms r f x b
  unfolding referred
  field_plain e o = record { answer = e; next = λ _. rw o }

  pub field-referred : (ms₁ : List ℕ) (low high : ℕ) → ReferredSays ms ms₁ r low high x b → lies ms r low high x ≡ holds ms r f x → true ≡ once ms r f x → FieldSays ms ms₁ r f x b
  field-referred ms₁ low high s e o = record { answer = s.answer ∙ e; next = λ t. s.next t ∙ rw o }

  pub field-first_cell : (ms₁ : List ℕ) (low high : ℕ) → FirstCellSays ms ms₁ r low high x b → either (eqb x NONE) (lies ms r low high x) ≡ holds ms r f x → not (eqb x NONE) ≡ once ms r f x
      → FieldSays ms ms₁ r f x b
  field-first_cell ms₁ low high s e o = record { answer = s.answer ∙ e; next = λ t. s.next t ∙ rw o }

-- an element is a type, or else a term

module _ (ms : List ℕ) (r : ℕ) (f : Field) (x : ℕ) (k : f ≡ Element) (t : Bool) (e : t ≡ lies ms r TYPE_LOW TYPE_HIGH x) where
  pub element_type : t ≡ true → FieldSays ms ms r f x t
  unfolding holds once referred either
  element_type q = rw k (record { answer = rw (← e, q); next = λ _. rw (← e, q) })

  pub element_term : t ≡ false → (ms₁ : List ℕ) (b : Bool) → ReferredSays ms ms₁ r TERM_LOW TERM_HIGH x b → FieldSays ms ms₁ r f x b
  unfolding holds once either
  element_term q ms₁ b s = rw k (record { answer = s.answer ∙ rw (← e, q); next = λ y. s.next y ∙ rw (← e, q) })
