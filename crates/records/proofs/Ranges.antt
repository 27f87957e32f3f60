-- The kind of a record, as its mark tells it: ranges of numbers for tags, for lists of types and for lists of terms.
use Prim.Native.Nat.{ℕ, ◌+◌, ◌<◌, ◌≤◌}
use mathlib.Core.Path.{◌≡◌, refl, sym, ap, ◌∙◌}
use mathlib.Core.Bool.{Bool, true, false, not}
use mathlib.Core.List.{List}
use mathlib.Core.Logic.{◌⊎◌, inl, inr}
use native.Mathlib.Omega.{arith}
use native.Mathlib.Decide.{ℕ_discrete}
use borrow.Author.Tests.{ltb-true, ltb-false, leb-true, eq-eqb, ne_eqb, lt-leb, le-leb}
use lib.ListN.{length}
use lib.Dec.{eqb, ltb, leb}
use Rattle.rules.specs.Lists.{both, either}
use Rattle.rules.specs.Words.{CE, EQ, tag, field_a, has, is_type, is_term}
use Rattle.rules.specs.Records.{shapes, shape, fits, shaped, alike, listed, keeps}
use Rattle.laws.specs.Tests.{false_true, both_true, both_no, either_true, both-alone}
use Rattle.laws.specs.Sound.{Sound, known-tag, type_term}
use Rattle.laws.specs.Lists.{cells-more}
use Rattle.records.specs.Ranges.{TYPE_LOW, TYPE_HIGH, TERM_LOW, TERM_HIGH, MOST_CELLS, LIST_OF_TYPES, TYPES_LOW, TYPES_HIGH, TERMS_LOW, TERMS_HIGH}
use Rattle.records.specs.Marks.{counted_from, cell_count, kind, within}

-- Ranges

module _ (low high k : ℕ) where
  pub within_in : low ≤ k → k ≤ high → within low high k ≡ true
  unfolding within both
  within_in a b = rw (le-leb low k a, le-leb k high b)

  pub within_low : k < low → within low high k ≡ false
  unfolding within both
  within_low a = rw (lt-leb low k a)

  pub within_high : high < k → within low high k ≡ false
  unfolding within
  within_high a = rw (lt-leb k high a) (both_no (leb low k))

  pub within-from : low ≤ k → within low high k ≡ leb k high
  unfolding within both
  within-from a = rw (le-leb low k a)

  pub within_true : within low high k ≡ true → (low ≤ k) × (k ≤ high)
  unfolding within
  within_true e = let p = both_true _ _ e in (leb-true _ _ p.0, leb-true _ _ p.1)

within-one : (t k : ℕ) → within t t k ≡ eqb k t
within-one t k = go (ℕ_discrete k t)
  where
    apart : (b : Bool) → ltb k t ≡ b → (k ≡ t → ⊥) → within t t k ≡ false
    apart true q e = within_low t t k (ltb-true _ _ q)
    apart false q e = let l = ltb-false k t q in within_high t t k (omega arith)

    go : Dec (k ≡ t) → within t t k ≡ eqb k t
    go (yes e) = within_in t t k (omega arith) (omega arith) ∙ sym (eq-eqb k t e)
    go (no e) = apart (ltb k t) refl e ∙ sym (ne_eqb k t e)

-- Kinds

from_low : (t : Bool) → LIST_OF_TYPES ≤ counted_from t
unfolding counted_from
from_low true = omega arith
from_low false = omega arith

module _ (ws : List ℕ) (x : ℕ) where
  pub kind_cell : tag ws x ≡ CE → kind ws x ≡ counted_from (is_type ws (field_a ws x)) + cell_count ws x
  unfolding kind has
  kind_cell e = rw (eq-eqb _ _ e, kind)

  pub kind_other : (tag ws x ≡ CE → ⊥) → kind ws x ≡ tag ws x
  unfolding kind has
  kind_other z = rw (ne_eqb _ _ z, kind)

  -- a range of tags without that of cells
  kind_tags : (low high : ℕ) → high < LIST_OF_TYPES → within low high CE ≡ false → within low high (kind ws x) ≡ within low high (tag ws x)
  kind_tags low high h e = go (ℕ_discrete (tag ws x) CE)
    where
      go : Dec (tag ws x ≡ CE) → within low high (kind ws x) ≡ within low high (tag ws x)
      go (yes c) =
          let k = kind_cell c in
          let b = from_low (is_type ws (field_a ws x)) in
          within_high low high (kind ws x) (omega arith) ∙ sym (rw c e)
      go (no c) = ap (within low high) (kind_other c)

  pub kind_type : within TYPE_LOW TYPE_HIGH (kind ws x) ≡ is_type ws x
  kind_type = kind_tags TYPE_LOW TYPE_HIGH (omega arith) (within_high TYPE_LOW TYPE_HIGH CE (omega arith)) ∙ (unfold within in unfold is_type in refl)

  pub kind_term : within TERM_LOW TERM_HIGH (kind ws x) ≡ is_term ws x
  kind_term = kind_tags TERM_LOW TERM_HIGH (omega arith) (within_low TERM_LOW TERM_HIGH CE (omega arith)) ∙ (unfold within in unfold is_term in refl)

  pub kind-tag : (t : ℕ) → t < CE → within t t (kind ws x) ≡ has ws x t
  kind-tag t h = kind_tags t t (omega arith) (within_high t t CE h) ∙ within-one t (tag ws x) ∙ (unfold has in refl)

-- an element is a type or a term
module _ (ws : List ℕ) (x : ℕ) (h : shaped ws x ≡ true) (e : tag ws x ≡ CE) where
  either-kind : either (is_type ws (field_a ws x)) (is_term ws (field_a ws x)) ≡ true
  unfolding shaped shape shapes fits
  either-kind = (both_true _ _ (both_true _ _ (rw e at h)).0).1

  pub other_kind : is_term ws (field_a ws x) ≡ not (is_type ws (field_a ws x))
  other_kind = go (is_type ws (field_a ws x)) (is_term ws (field_a ws x)) refl refl
    where
      go : (t m : Bool) → is_type ws (field_a ws x) ≡ t → is_term ws (field_a ws x) ≡ m → is_term ws (field_a ws x) ≡ not (is_type ws (field_a ws x))
      go true true p q = absurd (type_term ws (field_a ws x) p q)
      go true false p q = rw (p, q)
      go false true p q = rw (p, q)
      go false false p q = absurd (false_true (unfold either in (rw (p, q) at either-kind)))

-- The kinds of records that keep the rules

module _ (ws : List ℕ) (r : ℕ) (g : Sound ws r) (x : ℕ) (h : x < r) where
  pub shaped_so : shaped ws x ≡ true
  unfolding keeps
  shaped_so = (both_true _ _ (g x h)).0

  module _ (e : tag ws x ≡ CE) where
    -- a list that begins below r is not too long
    pub short : cell_count ws x ≤ MOST_CELLS
    unfolding keeps listed has
    short = go (either_true _ _ (both_true _ _ (both_true _ _ (g x h)).1).0)
      where
        go : (not (eqb (tag ws x) CE) ≡ true) ⊎ (both (alike ws x) (leb (cell_count ws x) MOST_CELLS) ≡ true) → cell_count ws x ≤ MOST_CELLS
        go (inl z) = absurd (false_true (rw e at z))
        go (inr z) = leb-true _ _ (both_true _ _ z).1

    pub some : r ≤ 4096 → 1 ≤ cell_count ws x
    some f = let q = ap length (cells-more MOST_CELLS ws x (λ z. omega arith)) in omega arith

  module _ (f : r ≤ 4096) where
    -- a range of lists
    kind_lists : (low high : ℕ) (ok : Bool → Bool) → EQ < low → ((t : Bool) (k : ℕ) → 1 ≤ k → k ≤ MOST_CELLS → within low high (counted_from t + k) ≡ ok t)
        → within low high (kind ws x) ≡ both (has ws x CE) (ok (is_type ws (field_a ws x)))
    unfolding has
    kind_lists low high ok l each = go (ℕ_discrete (tag ws x) CE)
      where
        go : Dec (tag ws x ≡ CE) → within low high (kind ws x) ≡ both (eqb (tag ws x) CE) (ok (is_type ws (field_a ws x)))
        go (yes c) = ap (within low high) (kind_cell ws x c) ∙ each _ _ (some c f) (short c) ∙ (unfold both in rw (eq-eqb _ _ c))
        go (no c) =
            let k = kind_other ws x c in
            let m = (known-tag ws r g x h).1 in
            within_low low high (kind ws x) (omega arith) ∙ (unfold both in rw (ne_eqb _ _ c))

    pub kind_types : within TYPES_LOW TYPES_HIGH (kind ws x) ≡ both (has ws x CE) (is_type ws (field_a ws x))
    unfolding counted_from
    kind_types = kind_lists TYPES_LOW TYPES_HIGH (λ t. t) (omega arith) each
      where
        each : (t : Bool) (k : ℕ) → 1 ≤ k → k ≤ MOST_CELLS → within TYPES_LOW TYPES_HIGH (counted_from t + k) ≡ t
        each true k a b = within_in TYPES_LOW TYPES_HIGH _ (omega arith) (omega arith)
        each false k a b = within_high TYPES_LOW TYPES_HIGH _ (omega arith)

    pub kind_terms : within TERMS_LOW TERMS_HIGH (kind ws x) ≡ both (has ws x CE) (is_term ws (field_a ws x))
    unfolding counted_from has both
    kind_terms = kind_lists TERMS_LOW TERMS_HIGH not (omega arith) each ∙ same (ℕ_discrete (tag ws x) CE)
      where
        each : (t : Bool) (k : ℕ) → 1 ≤ k → k ≤ MOST_CELLS → within TERMS_LOW TERMS_HIGH (counted_from t + k) ≡ not t
        each true k a b = within_low TERMS_LOW TERMS_HIGH _ (omega arith)
        each false k a b = within_in TERMS_LOW TERMS_HIGH _ (omega arith) (omega arith)

        same : Dec (tag ws x ≡ CE) → both (has ws x CE) (not (is_type ws (field_a ws x))) ≡ both (has ws x CE) (is_term ws (field_a ws x))
        same (yes c) = rw (other_kind ws x shaped_so c)
        same (no c) = rw (ne_eqb _ _ c)

    pub kind-cells : within TYPES_LOW TERMS_HIGH (kind ws x) ≡ has ws x CE
    unfolding counted_from
    kind-cells = kind_lists TYPES_LOW TERMS_HIGH (λ t. true) (omega arith) each ∙ both-alone (has ws x CE)
      where
        each : (t : Bool) (k : ℕ) → 1 ≤ k → k ≤ MOST_CELLS → within TYPES_LOW TERMS_HIGH (counted_from t + k) ≡ true
        each true k a b = within_in TYPES_LOW TERMS_HIGH _ (omega arith) (omega arith)
        each false k a b = within_in TYPES_LOW TERMS_HIGH _ (omega arith) (omega arith)
