-- Lists are short and not mixed: the length of a cell's list is one more than its rest's.
use Prim.Native.Nat.{ℕ, zero, suc, ◌+◌, ◌<◌, ◌≤◌}
use mathlib.Core.Path.{◌≡◌, refl, sym, ap, ◌∙◌}
use mathlib.Core.Bool.{Bool, true, false, not}
use mathlib.Core.List.{List}
use mathlib.Core.Logic.{◌⊎◌, inl, inr}
use native.Mathlib.Omega.{arith}
use native.Mathlib.Decide.{ℕ_discrete}
use borrow.Author.Tests.{ltb-true, eqb-true, eq-eqb, ne_eqb, lt-leb, le-leb}
use lib.ListN.{length, get_or, set, length-set}
use lib.Seq.{get_or-set_same}
use lib.Dec.{eqb, ltb, leb}
use Rattle.rules.specs.Lists.{both, either}
use Rattle.rules.specs.Words.{NONE, CE, tag, field_a, field_b, has, is_type, is_term, cells}
use Rattle.rules.specs.Records.{element, rest, shapes, shape, fits, shaped, alike, listed}
use Rattle.laws.specs.Tests.{false_true, both_true, either_true}
use Rattle.laws.specs.Lists.{cells_none, cells-more}
use Rattle.table.specs.declared.Record.{Record}
use Rattle.table.specs.Reading.{IsRecord}
use Rattle.records.specs.Ranges.{TYPE_LOW, TYPE_HIGH, TERM_LOW, TERM_HIGH, MOST_CELLS, LIST_OF_TERMS, REFERRED}
use Rattle.records.specs.Kinds.{Above}
use Rattle.records.specs.Marks.{counted_from, cell_count, kind, mark, Marked, used}
use Rattle.records.proofs.Ranges.{within_true, kind_cell, kind_type, kind_term, other_kind, shaped_so, short, some}
use Rattle.records.proofs.Uses.{type_counts, cell_counts, rest_used, mark-used, mark_unused, mark-least, marked-own, marked_next}

-- Lengths

cells_short : (k : ℕ) (ws : List ℕ) (l : ℕ) → length (cells (suc k) ws l) ≤ k → length (cells k ws l) ≡ length (cells (suc k) ws l)
cells_short zero ws l h = go (ℕ_discrete l NONE)
  where
    go : Dec (l ≡ NONE) → length (cells zero ws l) ≡ length (cells 1 ws l)
    go (yes e) = rw (cells_none zero ws l e, cells_none 1 ws l e)
    go (no e) = let q = ap length (cells-more zero ws l e) in absurd (omega arith)
cells_short (suc k) ws l h = go (ℕ_discrete l NONE) (λ q. cells_short k ws (field_b ws l) q)
  where
    go : Dec (l ≡ NONE) → (length (cells (suc k) ws (field_b ws l)) ≤ k → length (cells k ws (field_b ws l)) ≡ length (cells (suc k) ws (field_b ws l)))
        → length (cells (suc k) ws l) ≡ length (cells (suc (suc k)) ws l)
    go (yes e) ih = rw (cells_none (suc k) ws l e, cells_none (suc (suc k)) ws l e)
    go (no e) ih = let q = ap length (cells-more (suc k) ws l e) in rw (cells-more k ws l e, cells-more (suc k) ws l e, ih (omega arith))

-- A cell of types or not, and a rest of types or not with k cells: the rest's mark against what the cell's list is counted from

-- both of types or both of terms, and one more cell is not too many
joins : Bool → Bool → ℕ → Bool
joins t s k = both (either (both t s) (both (not t) (not s))) (leb (suc k) MOST_CELLS)

module _ (k : ℕ) (one : 1 ≤ k) (few : k ≤ MOST_CELLS) where
  mark-below : (t s : Bool) → counted_from s + k ≤ counted_from t → joins t s k ≡ false
  unfolding joins counted_from both either
  mark-below true true h = absurd (omega arith)
  mark-below true false h = refl
  mark-below false true h = refl
  mark-below false false h = absurd (omega arith)

  mark_above : (t s : Bool) → counted_from t + MOST_CELLS ≤ counted_from s + k → joins t s k ≡ false
  unfolding joins counted_from both either
  mark_above true true h = lt-leb (suc k) MOST_CELLS (omega arith)
  mark_above true false h = refl
  mark_above false true h = refl
  mark_above false false h = lt-leb (suc k) MOST_CELLS (omega arith)

  mark_between : (t s : Bool) → counted_from t < counted_from s + k → counted_from s + k < counted_from t + MOST_CELLS → (joins t s k ≡ true) × (counted_from s ≡ counted_from t)
  unfolding joins counted_from both either
  mark_between true true a b = (le-leb (suc k) MOST_CELLS (omega arith), refl)
  mark_between true false a b = absurd (omega arith)
  mark_between false true a b = absurd (omega arith)
  mark_between false false a b = (le-leb (suc k) MOST_CELLS (omega arith), refl)

-- the mark of a type is at most TYPE-HIGH, and that of a term is more
pub type_mark : (ws u : List ℕ) (x : ℕ) → is_term ws x ≡ not (is_type ws x) → leb (mark ws u x) TYPE_HIGH ≡ is_type ws x
type_mark ws u x e = go (is_type ws x) refl
  where
    go : (t : Bool) → is_type ws x ≡ t → leb (mark ws u x) TYPE_HIGH ≡ is_type ws x
    go true q =
        let m = mark_unused ws u x (unfold both in rw (type_counts ws x q)) in
        let k = (within_true TYPE_LOW TYPE_HIGH (kind ws x) (kind_type ws x ∙ q)).1 in
        le-leb (mark ws u x) TYPE_HIGH (omega arith) ∙ sym q
    go false q =
        let m = mark-least ws u x in
        let k = (within_true TERM_LOW TERM_HIGH (kind ws x) (kind_term ws x ∙ e ∙ ap not q)).0 in
        lt-leb (mark ws u x) TYPE_HIGH (omega arith) ∙ sym q

pub from_high : (t : Bool) → counted_from t ≤ LIST_OF_TERMS
unfolding counted_from
from_high true = omega arith
from_high false = omega arith

-- A cell

-- record r is a cell with fields as the table says, and what it and the lower records refer to is marked
pub record Filled (ws ms : List ℕ) (r : ℕ) : Type 0 where
  pub above : Above ws r
  pub cell : tag ws r ≡ CE
  pub so : shaped ws r ≡ true
  pub room : r < length ms
  pub known : Marked ws ms (used ws (r + 1)) r

-- whether its list is short and not mixed, and the marks up to it
pub record Measured (ws ms : List ℕ) (r : ℕ) (b : Bool) : Type 0 where
  pub answer : b ≡ listed ws r
  pub next : b ≡ true → Marked ws ms (used ws (r + 1)) (r + 1)

pub listed_other : (ws : List ℕ) (r : ℕ) → (tag ws r ≡ CE → ⊥) → true ≡ listed ws r
unfolding listed has either
listed_other ws r z = rw (ne_eqb _ _ z)

module _ (ws ms : List ℕ) (r : ℕ) (p : Filled ws ms r) (x : Record) (w : IsRecord ws r x) where
  cell_fits : (fits ws r element (field_a ws r) ≡ true) × (fits ws r rest (field_b ws r) ≡ true)
  unfolding shaped shape shapes
  cell_fits = let q = both_true _ _ (rw p.cell at p.so) in (q.0, (both_true _ _ q.1).0)

  pub element_low : field_a ws r < r
  unfolding fits
  element_low = ltb-true _ _ (both_true _ _ cell_fits.0).0

  real : r ≡ NONE → ⊥
  real q = let f = p.above.few in omega arith

  marked-here : (v : ℕ) → v ≡ kind ws r → Marked ws (set ms r v) (used ws (r + 1)) (r + 1)
  marked-here v e =
      let m = marked-own ws ms (used ws (r + 1)) r p.known v in
      marked_next ws (set ms r v) (used ws (r + 1)) r m (simp length-set p.room) (get_or-set_same ms r v 0 p.room ∙ e)

  module _ (s : ℕ) (start_is : s ≡ counted_from (is_type ws (field_a ws r))) where
    pub list_one : x.b ≡ NONE → Measured ws (set ms r (s + 1)) r true
    unfolding listed alike has either both
    list_one z = record {
      answer = rw (p.cell, eq-eqb (field_b ws r) NONE (sym w.b_is ∙ z), ← length-one);
      next = λ _. marked-here (s + 1) (rw start_is (sym (kind_cell ws r p.cell ∙ rw (← length-one))));
    }
      where
        length-one : 1 ≡ cell_count ws r
        length-one = rw (cells-more MOST_CELLS ws r real, cells_none MOST_CELLS ws (field_b ws r) (sym w.b_is ∙ z))

    module _ (z : x.b ≡ NONE → ⊥) where
      some_rest : field_b ws r ≡ NONE → ⊥
      some_rest q = z (w.b_is ∙ q)

      pub rest_low : (field_b ws r < r) × (tag ws (field_b ws r) ≡ CE)
      unfolding fits has
      rest_low = go (either_true _ _ cell_fits.1)
        where
          go : (eqb (field_b ws r) NONE ≡ true) ⊎ (both (ltb (field_b ws r) r) (eqb (tag ws (field_b ws r)) CE) ≡ true) → (field_b ws r < r) × (tag ws (field_b ws r) ≡ CE)
          go (inl q) = absurd (some_rest (eqb-true _ _ q))
          go (inr q) = let y = both_true _ _ q in (ltb-true _ _ y.0, eqb-true _ _ y.1)

      -- how many cells the rest has
      abbrev count : ℕ
      count = cell_count ws (field_b ws r)

      rest_mark : get_or ms x.b 0 ≡ counted_from (is_type ws (field_a ws (field_b ws r))) + count + REFERRED
      unfolding shape shapes both
      rest_mark =
          let q = rest_low in
          let e : (shape ws r).1 ≡ rest = rw p.cell in
          let m = mark-used ws (used ws (r + 1)) (field_b ws r) (rw (cell_counts ws (field_b ws r) q.1, rest_used ws r e some_rest q.1)) in
          rw w.b_is (p.known.marked (field_b ws r) q.0 ∙ m ∙ ap (λ k. k + REFERRED) (kind_cell ws (field_b ws r) q.1))

      length_more : suc count ≡ cell_count ws r
      length_more =
          let q = rest_low in
          let l = cells_short MOST_CELLS ws (field_b ws r) (short ws r p.above.lower (field_b ws r) q.0 q.1) in
          rw (cells-more MOST_CELLS ws r real, l)

      listed_is : listed ws r ≡ joins (is_type ws (field_a ws r)) (is_type ws (field_a ws (field_b ws r))) count
      unfolding listed alike joins has either
      listed_is =
          let q = rest_low in
          rw (
            p.cell,
            ne_eqb (field_b ws r) NONE some_rest,
            ← length_more,
            other_kind ws r p.so p.cell,
            other_kind ws (field_b ws r) (shaped_so ws r p.above.lower (field_b ws r) q.0) q.1,
          )

      one_cell : 1 ≤ count
      one_cell = let q = rest_low in let f = p.above.few in some ws r p.above.lower (field_b ws r) q.0 q.1 (omega arith)

      few_cells : count ≤ MOST_CELLS
      few_cells = let q = rest_low in short ws r p.above.lower (field_b ws r) q.0 q.1

      refused : joins (is_type ws (field_a ws r)) (is_type ws (field_a ws (field_b ws r))) count ≡ false → Measured ws ms r false
      refused e = record { answer = sym (listed_is ∙ e); next = λ q. absurd (false_true q) }

      -- the mark of the rest before the cell referred to it
      module _ (m : ℕ) (before : get_or ms x.b 0 ≡ m + REFERRED) where
        pub list_low : m ≤ s → Measured ws ms r false
        list_low h =
            let e = rest_mark in
            refused (mark-below count one_cell few_cells (is_type ws (field_a ws r)) (is_type ws (field_a ws (field_b ws r))) (omega arith))

        pub list_long : s + MOST_CELLS ≤ m → Measured ws ms r false
        list_long h =
            let e = rest_mark in
            refused (mark_above count one_cell few_cells (is_type ws (field_a ws r)) (is_type ws (field_a ws (field_b ws r))) (omega arith))

        pub list_more : s < m → m < s + MOST_CELLS → Measured ws (set ms r (m + 1)) r true
        list_more a b =
            let e = rest_mark in
            let q = mark_between count one_cell few_cells (is_type ws (field_a ws r)) (is_type ws (field_a ws (field_b ws r))) (omega arith) (omega arith) in
            let same = q.1 in
            let l = length_more in
            let k = kind_cell ws r p.cell in
            record { answer = sym (listed_is ∙ q.0); next = λ _. marked-here _ (omega arith) }
