-- A cell: its fields fit, its references are the first, and its list is short and not mixed, as the marks tell before it is marked.
use Prim.Native.Nat.{ℕ, ◌+◌, ◌<◌, ◌≤◌}
use mathlib.Core.Path.{◌≡◌, sym, ap, ◌∙◌}
use mathlib.Core.Bool.{Bool, true, false, not}
use mathlib.Core.List.{List}
use native.Mathlib.Omega.{arith}
use native.Mathlib.Decide.{ℕ_discrete, dec_lt}
use borrow.Author.Tests.{not-false, lt-ltb, le-ltb, eq-eqb, ne_eqb}
use lib.ListN.{length, get_or, set}
use lib.Seq.{get_or-set_same}
use lib.Dec.{leb, ltb}
use Rattle.rules.specs.Lists.{both, either}
use Rattle.rules.specs.Words.{NONE, field_a, is_type}
use Rattle.rules.specs.Records.{shapes, shape, shaped, first_use}
use Rattle.laws.specs.Tests.{false_true, both_true}
use Rattle.table.specs.declared.Record.{Record}
use Rattle.table.specs.Reading.{IsRecord}
use Rattle.records.specs.declared.Field.TheVariants.{Nil, Element, Rest}
use Rattle.records.specs.Kinds.{field}
use Rattle.records.specs.Ranges.{TYPE_HIGH, MOST_CELLS, REFERRED}
use Rattle.records.specs.Marks.{counted_from, used, lower_mark, once, referred, FieldSays, LengthAsks, length_mark, LengthSays, CellAsks, CellSays}
use Rattle.records.specs.Rows.{RowAsks, RowSays}
use Rattle.records.proofs.Ranges.{other_kind}
use Rattle.records.proofs.Fields.{row_a, row_b, row_c, row_answer, row_next}
use Rattle.records.proofs.Lengths.{Filled, Measured, type_mark, from_high, element_low, list_one, rest_low, list_low, list_long, list_more}

-- Its length

module _ (ms : List ℕ) (r s x m : ℕ) where
  pub length-one : x ≡ NONE → LengthSays ms (set ms r (s + 1)) r s x m true
  unfolding either length_mark
  length-one z = record { answer = rw (eq-eqb _ _ z); next = λ _. rw (length_mark, eq-eqb _ _ z) }

  module _ (z : x ≡ NONE → ⊥) where
    pub length_low : m ≤ s → LengthSays ms ms r s x m false
    unfolding either both
    length_low h = record { answer = rw (ne_eqb _ _ z, le-ltb _ _ h); next = λ v. absurd (false_true v) }

    pub length_long : s < m → s + MOST_CELLS ≤ m → LengthSays ms ms r s x m false
    unfolding either both
    length_long g h = record { answer = rw (ne_eqb _ _ z, lt-ltb _ _ g, le-ltb _ _ h); next = λ v. absurd (false_true v) }

    pub length_more : s < m → m < s + MOST_CELLS → LengthSays ms (set ms r (m + 1)) r s x m true
    unfolding either both length_mark
    length_more g h = record { answer = rw (ne_eqb _ _ z, lt-ltb _ _ g, lt-ltb _ _ h); next = λ _. rw (length_mark, ne_eqb _ _ z) }

-- Its fields

module _ (ws ms : List ℕ) (r : ℕ) (p : CellAsks ws ms r) (x : Record) (w : IsRecord ws r x) where
  row : RowAsks ws ms r Element Rest Nil
  unfolding shape shapes field
  row = let c = p.cell in record { above = p.above; row = rw p.cell; tag_low = omega arith; room = p.room; known = p.known }

  broken_row : (ms₁ : List ℕ) → RowSays ws ms₁ r false → CellSays ws ms₁ r false
  broken_row ms₁ s = record { answer = unfold both in rw (← s.answer); next = λ v. absurd (false_true v) }

  module _ (ms₁ : List ℕ) (i : Bool) (hi : FieldSays ms ms₁ r Element x.a i) where
    pub cell_a : not i ≡ true → CellSays ws ms₁ r false
    cell_a t = broken_row ms₁ (row_a ws ms r Element Rest Nil row x w ms₁ i hi t)

    module _ (t : not i ≡ false) (ms₂ : List ℕ) (j : Bool) (hj : FieldSays ms₁ ms₂ r Rest x.b j) where
      pub cell_b : not j ≡ true → CellSays ws ms₂ r false
      cell_b u = broken_row ms₂ (row_b ws ms r Element Rest Nil row x w ms₁ i hi t ms₂ j hj u)

      module _ (u : not j ≡ false) (ms₃ : List ℕ) (k : Bool) (hk : FieldSays ms₂ ms₃ r Nil x.c k) where
        pub cell_c : not k ≡ true → CellSays ws ms₃ r false
        cell_c v = broken_row ms₃ (row_c ws ms r Element Rest Nil row x w ms₁ i hi t ms₂ j hj u ms₃ k hk v)

        module _ (v : not k ≡ false) (same₁ : length ms₁ ≡ length ms) (same₃ : length ms₃ ≡ length ms) where
          passed : true ≡ both (shaped ws r) (first_use ws r)
          passed = row_answer ws ms r Element Rest Nil row x w ms₁ i hi t ms₂ j hj u ms₃ k hk v

          filled : Filled ws ms₃ r
          filled =
              let l = p.room in
              record { above = p.above; cell = p.cell; so = (both_true _ _ (sym passed)).0; room = omega arith; known = row_next ws ms r Element Rest Nil row x w ms₁ i hi t ms₂ j hj u ms₃ k hk v }

          measured : (ms₄ : List ℕ) (b : Bool) → Measured ws ms₄ r b → CellSays ws ms₄ r b
          measured ms₄ b m = record { answer = unfold both in rw (← passed) m.answer; next = m.next }

          module _ (e : ℕ) (ee : e ≡ lower_mark ms r x.a) (s : ℕ) (es : s ≡ counted_from (leb e TYPE_HIGH)) where
            start_is : s ≡ counted_from (is_type ws (field_a ws r))
            unfolding lower_mark
            start_is =
                let l = element_low ws ms₃ r filled x w in
                let a : e ≡ get_or ms (field_a ws r) 0 = ee ∙ ap (lower_mark ms r) w.a_is ∙ rw (lt-ltb _ _ l, lower_mark) in
                es ∙ ap counted_from (rw (a, p.known.marked (field_a ws r) l) (type_mark ws (used ws r) (field_a ws r) (other_kind ws r filled.so p.cell)))

            module _ (m : ℕ) (em : m ≡ lower_mark ms₁ r x.b) where
              before : (x.b ≡ NONE → ⊥) → get_or ms₃ x.b 0 ≡ m + REFERRED
              unfolding lower_mark once referred
              before z =
                  let l = (rest_low ws ms₃ r filled x w s start_is z).0 in
                  let f = w.b_is in
                  let h = p.room in
                  let low : x.b < r = omega arith in
                  let long : x.b < length ms₁ = omega arith in
                  let a : m ≡ get_or ms₁ x.b 0 = em ∙ rw (lt-ltb _ _ low, lower_mark) in
                  let two : ms₂ ≡ set ms₁ x.b (get_or ms₁ x.b 0 + REFERRED) = hj.next (not-false j u) ∙ rw (ne_eqb _ _ z) in
                  let three : ms₃ ≡ ms₂ = hk.next (not-false k v) in
                  rw (three, two, a) (get_or-set_same ms₁ x.b (get_or ms₁ x.b 0 + REFERRED) 0 long)

              -- the list is as it must be exactly if its length is marked
              pub cell_end : (ms₄ : List ℕ) (b : Bool) → LengthSays ms₃ ms₄ r s x.b m b → CellSays ws ms₄ r b
              unfolding either both length_mark
              cell_end ms₄ b y = go (ℕ_discrete x.b NONE) (dec_lt s m) (dec_lt m (s + MOST_CELLS))
                where
                  none : (z : x.b ≡ NONE) → CellSays ws ms₄ r b
                  none z =
                      let t : b ≡ true = y.answer ∙ rw (eq-eqb _ _ z) in
                      let e : ms₄ ≡ set ms₃ r (s + 1) = y.next t ∙ rw (length_mark, eq-eqb _ _ z) in
                      rw (t, e) (measured _ _ (list_one ws ms₃ r filled x w s start_is z))

                  refused : both (ltb s m) (ltb m (s + MOST_CELLS)) ≡ false → (x.b ≡ NONE → ⊥) → Measured ws ms₃ r false → CellSays ws ms₄ r b
                  refused q z n =
                      let t : b ≡ false = y.answer ∙ rw (ne_eqb _ _ z, q) in
                      rw t (record { answer = (measured _ _ n).answer; next = λ e. absurd (false_true e) })

                  go : Dec (x.b ≡ NONE) → Dec (s < m) → Dec (m < s + MOST_CELLS) → CellSays ws ms₄ r b
                  go (yes z) g h = none z
                  go (no z) (no g) h = let l : m ≤ s = omega arith in refused (rw (le-ltb _ _ l)) z (list_low ws ms₃ r filled x w s start_is z m (before z) l)
                  go (no z) (yes g) (no h) = let l : s + MOST_CELLS ≤ m = omega arith in refused (rw (lt-ltb _ _ g, le-ltb _ _ l)) z (list_long ws ms₃ r filled x w s start_is z m (before z) l)
                  go (no z) (yes g) (yes h) =
                      let t : b ≡ true = y.answer ∙ rw (ne_eqb _ _ z, lt-ltb _ _ g, lt-ltb _ _ h) in
                      let e : ms₄ ≡ set ms₃ r (m + 1) = y.next t ∙ rw (length_mark, ne_eqb _ _ z) in
                      rw (t, e) (measured _ _ (list_more ws ms₃ r filled x w s start_is z m (before z) g h))

-- what a list is counted from
pub length-asks : (n : ℕ) (ms : List ℕ) (r s : ℕ) (types : Bool) → s ≡ counted_from types → r < n → length ms ≡ n → LengthAsks ms r s
length-asks n ms r s types es l same = let h = from_high types in record { room = omega arith; low = omega arith }
