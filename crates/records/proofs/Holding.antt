-- A field as the marks judge it: it fits, its reference is the first, and then that is marked.
use Prim.Native.Nat.{ℕ, ◌<◌, ◌≤◌}
use mathlib.Core.Path.{◌≡◌, refl, sym, ◌∙◌}
use mathlib.Core.Bool.{Bool, true, false, not}
use mathlib.Core.List.{List, ◌++◌}
use native.Mathlib.Omega.{arith}
use borrow.Author.Tests.{ltb-true, eqb-true}
use lib.Dec.{eqb, ltb}
use Rattle.rules.specs.Lists.{both, either, among}
use Rattle.rules.specs.Words.{NONE, BT, KO, HO, CE, field_a, has, is_type, is_term}
use Rattle.rules.specs.Records.{list_of, fits}
use Rattle.laws.specs.Tests.{both_true, both_no, both-alone}
use Rattle.laws.specs.Sound.{Sound}
use Rattle.records.specs.declared.Field.{Field}
use Rattle.records.specs.declared.Field.TheVariants.{Nil, Any, Small, OfType, OfBase, OfConstant, OfHole, OfTerm, Types, Terms, Element, Rest}
use Rattle.records.specs.Kinds.{field, refers_to}
use Rattle.records.specs.Ranges.{TYPE_LOW, TYPE_HIGH, BASE_TYPE, CONSTANT, HOLE, TERM_LOW, TERM_HIGH, TYPES_LOW, TYPES_HIGH, TERMS_LOW, TERMS_HIGH, REFERRED}
use Rattle.records.specs.Marks.{counts, kind, mark, Marked, fresh, one, reference-of, within, lower_mark, lies, holds, once, FieldSays}
use Rattle.records.proofs.Ranges.{within_low, within_high, kind_type, kind-tag, kind_term, kind_types, kind_terms, kind-cells}
use Rattle.records.proofs.Uses.{type_counts, tag-counts, term_counts, cell_counts, lower, mark-used, mark_unused, marked-referred}

fresh-one : (u : List ℕ) (x : ℕ) (d : Bool) → fresh u (one d x) ≡ not (both d (among u x))
unfolding fresh one both
fresh-one u x false = refl
fresh-one u x true = both-alone (not (among u x))

module _ (ws ms u : List ℕ) (r : ℕ) (p : Marked ws ms u r) where
  -- x may be referred to: it counts not, or nothing refers to it
  abbrev free : ℕ → Bool
  free x = not (both (counts ws x) (among u x))

  mark_in : (low high x : ℕ) → high < REFERRED → within low high (mark ws u x) ≡ both (within low high (kind ws x)) (free x)
  mark_in low high x h = go (both (counts ws x) (among u x)) refl
    where
      go : (b : Bool) → both (counts ws x) (among u x) ≡ b → within low high (mark ws u x) ≡ both (within low high (kind ws x)) (free x)
      go true q = rw (mark-used ws u x q, q) (within_high low high _ (omega arith) ∙ sym (both_no (within low high (kind ws x))))
      go false q = rw (mark_unused ws u x q, q) (sym (both-alone (within low high (kind ws x))))

  -- a lower record of a kind that a range of marks tells
  lies_is : (low high x : ℕ) (ok : Bool) → 0 < low → high < REFERRED → (x < r → within low high (kind ws x) ≡ ok) → lies ms r low high x ≡ both (both (ltb x r) ok) (free x)
  unfolding lower_mark
  lies_is low high x ok a h k = go (ltb x r) refl
    where
      go : (b : Bool) → ltb x r ≡ b → lies ms r low high x ≡ both (both (ltb x r) ok) (free x)
      go true q = let l = ltb-true x r q in rw (q, lower_mark, p.marked x l, mark_in low high x h, k l) (unfold both in refl)
      go false q = rw (q, lower_mark) (within_low low high 0 a ∙ (unfold both in refl))

  module _ (g : Sound ws r) (few : r ≤ 4096) where
    list_is : (low high x : ℕ) (ok : Bool) → 0 < low → high < REFERRED → (x < r → within low high (kind ws x) ≡ ok)
        → either (eqb x NONE) (lies ms r low high x) ≡ both (either (eqb x NONE) (both (ltb x r) ok)) (fresh u (one (both (not (eqb x NONE)) (counts ws x)) x))
    list_is low high x ok a h k = rw (fresh-one u x (both (not (eqb x NONE)) (counts ws x)), lies_is low high x ok a h k) (go (eqb x NONE) (both (ltb x r) ok))
      where
        go : (n b : Bool) → either n (both b (free x)) ≡ both (either n b) (not (both (both (not n) (counts ws x)) (among u x)))
        go true b = unfold either in unfold both in refl
        go false b = unfold either in unfold both in refl

    record_is : (low high x : ℕ) (ok : Bool) → 0 < low → high < REFERRED → (x < r → within low high (kind ws x) ≡ ok)
        → lies ms r low high x ≡ both (both (ltb x r) ok) (fresh u (one (both true (counts ws x)) x))
    record_is low high x ok a h k = lies_is low high x ok a h k ∙ rw (fresh-one u x (both true (counts ws x))) (unfold both in refl)

    element_is : (x : ℕ) → either (lies ms r TYPE_LOW TYPE_HIGH x) (lies ms r TERM_LOW TERM_HIGH x) ≡ both (both (ltb x r) (either (is_type ws x) (is_term ws x))) (fresh u (one (both true (counts ws x)) x))
    element_is x =
        rw (
          record_is TYPE_LOW TYPE_HIGH x (is_type ws x) (omega arith) (omega arith) (λ _. kind_type ws x),
          record_is TERM_LOW TERM_HIGH x (is_term ws x) (omega arith) (omega arith) (λ _. kind_term ws x),
        )
        (go (ltb x r) (is_type ws x) (is_term ws x) (fresh u (one (both true (counts ws x)) x)))
      where
        go : (l t m f : Bool) → either (both (both l t) f) (both (both l m) f) ≡ both (both l (either t m)) f
        go false t m f = unfold both in unfold either in refl
        go true true m true = unfold both in unfold either in refl
        go true true true false = unfold both in unfold either in refl
        go true true false false = unfold both in unfold either in refl
        go true false m f = unfold both in unfold either in refl

    plain : (b : Bool) (x : ℕ) → b ≡ both b (fresh u (one (both false (counts ws x)) x))
    unfolding fresh one both
    plain b x = sym (both-alone b)

    holds_is : (f : Field) (x : ℕ) → holds ms r f x ≡ both (fits ws r (field f) x) (fresh u (reference-of ws f x))
    unfolding holds fits list_of field refers_to
    holds_is Nil x = plain (eqb x 0) x
    holds_is Any x = plain true x
    holds_is Small x = plain (ltb x 4096) x
    holds_is OfType x = record_is TYPE_LOW TYPE_HIGH x _ (omega arith) (omega arith) (λ _. kind_type ws x)
    holds_is OfBase x = record_is BASE_TYPE BASE_TYPE x _ (omega arith) (omega arith) (λ _. kind-tag ws x BT (omega arith))
    holds_is OfConstant x = record_is CONSTANT CONSTANT x _ (omega arith) (omega arith) (λ _. kind-tag ws x KO (omega arith))
    holds_is OfHole x = record_is HOLE HOLE x _ (omega arith) (omega arith) (λ _. kind-tag ws x HO (omega arith))
    holds_is OfTerm x = record_is TERM_LOW TERM_HIGH x _ (omega arith) (omega arith) (λ _. kind_term ws x)
    holds_is Types x = list_is TYPES_LOW TYPES_HIGH x _ (omega arith) (omega arith) (λ l. kind_types ws r g x l few)
    holds_is Terms x = list_is TERMS_LOW TERMS_HIGH x _ (omega arith) (omega arith) (λ l. kind_terms ws r g x l few)
    holds_is Element x = element_is x
    holds_is Rest x = list_is TYPES_LOW TERMS_HIGH x _ (omega arith) (omega arith) (λ l. kind-cells ws r g x l few)

    -- Whether what a field refers to counts is seen from the field's kind

    second : (x : ℕ) (ok : Bool) → both (ltb x r) ok ≡ true → ok ≡ true
    second x ok e = (both_true (ltb x r) ok e).1

    once_list : (x : ℕ) (ok : Bool) → (ok ≡ true → has ws x CE ≡ true) → either (eqb x NONE) (both (ltb x r) ok) ≡ true
        → not (eqb x NONE) ≡ both (not (eqb x NONE)) (counts ws x)
    unfolding has
    once_list x ok c e = go (eqb x NONE) refl
      where
        go : (n : Bool) → eqb x NONE ≡ n → not (eqb x NONE) ≡ both (not (eqb x NONE)) (counts ws x)
        go true q = rw q (unfold both in refl)
        go false q = rw (q, cell_counts ws x (eqb-true _ _ (c (second x ok (unfold either in (rw q at e)))))) (unfold both in refl)

    once_element : (x : ℕ) → both (ltb x r) (either (is_type ws x) (is_term ws x)) ≡ true → not (lies ms r TYPE_LOW TYPE_HIGH x) ≡ counts ws x
    once_element x e = rw (lies_is TYPE_LOW TYPE_HIGH x (is_type ws x) (omega arith) (omega arith) (λ _. kind_type ws x)) (go (is_type ws x) refl)
      where
        go : (t : Bool) → is_type ws x ≡ t → not (both (both (ltb x r) (is_type ws x)) (free x)) ≡ counts ws x
        go true q = rw ((both_true (ltb x r) _ e).0, q, type_counts ws x q) (unfold both in refl)
        go false q =
            let m : is_term ws x ≡ true = unfold either in (rw q at (second x (either (is_type ws x) (is_term ws x)) e)) in
            rw ((both_true (ltb x r) _ e).0, q, term_counts ws x m) (unfold both in refl)

    once_is : (f : Field) (x : ℕ) → fits ws r (field f) x ≡ true → once ms r f x ≡ both (refers_to f x) (counts ws x)
    unfolding once fits list_of field refers_to both
    once_is Nil x e = refl
    once_is Any x e = refl
    once_is Small x e = refl
    once_is OfType x e = sym (type_counts ws x (second x (is_type ws x) e))
    once_is OfBase x e = sym (tag-counts ws x BT (omega arith) (second x (has ws x BT) e))
    once_is OfConstant x e = sym (tag-counts ws x KO (omega arith) (second x (has ws x KO) e))
    once_is OfHole x e = sym (tag-counts ws x HO (omega arith) (second x (has ws x HO) e))
    once_is OfTerm x e = sym (term_counts ws x (second x (is_term ws x) e))
    once_is Types x e = once_list x (both (has ws x CE) (is_type ws (field_a ws x))) (λ q. (both_true (has ws x CE) (is_type ws (field_a ws x)) q).0) e
    once_is Terms x e = once_list x (both (has ws x CE) (is_term ws (field_a ws x))) (λ q. (both_true (has ws x CE) (is_term ws (field_a ws x)) q).0) e
    once_is Element x e = once_element x e
    once_is Rest x e = once_list x (has ws x CE) (λ q. q) e

    -- The answer for a field, and the marks after it

    module _ (ms₁ : List ℕ) (f : Field) (x : ℕ) (b : Bool) (s : FieldSays ms ms₁ r f x b) where
      pub field-answer : b ≡ both (fits ws r (field f) x) (fresh u (reference-of ws f x))
      field-answer = s.answer ∙ holds_is f x

      pub field_next : b ≡ true → Marked ws ms₁ (reference-of ws f x ++ u) r
      field_next t =
          let q = both_true (fits ws r (field f) x) _ (sym field-answer ∙ t) in
          rw (s.next t, once_is f x q.0) (marked-referred ws ms u r x (both (refers_to f x) (counts ws x)) (counted q.0) q.1 p)
        where
          counted : fits ws r (field f) x ≡ true → both (refers_to f x) (counts ws x) ≡ true → (x < r) × (counts ws x ≡ true)
          counted e d = let w = both_true (refers_to f x) (counts ws x) d in (lower ws r x f e w.0, w.1)
