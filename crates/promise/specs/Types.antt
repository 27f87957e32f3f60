-- No two type records are equal, so of a sound table a type is one record.
use Rattle.std.specs.Prelude.{ℕ, zero, suc, ◌+◌, ◌<◌, ◌≤◌, ◌≡◌, List, Bool, true, ◌⊎◌, eqb}
use Rattle.std.proofs.Common.{sym, ap, ◌∙◌, inl, inr, arith}
use Rattle.std.proofs.Math.Bool.{not}
use Rattle.std.proofs.Math.Decide.{dec_lt, ℕ_discrete}
use borrow.Author.Tests.{eqb-true, eq-eqb, le-leb}
use Rattle.rules.specs.Lists.{both, all, from, below}
use Rattle.rules.specs.Words.{tag, field_a, field_b, BT, has, is_type}
use Rattle.rules.specs.Records.{shapes, shape, fits, shaped, new_type, keeps}
use Rattle.laws.specs.Tests.{false_true, both_true, either_true}
use Rattle.laws.specs.Sound.{Sound}
use Rattle.trees.specs.Tree.{Ty}
use Rattle.promise.specs.Reading.{ReadsTy, ty_base, ty_arr}

-- what passes of all numbers passes of one
all_from : (ok : ℕ → Bool) (i k j : ℕ) → all ok (from i k) ≡ true → i ≤ j → j < i + k → ok j ≡ true
unfolding all from
all_from ok i zero j e a b = absurd (omega arith)
all_from ok i (suc k) j e a b = go (ℕ_discrete i j) (all_from ok (i + 1) k j)
  where
    go : Dec (i ≡ j) → (all ok (from (i + 1) k) ≡ true → i + 1 ≤ j → j < i + 1 + k → ok j ≡ true) → ok j ≡ true
    go (yes q) ih = rw (← q) (both_true _ _ e).0
    go (no q) ih = ih (both_true _ _ e).1 (omega arith) (omega arith)

module _ (ws : List ℕ) (n : ℕ) (g : Sound ws n) where
  -- a base type's second field is unused
  base_second : (r : ℕ) → r < n → tag ws r ≡ BT → field_b ws r ≡ 0
  unfolding keeps shaped shape shapes fits
  base_second r h e = eqb-true _ _ (rw e at (both_true _ _ (both_true _ _ (both_true _ _ (g r h)).0).1).0)

  same_words : (j r : ℕ) → tag ws j ≡ tag ws r → field_a ws j ≡ field_a ws r → field_b ws j ≡ field_b ws r
      → both (has ws j (tag ws r)) (both (eqb (field_a ws j) (field_a ws r)) (eqb (field_b ws j) (field_b ws r))) ≡ true
  unfolding both has
  same_words j r x y z = rw (eq-eqb _ _ x, eq-eqb _ _ y, eq-eqb _ _ z)

  -- a type record is not an earlier one
  not_earlier : (j r : ℕ) → j < r → r < n → is_type ws r ≡ true → tag ws j ≡ tag ws r → field_a ws j ≡ field_a ws r → field_b ws j ≡ field_b ws r → ⊥
  unfolding keeps new_type below
  not_earlier j r l h t x y z = go (either_true _ _ (both_true _ _ (both_true _ _ (both_true _ _ (g r h)).1).1).0)
    where
      go : (not (is_type ws r) ≡ true)
          ⊎ (all (λ i. not (both (has ws i (tag ws r)) (both (eqb (field_a ws i) (field_a ws r)) (eqb (field_b ws i) (field_b ws r))))) (from 0 r) ≡ true) → ⊥
      go (inl q) = false_true (rw t at q)
      go (inr q) = false_true (ap not (sym (same_words j r x y z)) ∙ all_from _ 0 r j q (omega arith) (omega arith))

  equal_types : (r s : ℕ) → r < n → s < n → is_type ws r ≡ true → is_type ws s ≡ true → tag ws r ≡ tag ws s → field_a ws r ≡ field_a ws s → field_b ws r ≡ field_b ws s
      → r ≡ s
  equal_types r s h k t u x y z = go (dec_lt r s) (dec_lt s r)
    where
      go : Dec (r < s) → Dec (s < r) → r ≡ s
      go (yes l) m = absurd (not_earlier r s l k u x y z)
      go (no l) (yes m) = absurd (not_earlier s r m h t (sym x) (sym y) (sym z))
      go (no l) (no m) = omega arith

  is_type_lem : (r k : ℕ) → 1 ≤ k → k ≤ 2 → tag ws r ≡ k → is_type ws r ≡ true
  unfolding is_type both
  is_type_lem r k a b e = rw (e, le-leb 1 k a, le-leb k 2 b)

  -- records that read as one type are one record
  pub type_record : {m l r s : ℕ} {A : Ty} → m ≤ n → l ≤ n → ReadsTy ws m r A → ReadsTy ws l s A → r ≡ s
  type_record {r = r} {s} a b (ty_base h e x) (ty_base k f y) =
      equal_types r s (omega arith) (omega arith) (is_type_lem r 1 (omega arith) (omega arith) e) (is_type_lem s 1 (omega arith) (omega arith) f) (e ∙ sym f) (x ∙ sym y)
      (base_second r (omega arith) e ∙ sym (base_second s (omega arith) f))
  type_record {r = r} {s} a b (ty_arr h e x u c p) (ty_arr k f y v d q) =
      equal_types r s (omega arith) (omega arith) (is_type_lem r 2 (omega arith) (omega arith) e) (is_type_lem s 2 (omega arith) (omega arith) f) (e ∙ sym f)
      (x ∙ type_record (omega arith) (omega arith) c d ∙ sym y) (u ∙ type_record (omega arith) (omega arith) p q ∙ sym v)
