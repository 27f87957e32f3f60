-- One list cell by itself: a list is of types or of terms, and a cell before it whose element is of its kind keeps the rules.
use Rattle.std.specs.Prelude.{ℕ, ◌<◌, ◌≤◌, ◌≡◌, List, Bool, length, eqb, ltb}
use Rattle.std.proofs.Math.Path.{refl}
use Rattle.std.proofs.Math.Bool.{true}
use Rattle.std.proofs.Common.{arith, lt-ltb, eq-eqb, leb-true}
use Rattle.std.proofs.Math.Decide.{ℕ_discrete}
use Rattle.rules.specs.Lists.{both, either}
use Rattle.rules.specs.Words.{NONE, CE, tag, field_a, field_b, field_c, has, is_type, is_term, elements}
use Rattle.rules.specs.Records.{element as an_element, rest as a_rest, shapes, fits, alike, listed, reference}
use Rattle.laws.specs.Tests.{both_true, both_yes, either_left, has_yes}
use Rattle.laws.specs.Members.{Begins}
use Rattle.legal.specs.Uses.{first-all}
use Rattle.legal.specs.Stay.{either_right, cells-listed}
use Rattle.legal.specs.Right.{Right, Counts, made, lists}

-- what a list holds
pub data Kind : Type 0 where
  some_types some_terms : Kind

abbrev pub of : Kind → List ℕ → ℕ → Bool
of some_types ws x = is_type ws x
of some_terms ws x = is_term ws x

either-kind : (k : Kind) (ws : List ℕ) (x : ℕ) → of k ws x ≡ true → either (is_type ws x) (is_term ws x) ≡ true
either-kind some_types ws x e = either_left _ _ e
either-kind some_terms ws x e = either_right _ _ e

same_kind : (k : Kind) (ws : List ℕ) (x y : ℕ) → of k ws x ≡ true → of k ws y ≡ true → either (both (is_type ws x) (is_type ws y)) (both (is_term ws x) (is_term ws y)) ≡ true
same_kind some_types ws x y e f = either_left _ _ (both_yes _ _ e f)
same_kind some_terms ws x y e f = either_right _ _ (both_yes _ _ e f)

kind_cell : (k : Kind) (ws : List ℕ) (x : ℕ) → of k ws x ≡ true → tag ws x ≡ CE → ⊥
unfolding is_type is_term
kind_cell some_types ws x e c = let p : tag ws x ≤ 2 = leb-true _ _ (both_true _ _ e).1 in omega arith
kind_cell some_terms ws x e c = let p : 6 ≤ tag ws x = leb-true _ _ (both_true _ _ e).0 in omega arith

-- types do not count
kind-counts : (k : Kind) (ws : List ℕ) (Q : ℕ → Type 0) (x : ℕ) → of k ws x ≡ true → (is_term ws x ≡ true → Q x) → Counts ws Q x
unfolding is_type
kind-counts some_types ws Q x e q l = let p : tag ws x ≤ 2 = leb-true _ _ (both_true _ _ e).1 in absurd (omega arith)
kind-counts some_terms ws Q x e q l = q e

module _ (k : Kind) (ws : List ℕ) (r : ℕ) (Q : ℕ → Type 0) (five : tag ws r ≡ CE) (lt : field_a ws r < r) (is : of k ws (field_a ws r) ≡ true) (b : Begins (of k ws) ws r (field_b ws r)) where
  cell_alike : alike ws r ≡ true
  unfolding alike
  cell_alike = go (ℕ_discrete (field_b ws r) NONE)
    where
      go : Dec (field_b ws r ≡ NONE)
          → either (eqb (field_b ws r) NONE) (either (both (is_type ws (field_a ws r)) (is_type ws (field_a ws (field_b ws r)))) (both (is_term ws (field_a ws r)) (is_term ws (field_a ws (field_b ws r))))) ≡ true
      go (yes e) = either_left _ _ (eq-eqb _ _ e)
      go (no e) = either_right _ _ (same_kind k ws (field_a ws r) (field_a ws (field_b ws r)) is (b e).2)

  cell_listed : length (elements ws r) ≤ 16 → listed ws r ≡ true
  unfolding listed
  cell_listed few = either_right _ _ (both_yes _ _ cell_alike (cells-listed ws r few))

  rest_fits : either (eqb (field_b ws r) NONE) (both (ltb (field_b ws r) r) (has ws (field_b ws r) CE)) ≡ true
  rest_fits = go (ℕ_discrete (field_b ws r) NONE)
    where
      go : Dec (field_b ws r ≡ NONE) → either (eqb (field_b ws r) NONE) (both (ltb (field_b ws r) r) (has ws (field_b ws r) CE)) ≡ true
      go (yes e) = either_left _ _ (eq-eqb _ _ e)
      go (no e) = either_right _ _ (both_yes _ _ (lt-ltb _ _ (b e).0) (has_yes ws _ CE (b e).1))

  pub cell_right : field_c ws r ≡ 0 → length (elements ws r) ≤ 16 → (is_term ws (field_a ws r) ≡ true → Q (field_a ws r)) → ((field_b ws r ≡ NONE → ⊥) → Q (field_b ws r)) → Right ws r Q
  unfolding shapes fits reference
  cell_right c few qa qb =
      made ws r Q CE an_element a_rest five refl (omega arith) (both_yes _ _ (lt-ltb _ _ lt) (either-kind k ws (field_a ws r) is)) rest_fits c (cell_listed few)
      (kind-counts k ws Q (field_a ws r) is qa, tt) (lists ws r Q (field_b ws r) qb)
      (first-all (λ y. field_a ws r ≡ y → ⊥) (field_b ws r) (λ z i. kind_cell k ws (field_a ws r) is (rw i (b z).1)), tt)
