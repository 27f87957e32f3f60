-- What a record refers to: only lower records, and the same ones while the words of the records stay.
use Rattle.std.specs.Prelude.{ℕ, ◌+◌, ◌*◌, ◌<◌, ◌≡◌, refl, List, [], ◌∷◌, ◌++◌, Bool, false, ◌⊎◌, eqb, ltb, leb}
use Rattle.std.proofs.Common.{◌∙◌, inl, inr, arith, ltb-true, eqb-true}
use Rattle.std.proofs.Math.Bool.{true}
use Rattle.std.proofs.lemmas.Bool.{eqb-false}
use Rattle.rules.specs.Lists.{both, either, those}
use Rattle.rules.specs.Words.{NONE, CE, tag, field_a, field_b, field_c, has, is_type, is_term}
use Rattle.rules.specs.Records.{Field, never, nil, any-number, small, type as a_type, base as a_base, constant as a_constant, hole as a_hole, term as a_term, types as some_types}
use Rattle.rules.specs.Records.{terms as some_terms, element as an_element, rest as a_rest, shape, list_of, fits, shaped, first_cell, reference, uses, keeps}
use Rattle.laws.specs.Tests.{both_true, either_true}
use Rattle.laws.specs.Sound.{Sound}
use Rattle.invariants.specs.Floor.{All}
use Rattle.invariants.specs.Grow.{all_map}
use Rattle.invariants.specs.Pairs.{all_append}
use Rattle.promise.specs.Reading.{Same}

-- what holds of those that pass
pub those-all : (P : ℕ → Type 0) (ok : ℕ → Bool) (xs : List ℕ) → All (λ x. ok x ≡ true → P x) xs → All P (those ok xs)
unfolding those
those-all P ok [] h = tt
those-all P ok (x ∷ xs) h = go (ok x) refl (those-all P ok xs h.1)
  where
    go : (b : Bool) → ok x ≡ b → All P (those ok xs) → All P (those ok (x ∷ xs))
    go true e ih = rw (e, those) (h.0 e, ih)
    go false e ih = rw (e, those) ih

-- two tests that agree on a list
those_same : (ok ok₁ : ℕ → Bool) (xs : List ℕ) → All (λ x. ok₁ x ≡ ok x) xs → those ok₁ xs ≡ those ok xs
unfolding those
those_same ok ok₁ [] h = refl
those_same ok ok₁ (x ∷ xs) h = go (ok x) refl (those_same ok ok₁ xs h.1)
  where
    go : (b : Bool) → ok x ≡ b → those ok₁ xs ≡ those ok xs → those ok₁ (x ∷ xs) ≡ those ok (x ∷ xs)
    go true e ih = rw (those, h.0 ∙ e, those, e, ih)
    go false e ih = rw (those, h.0 ∙ e, those, e, ih)

-- a list that may be empty
pub first-all : (P : ℕ → Type 0) (x : ℕ) → ((x ≡ NONE → ⊥) → P x) → All P (first_cell x)
unfolding first_cell
first-all P x h = go (eqb x NONE) refl
  where
    go : (b : Bool) → eqb x NONE ≡ b → All P (first_cell x)
    go true e = rw (e, first_cell) tt
    go false e = rw (e, first_cell) (h (eqb-false _ _ e), tt)

cell_low : (r x : ℕ) (b : Bool) → either (eqb x NONE) (both (ltb x r) b) ≡ true → (x ≡ NONE → ⊥) → x < r
cell_low r x b e z = go (either_true _ _ e)
  where
    go : (eqb x NONE ≡ true) ⊎ (both (ltb x r) b ≡ true) → x < r
    go (inl i) = absurd (z (eqb-true _ _ i))
    go (inr i) = ltb-true _ _ (both_true _ _ i).0

-- what fits refers to lower records
reference_low : (ws : List ℕ) (r : ℕ) (F : Field) (x : ℕ) → fits ws r F x ≡ true → All (λ y. y < r) (reference F x)
unfolding fits reference list_of
reference_low ws r never x e = tt
reference_low ws r nil x e = tt
reference_low ws r any-number x e = tt
reference_low ws r small x e = tt
reference_low ws r a_type x e = (ltb-true _ _ (both_true _ _ e).0, tt)
reference_low ws r a_base x e = (ltb-true _ _ (both_true _ _ e).0, tt)
reference_low ws r a_constant x e = (ltb-true _ _ (both_true _ _ e).0, tt)
reference_low ws r a_hole x e = (ltb-true _ _ (both_true _ _ e).0, tt)
reference_low ws r a_term x e = (ltb-true _ _ (both_true _ _ e).0, tt)
reference_low ws r some_types x e = first-all (λ y. y < r) x (λ z. cell_low r x (both (has ws x CE) (is_type ws (field_a ws x))) e z)
reference_low ws r some_terms x e = first-all (λ y. y < r) x (λ z. cell_low r x (both (has ws x CE) (is_term ws (field_a ws x))) e z)
reference_low ws r an_element x e = (ltb-true _ _ (both_true _ _ e).0, tt)
reference_low ws r a_rest x e = first-all (λ y. y < r) x (λ z. cell_low r x (has ws x CE) e z)

-- the records that a record refers to, of any tag
abbrev references : List ℕ → ℕ → List ℕ
references ws r = reference (shape ws r).0 (field_a ws r) ++ (reference (shape ws r).1 (field_b ws r) ++ reference (shape ws r).2 (field_c ws r))

module _ (ws : List ℕ) (n : ℕ) (g : Sound ws n) (r : ℕ) (h : r < n) where
  references_low : All (λ y. y < r) (references ws r)
  unfolding keeps shaped
  references_low =
      let p = both_true _ _ (both_true _ _ (g r h)).0 in
      let q = both_true _ _ p.1 in
      all_append (λ y. y < r) (reference (shape ws r).0 (field_a ws r)) _ (reference_low ws r (shape ws r).0 (field_a ws r) p.0)
      (all_append (λ y. y < r) (reference (shape ws r).1 (field_b ws r)) (reference (shape ws r).2 (field_c ws r)) (reference_low ws r (shape ws r).1 (field_b ws r) q.0)
      (reference_low ws r (shape ws r).2 (field_c ws r) q.1))

  pub uses_low : All (λ y. y < r) (uses ws r)
  unfolding uses
  uses_low = those-all (λ y. y < r) _ _ (all_map (λ y. y < r) (λ y. both (leb 5 (tag ws y)) (leb (tag ws y) 9) ≡ true → y < r) (λ y l e. l) (references ws r) references_low)

  pub uses_same : (ws₁ : List ℕ) → Same n ws ws₁ → uses ws₁ r ≡ uses ws r
  unfolding uses shape
  uses_same ws₁ s =
      let t : tag ws₁ r ≡ tag ws r = s.word (4 * r) (omega arith) in
      let a : field_a ws₁ r ≡ field_a ws r = s.word (4 * r + 1) (omega arith) in
      let b : field_b ws₁ r ≡ field_b ws r = s.word (4 * r + 2) (omega arith) in
      let c : field_c ws₁ r ≡ field_c ws r = s.word (4 * r + 3) (omega arith) in
      rw (t, a, b, c)
      (those_same (λ x. both (leb 5 (tag ws x)) (leb (tag ws x) 9)) (λ x. both (leb 5 (tag ws₁ x)) (leb (tag ws₁ x) 9)) _
      (all_map (λ y. y < r) (λ y. both (leb 5 (tag ws₁ y)) (leb (tag ws₁ y) 9) ≡ both (leb 5 (tag ws y)) (leb (tag ws y) 9))
      (λ y l. let k : tag ws₁ y ≡ tag ws y = s.word (4 * y) (omega arith) in rw k) (references ws r) references_low))
