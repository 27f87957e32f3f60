-- The records of a sound table keep the rules while their words stay, whatever is written after them.
use Rattle.std.specs.Prelude.{ℕ, zero, suc, ◌+◌, ◌*◌, ◌<◌, ◌≤◌, ◌≡◌, refl, List, [], ◌∷◌, Bool, false, ◌⊎◌, length, eqb, ltb, leb}
use Rattle.std.proofs.Common.{sym, ◌∙◌, inl, inr, arith}
use Rattle.std.proofs.Math.Bool.{true, not}
use Rattle.std.proofs.Math.Decide.{ℕ_discrete}
use borrow.Author.Tests.{ltb-true, lt-ltb, eqb-true, eq-eqb, le-leb, ne_eqb}
use Rattle.rules.specs.Lists.{both, either, all, among, from, below}
use Rattle.rules.specs.Words.{NONE, CE, tag, field_a, field_b, field_c, has, is_type, is_term, cells, elements}
use Rattle.rules.specs.Records.{Field, never, nil, any-number, small, type as a_type, base as a_base, constant as a_constant, hole as a_hole, term as a_term, types as some_types, terms as some_terms}
use Rattle.rules.specs.Records.{element as an_element, rest as a_rest, shape, list_of, fits, shaped, alike, listed, new_type, uses, first_use, keeps}
use Rattle.laws.specs.Tests.{both_true, either_true, both_yes, either_left, has_yes, tag_is}
use Rattle.laws.specs.Sound.{Sound, cell_element, cell_rest}
use Rattle.laws.specs.Lists.{cells_none, cells-more, elements-kept}
use Rattle.laws.specs.Members.{Legal, Begins, cell}
use Rattle.invariants.specs.Floor.{All}
use Rattle.invariants.specs.Grow.{all_map}
use Rattle.invariants.specs.Input.{few_cells}
use Rattle.promise.specs.Reading.{Same}
use Rattle.legal.specs.Uses.{uses_same}

pub either_right : (a b : Bool) → b ≡ true → either a b ≡ true
unfolding either
either_right true b e = refl
either_right false b e = e

-- a field that holds a list, whose first element passes
pub begins_list : (ok : ℕ → Bool) (ws : List ℕ) (r x : ℕ) → Begins ok ws r x → list_of ok ws r x ≡ true
unfolding list_of
begins_list ok ws r x b = go (ℕ_discrete x NONE)
  where
    go : Dec (x ≡ NONE) → either (eqb x NONE) (both (ltb x r) (both (has ws x CE) (ok (field_a ws x)))) ≡ true
    go (yes e) = either_left _ _ (eq-eqb _ _ e)
    go (no e) = let p = b e in either_right _ _ (both_yes _ _ (lt-ltb _ _ p.0) (both_yes _ _ (has_yes ws x CE p.1) p.2))

list_begins : (ok : ℕ → Bool) (ws : List ℕ) (r x : ℕ) → list_of ok ws r x ≡ true → Begins ok ws r x
unfolding list_of
list_begins ok ws r x e z = go (either_true _ _ e)
  where
    go : (eqb x NONE ≡ true) ⊎ (both (ltb x r) (both (has ws x CE) (ok (field_a ws x))) ≡ true) → (x < r) × (tag ws x ≡ CE) × (ok (field_a ws x) ≡ true)
    go (inl i) = absurd (z (eqb-true _ _ i))
    go (inr i) = let p = both_true _ _ i in let q = both_true _ _ p.1 in (ltb-true _ _ p.0, tag_is ws x CE q.0, q.1)

pub no_cell : (ws : List ℕ) (r : ℕ) → (tag ws r ≡ CE → ⊥) → not (has ws r CE) ≡ true
unfolding has
no_cell ws r d = rw (ne_eqb _ _ d)

-- a list's first cells are no more than all of them
cells_fewer : (j k : ℕ) (ws : List ℕ) (l : ℕ) → length (cells j ws l) ≤ length (cells (j + k) ws l)
unfolding cells
cells_fewer zero k ws l = omega arith
cells_fewer (suc j) k ws l = go (ℕ_discrete l NONE) (cells_fewer j k ws (field_b ws l))
  where
    z : suc j + k ≡ suc (j + k)
    z = omega arith

    go : Dec (l ≡ NONE) → length (cells j ws (field_b ws l)) ≤ length (cells (j + k) ws (field_b ws l)) → length (cells (suc j) ws l) ≤ length (cells (suc j + k) ws l)
    go (yes e) ih = rw (cells_none (suc j) ws l e) (omega arith)
    go (no e) ih = rw (z, cells-more j ws l e, cells-more (j + k) ws l e) (omega arith)

pub cells-listed : (ws : List ℕ) (l : ℕ) → length (elements ws l) ≤ 16 → leb (length (cells 17 ws l)) 16 ≡ true
unfolding elements
cells-listed ws l h =
    let k : length (cells 17 ws l) ≤ length (cells 18446744073709551616 ws l) = cells_fewer 17 18446744073709551599 ws l in
    let le : length (cells 17 ws l) ≤ 16 = omega arith in
    le-leb _ _ le

all_same : (f g : ℕ → Bool) (xs : List ℕ) → All (λ x. f x ≡ g x) xs → all f xs ≡ all g xs
unfolding all
all_same f g [] h = refl
all_same f g (x ∷ xs) h = rw (h.0, all_same f g xs h.1)

all-each : (P : ℕ → Type 0) → ((x : ℕ) → P x) → (xs : List ℕ) → All P xs
all-each P h [] = tt
all-each P h (x ∷ xs) = (h x, all-each P h xs)

from_all : (i k : ℕ) → All (λ j. j < i + k) (from i k)
unfolding from
from_all i zero = tt
from_all i (suc k) = (omega arith, all_map (λ j. j < i + 1 + k) (λ j. j < i + suc k) (λ j l. omega arith) (from (i + 1) k) (from_all (i + 1) k))

pub below_all : (n : ℕ) → All (λ j. j < n) (below n)
unfolding below
below_all n = all_map (λ j. j < 0 + n) (λ j. j < n) (λ j l. omega arith) (from 0 n) (from_all 0 n)

module _ (ws ws₁ : List ℕ) (n : ℕ) (t : Legal ws n) (s : Same n ws ws₁) where
  g : Sound ws n
  g = t.sound

  pub tag_same : (r : ℕ) → r < n → tag ws₁ r ≡ tag ws r
  tag_same r h = s.word (4 * r) (omega arith)

  pub a_same : (r : ℕ) → r < n → field_a ws₁ r ≡ field_a ws r
  a_same r h = s.word (4 * r + 1) (omega arith)

  pub b_same : (r : ℕ) → r < n → field_b ws₁ r ≡ field_b ws r
  b_same r h = s.word (4 * r + 2) (omega arith)

  pub type_same : (r : ℕ) → r < n → is_type ws₁ r ≡ is_type ws r
  unfolding is_type
  type_same r h = rw (tag_same r h)

  pub term_same : (r : ℕ) → r < n → is_term ws₁ r ≡ is_term ws r
  unfolding is_term
  term_same r h = rw (tag_same r h)

  has_same : (k r : ℕ) → r < n → has ws₁ r k ≡ has ws r k
  unfolding has
  has_same k r h = rw (tag_same r h)

  pub elements_same : (l : ℕ) → ((l ≡ NONE → ⊥) → (l < n) × (tag ws l ≡ CE)) → elements ws₁ l ≡ elements ws l
  elements_same l h = elements-kept ws ws₁ n l s.word (cell ws n g) h

  pub begins_same : (ok ok₁ : ℕ → Bool) → ((x : ℕ) → x < n → ok₁ x ≡ ok x) → (r l : ℕ) → r ≤ n → Begins ok ws r l → Begins ok₁ ws₁ r l
  begins_same ok ok₁ same r l h b z =
      let p = b z in
      let lt = p.0 in
      let e = cell_element ws n g l (omega arith) p.1 in
      (lt, tag_same l (omega arith) ∙ p.1, rw (a_same l (omega arith), same (field_a ws l) (omega arith)) p.2)

  module _ (r : ℕ) (h : r < n) where
    kind_same : (ok ok₁ : ℕ → Bool) → ((y : ℕ) → y < n → ok₁ y ≡ ok y) → (x : ℕ) → both (ltb x r) (ok x) ≡ true → both (ltb x r) (ok₁ x) ≡ true
    kind_same ok ok₁ same x e = let l : x < r = ltb-true _ _ (both_true _ _ e).0 in rw (same x (omega arith)) e

    list_same : (ok ok₁ : ℕ → Bool) → ((y : ℕ) → y < n → ok₁ y ≡ ok y) → (x : ℕ) → list_of ok ws r x ≡ true → list_of ok₁ ws₁ r x ≡ true
    list_same ok ok₁ same x e = begins_list ok₁ ws₁ r x (begins_same ok ok₁ same r x (omega arith) (list_begins ok ws r x e))

    fits_same : (F : Field) (x : ℕ) → fits ws r F x ≡ true → fits ws₁ r F x ≡ true
    unfolding fits
    fits_same never x e = e
    fits_same nil x e = e
    fits_same any-number x e = e
    fits_same small x e = e
    fits_same a_type x e = kind_same (is_type ws) (is_type ws₁) type_same x e
    fits_same a_base x e = kind_same (λ y. has ws y 1) (λ y. has ws₁ y 1) (has_same 1) x e
    fits_same a_constant x e = kind_same (λ y. has ws y 3) (λ y. has ws₁ y 3) (has_same 3) x e
    fits_same a_hole x e = kind_same (λ y. has ws y 4) (λ y. has ws₁ y 4) (has_same 4) x e
    fits_same a_term x e = kind_same (is_term ws) (is_term ws₁) term_same x e
    fits_same some_types x e = list_same (is_type ws) (is_type ws₁) type_same x e
    fits_same some_terms x e = list_same (is_term ws) (is_term ws₁) term_same x e
    fits_same an_element x e =
        kind_same (λ y. either (is_type ws y) (is_term ws y)) (λ y. either (is_type ws₁ y) (is_term ws₁ y)) (λ y l. rw (type_same y l, term_same y l)) x e
    fits_same a_rest x e = go (either_true _ _ e)
      where
        go : (eqb x NONE ≡ true) ⊎ (both (ltb x r) (has ws x CE) ≡ true) → either (eqb x NONE) (both (ltb x r) (has ws₁ x CE)) ≡ true
        go (inl i) = either_left _ _ i
        go (inr i) = either_right _ _ (kind_same (λ y. has ws y CE) (λ y. has ws₁ y CE) (has_same CE) x i)

    shaped_same : shaped ws r ≡ true → shaped ws₁ r ≡ true
    unfolding shaped shape
    shaped_same e =
        let c : field_c ws₁ r ≡ field_c ws r = s.word (4 * r + 3) (omega arith) in
        let p = both_true _ _ e in
        let q = both_true _ _ p.1 in
        rw (tag_same r h, a_same r h, b_same r h, c) (both_yes _ _ (fits_same _ _ p.0) (both_yes _ _ (fits_same _ _ q.0) (fits_same _ _ q.1)))

    alike_same : tag ws r ≡ CE → alike ws₁ r ≡ alike ws r
    unfolding alike either
    alike_same e = go (cell_rest ws n g r h e)
      where
        go : (field_b ws r ≡ NONE) ⊎ ((field_b ws r < r) × (tag ws (field_b ws r) ≡ CE)) → alike ws₁ r ≡ alike ws r
        go (inl i) = rw (b_same r h, eq-eqb _ _ i)
        go (inr i) =
            let lt = i.0 in
            let k = cell_element ws n g r h e in
            let m = cell_element ws n g (field_b ws r) (omega arith) i.1 in
            let a₁ = type_same (field_a ws r) (omega arith) in
            let b₁ = term_same (field_a ws r) (omega arith) in
            let a₂ = type_same (field_a ws (field_b ws r)) (omega arith) in
            let b₂ = term_same (field_a ws (field_b ws r)) (omega arith) in
            rw (a_same r h, b_same r h, a_same (field_b ws r) (omega arith), a₁, b₁, a₂, b₂)

    listed_same : listed ws r ≡ true → listed ws₁ r ≡ true
    unfolding listed
    listed_same e = go (ℕ_discrete (tag ws r) CE) (either_true _ _ e)
      where
        go : Dec (tag ws r ≡ CE) → (not (has ws r CE) ≡ true) ⊎ (both (alike ws r) (leb (length (cells 17 ws r)) 16) ≡ true)
            → either (not (has ws₁ r CE)) (both (alike ws₁ r) (leb (length (cells 17 ws₁ r)) 16)) ≡ true
        go d (inl i) = either_left _ _ (rw (has_same CE r h) i)
        go (no d) (inr i) = either_left _ _ (no_cell ws₁ r (λ z. d (sym (tag_same r h) ∙ z)))
        go (yes d) (inr i) =
            let f = few_cells ws n g t.few t.inside r h d in
            either_right _ _ (both_yes _ _ (rw (alike_same d) (both_true _ _ i).0) (cells-listed ws₁ r (rw (elements_same r (λ z. (h, d))) f)))

    new_type_same : new_type ws₁ r ≡ new_type ws r
    unfolding new_type
    new_type_same =
        rw (
          type_same r h,
          tag_same r h,
          a_same r h,
          b_same r h,
          all_same (λ j. not (both (has ws₁ j (tag ws r)) (both (eqb (field_a ws₁ j) (field_a ws r)) (eqb (field_b ws₁ j) (field_b ws r)))))
              (λ j. not (both (has ws j (tag ws r)) (both (eqb (field_a ws j) (field_a ws r)) (eqb (field_b ws j) (field_b ws r))))) (below r)
              (all_map (λ j. j < r) _ (λ j l. rw (has_same (tag ws r) j (omega arith), a_same j (omega arith), b_same j (omega arith))) (below r) (below_all r)),
        )

    first_use_same : first_use ws₁ r ≡ first_use ws r
    unfolding first_use
    first_use_same =
        rw (
          uses_same ws n g r h ws₁ s,
          all_same (λ x. all (λ j. not (among (uses ws₁ j) x)) (below r)) (λ x. all (λ j. not (among (uses ws j) x)) (below r)) (uses ws r)
              (all-each _ (λ x. all_same (λ j. not (among (uses ws₁ j) x)) (λ j. not (among (uses ws j) x)) (below r)
              (all_map (λ j. j < r) _ (λ j l. rw (uses_same ws n g j (omega arith) ws₁ s)) (below r) (below_all r))) (uses ws r)),
        )

  pub sound_same : Sound ws₁ n
  unfolding keeps
  sound_same r h =
      let p = both_true _ _ (g r h) in
      let q = both_true _ _ p.1 in
      let o = both_true _ _ q.1 in
      both_yes _ _ (shaped_same r h p.0) (both_yes _ _ (listed_same r h q.0) (both_yes _ _ (rw (new_type_same r h) o.0) (rw (first_use_same r h) o.1)))
