-- A table of which no record is broken, read field by field: every reference goes to a lower record of the right kind, every rest is like its cell.
use Rattle.std.specs.Prelude.{ℕ, ◌<◌, ◌≤◌, ◌≡◌, refl, List, Bool, false, not, ◌⊎◌, length, get_or, eqb, ltb, leb, None}
use Rattle.std.proofs.Common.{ap, arith}
use Rattle.std.proofs.Math.Bool.{true}
use Rattle.std.proofs.Math.Logic.{inl, inr}
use Rattle.std.proofs.Math.Decide.{ℕ_discrete}
use Rattle.std.proofs.Math.ListN.{get_or-eq_default}
use borrow.Author.Tests.{ltb-true, ltb-false, leb-true, eqb-true, not-false}
use Rattle.rules.specs.Lists.{both, either}
use Rattle.rules.specs.Words.{tag, field_a, field_b, field_c, NONE, BT, AR, KO, HO, CE, LA, CA, VA, HA, EQ, has, is_type, is_term, cells}
use Rattle.rules.specs.Records.{Field, type as a_type, base as a_base, constant as a_constant, hole as a_hole, term as a_term, types as some_types, terms as some_terms, element as an_element, rest as a_rest, never, shapes, shape, list_of, fits, shaped, alike, listed, keeps, broken}
use Rattle.laws.specs.Tests.{false_true, both_true, either_true, lowest_none}

-- every record keeps the rules
abbrev pub Sound : List ℕ → ℕ → Type 0
Sound ws n = (r : ℕ) → r < n → keeps ws r ≡ true

pub broken_none : (ws : List ℕ) (n : ℕ) → broken ws n ≡ None → Sound ws n
unfolding broken
broken_none ws n e r h = not-false (keeps ws r) (lowest_none n (λ j. not (keeps ws j)) e r h)

pub type_tag : (ws : List ℕ) (r : ℕ) → is_type ws r ≡ true → (tag ws r ≡ BT) ⊎ (tag ws r ≡ AR)
unfolding is_type
type_tag ws r e =
    let p = both_true _ _ e in
    let a = leb-true _ _ p.0 in
    let b = leb-true _ _ p.1 in
    go (ℕ_discrete (tag ws r) BT) a b
  where
    go : Dec (tag ws r ≡ BT) → 1 ≤ tag ws r → tag ws r ≤ 2 → (tag ws r ≡ BT) ⊎ (tag ws r ≡ AR)
    go (yes x) a b = inl x
    go (no x) a b = inr (omega arith)

module _ (ws : List ℕ) (n : ℕ) (g : Sound ws n) (r : ℕ) (h : r < n) where
  shaped_so : shaped ws r ≡ true
  unfolding keeps
  shaped_so = (both_true _ _ (g r h)).0

  a-fits : (F : Field) → (shape ws r).0 ≡ F → fits ws r F (field_a ws r) ≡ true
  unfolding shaped
  a-fits F e = rw (← e) (both_true _ _ shaped_so).0

  b_fits : (F : Field) → (shape ws r).1 ≡ F → fits ws r F (field_b ws r) ≡ true
  unfolding shaped
  b_fits F e = rw (← e) (both_true _ _ (both_true _ _ shaped_so).1).0

  c_fits : (F : Field) → (shape ws r).2 ≡ F → fits ws r F (field_c ws r) ≡ true
  unfolding shaped
  c_fits F e = rw (← e) (both_true _ _ (both_true _ _ shaped_so).1).1

  abbrev pub Kind : (ℕ → Bool) → ℕ → Type 0
  Kind ok x = (x < r) × (ok x ≡ true)

  kind : (ok : ℕ → Bool) (x : ℕ) → both (ltb x r) (ok x) ≡ true → Kind ok x
  kind ok x e = let p = both_true _ _ e in (ltb-true _ _ p.0, p.1)

  -- a record of which something is right has one of the ten tags
  pub known-tag : (BT ≤ tag ws r) × (tag ws r ≤ EQ)
  unfolding shape shapes shaped fits both
  known-tag = (low (ℕ_discrete (tag ws r) 0), high (ltb EQ (tag ws r)) refl)
    where
      unknown : shape ws r ≡ (never, never, never) → ⊥
      unknown e = false_true (rw e at shaped_so)

      low : Dec (tag ws r ≡ 0) → BT ≤ tag ws r
      low (yes e) = absurd (unknown (rw e))
      low (no z) = omega arith

      high : (b : Bool) → ltb EQ (tag ws r) ≡ b → tag ws r ≤ EQ
      high true q = let l : length shapes ≤ tag ws r = ltb-true _ _ q in absurd (unknown (get_or-eq_default shapes (never, never, never) l))
      high false q = ltb-false _ _ q

  pub arrow_fields : tag ws r ≡ AR → Kind (is_type ws) (field_a ws r) × Kind (is_type ws) (field_b ws r)
  unfolding shape shapes fits
  arrow_fields e = (
    kind (is_type ws) _ (a-fits a_type (ap (λ k. (get_or shapes k (never, never, never)).0) e)),
    kind (is_type ws) _ (b_fits a_type (ap (λ k. (get_or shapes k (never, never, never)).1) e)),
  )

  pub constant_field : tag ws r ≡ KO → Kind (is_type ws) (field_a ws r)
  unfolding shape shapes fits
  constant_field e = kind (is_type ws) _ (a-fits a_type (ap (λ k. (get_or shapes k (never, never, never)).0) e))

  pub lambda_field : tag ws r ≡ LA → Kind (is_term ws) (field_a ws r)
  unfolding shape shapes fits
  lambda_field e = kind (is_term ws) _ (a-fits a_term (ap (λ k. (get_or shapes k (never, never, never)).0) e))

  pub constant_head : tag ws r ≡ CA → Kind (λ x. has ws x KO) (field_a ws r)
  unfolding shape shapes fits
  constant_head e = kind (λ x. has ws x KO) _ (a-fits a_constant (ap (λ k. (get_or shapes k (never, never, never)).0) e))

  pub hole_head : tag ws r ≡ HA → Kind (λ x. has ws x HO) (field_a ws r)
  unfolding shape shapes fits
  hole_head e = kind (λ x. has ws x HO) _ (a-fits a_hole (ap (λ k. (get_or shapes k (never, never, never)).0) e))

  pub hole_base : tag ws r ≡ HO → Kind (λ x. has ws x BT) (field_b ws r)
  unfolding shape shapes fits
  hole_base e = kind (λ x. has ws x BT) _ (b_fits a_base (ap (λ k. (get_or shapes k (never, never, never)).1) e))

  pub equation_fields : tag ws r ≡ EQ → Kind (is_term ws) (field_a ws r) × Kind (is_term ws) (field_b ws r) × Kind (is_type ws) (field_c ws r)
  unfolding shape shapes fits
  equation_fields e = (
    kind (is_term ws) _ (a-fits a_term (ap (λ k. (get_or shapes k (never, never, never)).0) e)),
    kind (is_term ws) _ (b_fits a_term (ap (λ k. (get_or shapes k (never, never, never)).1) e)),
    kind (is_type ws) _ (c_fits a_type (ap (λ k. (get_or shapes k (never, never, never)).2) e)),
  )

  -- a list whose first element passes
  abbrev pub Starting : (ℕ → Bool) → ℕ → Type 0
  Starting ok x = (x ≡ NONE) ⊎ ((x < r) × (tag ws x ≡ CE) × (ok (field_a ws x) ≡ true))

  starting : (ok : ℕ → Bool) (x : ℕ) → list_of ok ws r x ≡ true → Starting ok x
  unfolding list_of has
  starting ok x e = go (either_true _ _ e)
    where
      go : (eqb x NONE ≡ true) ⊎ (both (ltb x r) (both (eqb (tag ws x) CE) (ok (field_a ws x))) ≡ true) → Starting ok x
      go (inl z) = inl (eqb-true _ _ z)
      go (inr z) = let p = both_true _ _ z in let q = both_true _ _ p.1 in inr (ltb-true _ _ p.0, eqb-true _ _ q.0, q.1)

  pub hole_context : tag ws r ≡ HO → Starting (is_type ws) (field_a ws r)
  unfolding shape shapes fits
  hole_context e = starting (is_type ws) _ (a-fits some_types (ap (λ k. (get_or shapes k (never, never, never)).0) e))

  pub constant_list : tag ws r ≡ CA → Starting (is_term ws) (field_b ws r)
  unfolding shape shapes fits
  constant_list e = starting (is_term ws) _ (b_fits some_terms (ap (λ k. (get_or shapes k (never, never, never)).1) e))

  pub variable_list : tag ws r ≡ VA → Starting (is_term ws) (field_b ws r)
  unfolding shape shapes fits
  variable_list e = starting (is_term ws) _ (b_fits some_terms (ap (λ k. (get_or shapes k (never, never, never)).1) e))

  pub hole_list : tag ws r ≡ HA → Starting (is_term ws) (field_b ws r)
  unfolding shape shapes fits
  hole_list e = starting (is_term ws) _ (b_fits some_terms (ap (λ k. (get_or shapes k (never, never, never)).1) e))

  -- a cell: its element, and the rest, which is empty or a cell whose element is alike
  pub cell_element : tag ws r ≡ CE → field_a ws r < r
  unfolding shape shapes fits
  cell_element e = ltb-true _ _ (both_true _ _ (a-fits an_element (ap (λ k. (get_or shapes k (never, never, never)).0) e))).0

  pub cell_rest : tag ws r ≡ CE → (field_b ws r ≡ NONE) ⊎ ((field_b ws r < r) × (tag ws (field_b ws r) ≡ CE))
  unfolding shape shapes fits has
  cell_rest e = go (either_true _ _ (b_fits a_rest (ap (λ k. (get_or shapes k (never, never, never)).1) e)))
    where
      go : (eqb (field_b ws r) NONE ≡ true) ⊎ (both (ltb (field_b ws r) r) (eqb (tag ws (field_b ws r)) CE) ≡ true)
          → (field_b ws r ≡ NONE) ⊎ ((field_b ws r < r) × (tag ws (field_b ws r) ≡ CE))
      go (inl z) = inl (eqb-true _ _ z)
      go (inr z) = let p = both_true _ _ z in inr (ltb-true _ _ p.0, eqb-true _ _ p.1)

  cell_alike : tag ws r ≡ CE → alike ws r ≡ true
  unfolding keeps listed has
  cell_alike e = go (either_true _ _ (both_true _ _ (both_true _ _ (g r h)).1).0)
    where
      go : (not (eqb (tag ws r) CE) ≡ true) ⊎ (both (alike ws r) (leb (length (cells 17 ws r)) 16) ≡ true) → alike ws r ≡ true
      go (inl z) = absurd (false_true (rw e at z))
      go (inr z) = (both_true _ _ z).0

-- types and terms are different
pub type_term : (ws : List ℕ) (r : ℕ) → is_type ws r ≡ true → is_term ws r ≡ true → ⊥
unfolding is_type is_term
type_term ws r a b =
    let x : tag ws r ≤ 2 = leb-true _ _ (both_true _ _ a).1 in
    let y : 6 ≤ tag ws r = leb-true _ _ (both_true _ _ b).0 in
    omega arith

module _ (ws : List ℕ) (n : ℕ) (g : Sound ws n) where
  -- of a cell whose element passes, the next cell's element passes
  abbrev pub Follows : (ℕ → Bool) → Type 0
  Follows ok = (l : ℕ) → l < n → tag ws l ≡ CE → (field_b ws l ≡ NONE → ⊥) → ok (field_a ws l) ≡ true → ok (field_a ws (field_b ws l)) ≡ true

  two : (l : ℕ) → l < n → tag ws l ≡ CE → (field_b ws l ≡ NONE → ⊥)
      → ((is_type ws (field_a ws l) ≡ true) × (is_type ws (field_a ws (field_b ws l)) ≡ true)) ⊎ ((is_term ws (field_a ws l) ≡ true) × (is_term ws (field_a ws (field_b ws l)) ≡ true))
  unfolding alike
  two l h e z = go (either_true _ _ (cell_alike ws n g l h e))
    where
      last : (both (is_type ws (field_a ws l)) (is_type ws (field_a ws (field_b ws l))) ≡ true) ⊎ (both (is_term ws (field_a ws l)) (is_term ws (field_a ws (field_b ws l))) ≡ true)
          → ((is_type ws (field_a ws l) ≡ true) × (is_type ws (field_a ws (field_b ws l)) ≡ true)) ⊎ ((is_term ws (field_a ws l) ≡ true) × (is_term ws (field_a ws (field_b ws l)) ≡ true))
      last (inl x) = inl (both_true _ _ x)
      last (inr x) = inr (both_true _ _ x)

      go : (eqb (field_b ws l) NONE ≡ true) ⊎ (either (both (is_type ws (field_a ws l)) (is_type ws (field_a ws (field_b ws l)))) (both (is_term ws (field_a ws l)) (is_term ws (field_a ws (field_b ws l)))) ≡ true)
          → ((is_type ws (field_a ws l) ≡ true) × (is_type ws (field_a ws (field_b ws l)) ≡ true)) ⊎ ((is_term ws (field_a ws l) ≡ true) × (is_term ws (field_a ws (field_b ws l)) ≡ true))
      go (inl x) = absurd (z (eqb-true _ _ x))
      go (inr x) = last (either_true _ _ x)

  pub follows_type : Follows (is_type ws)
  follows_type l h e z k = elim (two l h e z) [ inl x ↦ x.1 | inr x ↦ absurd (type_term ws (field_a ws l) k x.0) ]

  pub follows_term : Follows (is_term ws)
  follows_term l h e z k = elim (two l h e z) [ inl x ↦ absurd (type_term ws (field_a ws l) x.0 k) | inr x ↦ x.1 ]
