-- One record by itself: what it is to have the right shape and references, and that lower fields of the right kinds make it so.
use Rattle.std.specs.Prelude.{ℕ, ◌<◌, ◌≤◌, Bool, true, false, ◌⊎◌, eqb}
use Rattle.std.proofs.Math.Path.{◌≡◌, refl, ap}
use Rattle.std.proofs.Common.{◌∙◌, inl, inr, leb-true, lt-ltb, eq-eqb, ne_eqb}
use mathlib.Core.List.{List, [], ◌∷◌, ◌++◌}
use native.Mathlib.Omega.{arith}
use Rattle.std.proofs.Math.ListN.{get_or}
use Rattle.rules.specs.Lists.{both, either, any, among, distinct, those}
use Rattle.rules.specs.Words.{NONE, HO, CE, LA, CA, VA, HA, BT, KO, tag, field_a, field_b, field_c, is_type, is_term}
use Rattle.rules.specs.Records.{Field, Shape, never, nil, any-number, small, type as a_type, base as a_base, constant as a_constant, hole as a_hole, term as a_term, types as some_types, terms as some_terms}
use Rattle.rules.specs.Records.{element as an_element, rest as a_rest, shapes, shape, fits, shaped, listed, first_cell, reference, uses}
use Rattle.laws.specs.Tests.{both_true, both_yes, either_left, has_yes}
use Rattle.laws.specs.Members.{Begins}
use Rattle.invariants.specs.Floor.{All}
use Rattle.invariants.specs.Grow.{all_map}
use Rattle.invariants.specs.Pairs.{all_append}
use Rattle.legal.specs.Uses.{those-all, first-all}
use Rattle.legal.specs.Stay.{begins_list, no_cell}

-- no record below n refers to x
abbrev pub Free : List ℕ → ℕ → ℕ → Type 0
Free ws n x = (j : ℕ) → j < n → All (λ y. y ≡ x → ⊥) (uses ws j)

-- a list of at most one element
abbrev Single : ℕ → List ℕ → Type 0
Single x xs = (xs ≡ []) ⊎ (xs ≡ x ∷ [])

-- a field refers to one record at most
first_single : (x : ℕ) → Single x (first_cell x)
unfolding first_cell
first_single x = go (eqb x NONE) refl
  where
    go : (b : Bool) → eqb x NONE ≡ b → Single x (first_cell x)
    go true e = rw (first_cell, e) (inl refl)
    go false e = rw (first_cell, e) (inr refl)

reference_single : (F : Field) (x : ℕ) → Single x (reference F x)
unfolding reference
reference_single never x = inl refl
reference_single nil x = inl refl
reference_single any-number x = inl refl
reference_single small x = inl refl
reference_single a_type x = inr refl
reference_single a_base x = inr refl
reference_single a_constant x = inr refl
reference_single a_hole x = inr refl
reference_single a_term x = inr refl
reference_single some_types x = first_single x
reference_single some_terms x = first_single x
reference_single an_element x = inr refl
reference_single a_rest x = first_single x

-- so a record refers to no record twice, if its two fields refer to different ones
distinct-one : (ok : ℕ → Bool) (x : ℕ) → distinct (those ok (x ∷ [])) ≡ true
unfolding distinct those among any both
distinct-one ok x = go (ok x) refl
  where
    go : (b : Bool) → ok x ≡ b → distinct (those ok (x ∷ [])) ≡ true
    go true e = rw (those, e)
    go false e = rw (those, e)

distinct_two : (ok : ℕ → Bool) (x y : ℕ) → (x ≡ y → ⊥) → distinct (those ok (x ∷ y ∷ [])) ≡ true
unfolding distinct those among any both either
distinct_two ok x y n = go (ok x) refl (ok y) refl
  where
    go : (a : Bool) → ok x ≡ a → (b : Bool) → ok y ≡ b → distinct (those ok (x ∷ y ∷ [])) ≡ true
    go true e true f = rw (those, e, those, f, ne_eqb y x (λ z. n (rw z)))
    go true e false f = rw (those, e, those, f)
    go false e true f = rw (those, e, those, f)
    go false e false f = rw (those, e, those, f)

distinct_none : (ok : ℕ → Bool) → distinct (those ok []) ≡ true
unfolding distinct those
distinct_none ok = refl

distinct_refs : (ok : ℕ → Bool) (a b : ℕ) (xs ys : List ℕ) → Single a xs → Single b ys → All (λ x. All (λ y. x ≡ y → ⊥) ys) xs → distinct (those ok (xs ++ (ys ++ []))) ≡ true
distinct_refs ok a b xs ys (inl e) (inl f) n = rw (e, f) (distinct_none ok)
distinct_refs ok a b xs ys (inl e) (inr f) n = rw (e, f) (distinct-one ok b)
distinct_refs ok a b xs ys (inr e) (inl f) n = rw (e, f) (distinct-one ok a)
distinct_refs ok a b xs ys (inr e) (inr f) n = let m = rw (e, f) at n in rw (e, f) (distinct_two ok a b m.0.0)

-- the record r has the right shape, and of what it refers to all that counts has Q
pub record Right (ws : List ℕ) (r : ℕ) (Q : ℕ → Type 0) : Type 0 where
  pub shaped_so : shaped ws r ≡ true
  pub listed_so : listed ws r ≡ true
  pub no_type : 3 ≤ tag ws r
  pub once : distinct (uses ws r) ≡ true
  pub used : All Q (uses ws r)

-- what counts among references: tags 5 to 9
abbrev pub Counts : List ℕ → (ℕ → Type 0) → ℕ → Type 0
Counts ws Q x = 5 ≤ tag ws x → Q x

module _ (ws : List ℕ) (r : ℕ) (Q : ℕ → Type 0) where
  -- a record whose shape is that of tag k
  pub made : (k : ℕ) (F G : Field) → tag ws r ≡ k → ◌≡◌ {A = Shape} (get_or shapes k (never, never, never)) (F, G, nil) → 3 ≤ k → fits ws r F (field_a ws r) ≡ true → fits ws r G (field_b ws r) ≡ true → field_c ws r ≡ 0
      → listed ws r ≡ true → All (Counts ws Q) (reference F (field_a ws r)) → All (Counts ws Q) (reference G (field_b ws r))
      → All (λ x. All (λ y. x ≡ y → ⊥) (reference G (field_b ws r))) (reference F (field_a ws r)) → Right ws r Q
  unfolding shaped shape uses fits reference
  made k F G e is lo fa fb c li qa qb apart =
      let sh : ◌≡◌ {A = Shape} (get_or shapes (tag ws r) (never, never, never)) (F, G, nil) = ap (λ j. get_or shapes j (never, never, never)) e ∙ is in
      record {
        shaped_so = rw sh (both_yes _ _ fa (both_yes _ _ fb (eq-eqb _ _ c)));
        listed_so = li;
        no_type = rw e lo;
        once = rw sh (distinct_refs _ (field_a ws r) (field_b ws r) (reference F (field_a ws r)) (reference G (field_b ws r)) (reference_single F (field_a ws r)) (reference_single G (field_b ws r)) apart);
        used = rw sh (those-all Q _ (reference F (field_a ws r) ++ (reference G (field_b ws r) ++ []))
            (all_map (Counts ws Q) _ (λ x q z. q (leb-true _ _ (both_true _ _ z).0)) (reference F (field_a ws r) ++ (reference G (field_b ws r) ++ []))
            (all_append (Counts ws Q) (reference F (field_a ws r)) (reference G (field_b ws r) ++ []) qa (all_append (Counts ws Q) (reference G (field_b ws r)) [] qb tt))));
      }

  -- only a cell must begin a list
  plain : (k : ℕ) → tag ws r ≡ k → (k ≡ CE → ⊥) → listed ws r ≡ true
  unfolding listed
  plain k e n = either_left _ _ (no_cell ws r (λ z. n (rw e at z)))

  -- a list that counts
  pub lists : (x : ℕ) → ((x ≡ NONE → ⊥) → Q x) → All (Counts ws Q) (first_cell x)
  lists x q = first-all (Counts ws Q) x (λ z l. q z)

  pub lambda_right : tag ws r ≡ LA → field_a ws r < r → is_term ws (field_a ws r) ≡ true → field_b ws r ≡ 0 → field_c ws r ≡ 0 → Q (field_a ws r) → Right ws r Q
  unfolding shapes fits reference
  lambda_right e lt t b c q =
      made LA a_term nil e refl (omega arith) (both_yes _ _ (lt-ltb _ _ lt) t) (eq-eqb _ _ b) c (plain LA e (λ z. omega arith)) (λ l. q, tt) tt (tt, tt)

  -- a head over a list of terms: the head is no list
  applied_right : (k : ℕ) (F : Field) → tag ws r ≡ k → ◌≡◌ {A = Shape} (get_or shapes k (never, never, never)) (F, some_terms, nil) → 7 ≤ k → fits ws r F (field_a ws r) ≡ true → All (λ x. tag ws x < 5) (reference F (field_a ws r))
      → field_c ws r ≡ 0 → Begins (is_term ws) ws r (field_b ws r) → ((field_b ws r ≡ NONE → ⊥) → Q (field_b ws r)) → Right ws r Q
  unfolding fits reference
  applied_right k F e is lo fa low c b q =
      made k F some_terms e is (omega arith) fa (begins_list (is_term ws) ws r (field_b ws r) b) c (plain k e (λ z. omega arith))
      (all_map (λ x. tag ws x < 5) (Counts ws Q) (λ x l m. absurd (omega arith)) (reference F (field_a ws r)) low) (lists (field_b ws r) q)
      (all_map (λ x. tag ws x < 5) (λ x. All (λ y. x ≡ y → ⊥) (first_cell (field_b ws r))) (λ x l. first-all (λ y. x ≡ y → ⊥) (field_b ws r) (λ z i. other x l (b z).1 i)) (reference F (field_a ws r)) low)
    where
      other : (x : ℕ) → tag ws x < 5 → tag ws (field_b ws r) ≡ CE → x ≡ field_b ws r → ⊥
      other x l five i = let z : tag ws x ≡ tag ws (field_b ws r) = ap (tag ws) i in omega arith

  pub constant_right : tag ws r ≡ CA → field_a ws r < r → tag ws (field_a ws r) ≡ KO → field_c ws r ≡ 0 → Begins (is_term ws) ws r (field_b ws r) → ((field_b ws r ≡ NONE → ⊥) → Q (field_b ws r)) → Right ws r Q
  unfolding shapes fits reference
  constant_right e lt t = applied_right CA a_constant e refl (omega arith) (both_yes _ _ (lt-ltb _ _ lt) (has_yes ws _ KO t)) (omega arith, tt)

  pub variable_right : tag ws r ≡ VA → field_a ws r < 4096 → field_c ws r ≡ 0 → Begins (is_term ws) ws r (field_b ws r) → ((field_b ws r ≡ NONE → ⊥) → Q (field_b ws r)) → Right ws r Q
  unfolding shapes fits reference
  variable_right e lt = applied_right VA small e refl (omega arith) (lt-ltb _ _ lt) tt

  pub occurrence_right : tag ws r ≡ HA → field_a ws r < r → tag ws (field_a ws r) ≡ HO → field_c ws r ≡ 0 → Begins (is_term ws) ws r (field_b ws r) → ((field_b ws r ≡ NONE → ⊥) → Q (field_b ws r)) → Right ws r Q
  unfolding shapes fits reference
  occurrence_right e lt t = applied_right HA a_hole e refl (omega arith) (both_yes _ _ (lt-ltb _ _ lt) (has_yes ws _ HO t)) (omega arith, tt)

  pub hole_right : tag ws r ≡ HO → Begins (is_type ws) ws r (field_a ws r) → field_b ws r < r → tag ws (field_b ws r) ≡ BT → field_c ws r ≡ 0 → ((field_a ws r ≡ NONE → ⊥) → Q (field_a ws r)) → Right ws r Q
  unfolding shapes fits reference
  hole_right e b lt t c q =
      made HO some_types a_base e refl (omega arith) (begins_list (is_type ws) ws r (field_a ws r) b) (both_yes _ _ (lt-ltb _ _ lt) (has_yes ws _ BT t)) c (plain HO e (λ z. omega arith))
      (lists (field_a ws r) q) (λ l. absurd (omega arith), tt)
      (first-all (λ x. All (λ y. x ≡ y → ⊥) (field_b ws r ∷ [])) (field_a ws r) (λ z. ((λ i. let k = (b z).1 in let l : tag ws (field_a ws r) ≡ tag ws (field_b ws r) = ap (tag ws) i in omega arith), tt)))
