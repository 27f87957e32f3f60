-- Lists, types and holes of a sound table can be read.
use Rattle.std.specs.Prelude.{ℕ, zero, suc, ◌<◌, ◌≤◌, ◌≡◌, refl, List, [], ◌∷◌, Bool, true, ◌⊎◌}
use Rattle.std.proofs.Common.{inl, inr, arith, le_refl, eqb-true}
use Rattle.rules.specs.Words.{tag, field_a, field_b, NONE, BT, AR, HO, CE, has, is_type, is_term}
use Rattle.laws.specs.Sound.{Sound, type_tag, arrow_fields, hole_context, hole_base, cell_element, cell_rest, Follows, follows_type, follows_term}
use Rattle.trees.specs.Tree.{Ty, base, arr, AllL}
use Rattle.trees.specs.Free.{AllL-map}
use Rattle.promise.specs.Reading.{Listed, l_none, l_cell, ReadsTy, ty_base, ty_arr, ReadsTys, ty_nil, ty_cons, HoleAt, same_refl, type_later}

module _ (ws : List ℕ) (n : ℕ) (g : Sound ws n) (small' : n ≤ 4096) where
  -- a list reads as its elements, which pass
  abbrev pub ListOf : (ℕ → Bool) → ℕ → ℕ → Type 0
  ListOf ok m l = (xs : List ℕ) × Listed ws m l xs × AllL (λ x. (x < m) × (ok x ≡ true)) xs

  list_read : (ok : ℕ → Bool) → Follows ws n g ok → (k m l : ℕ) → m ≤ n → m ≤ k → (l ≡ NONE) ⊎ ((l < m) × (tag ws l ≡ CE) × (ok (field_a ws l) ≡ true)) → ListOf ok m l
  list_read ok fol zero m l a b s = go s
    where
      go : (l ≡ NONE) ⊎ ((l < m) × (tag ws l ≡ CE) × (ok (field_a ws l) ≡ true)) → ListOf ok m l
      go (inl e) = ([], l_none e, tt)
      go (inr e) = let x = e.0 in absurd (omega arith)
  list_read ok fol (suc k) m l a b s = go s (λ x z. list_read ok fol k l (field_b ws l) (omega arith) (omega arith) z)
    where
      go : (l ≡ NONE) ⊎ ((l < m) × (tag ws l ≡ CE) × (ok (field_a ws l) ≡ true))
          → (l < m → (field_b ws l ≡ NONE) ⊎ ((field_b ws l < l) × (tag ws (field_b ws l) ≡ CE) × (ok (field_a ws (field_b ws l)) ≡ true)) → ListOf ok l (field_b ws l))
          → ListOf ok m l
      go (inl e) ih = ([], l_none e, tt)
      go (inr (h, e, q)) ih =
          let c = cell_element ws n g l d e in
          let r = ih h (next (cell_rest ws n g l d e)) in
          (field_a ws l ∷ r.0, l_cell h (omega arith) e refl refl r.1, ((omega arith, q), AllL-map (λ j p. (omega (arith, p.0), p.1)) r.0 r.2))
        where
          d : l < n
          d = omega arith

          next : (field_b ws l ≡ NONE) ⊎ ((field_b ws l < l) × (tag ws (field_b ws l) ≡ CE))
              → (field_b ws l ≡ NONE) ⊎ ((field_b ws l < l) × (tag ws (field_b ws l) ≡ CE) × (ok (field_a ws (field_b ws l)) ≡ true))
          next (inl z) = inl z
          next (inr z) = let y = z.0 in inr (z.0, z.1, fol l d e (omega arith) q)

  pub terms_read : (m l : ℕ) → m ≤ n → (l ≡ NONE) ⊎ ((l < m) × (tag ws l ≡ CE) × (is_term ws (field_a ws l) ≡ true)) → ListOf (is_term ws) m l
  terms_read m l a e = list_read (is_term ws) (follows_term ws n g) n m l a a e

  -- a type can be read
  type_read : (k r : ℕ) → r < k → r < n → is_type ws r ≡ true → (A : Ty) × ReadsTy ws (suc r) r A
  type_read zero r a h e = absurd (omega arith)
  type_read (suc k) r a h e = go (type_tag ws r e) (λ x l q. type_read k x (omega arith) (omega arith) q)
    where
      go : (tag ws r ≡ BT) ⊎ (tag ws r ≡ AR) → ((x : ℕ) → x < r → is_type ws x ≡ true → (A : Ty) × ReadsTy ws (suc x) x A) → (A : Ty) × ReadsTy ws (suc r) r A
      go (inl z) ih = (base (field_a ws r), ty_base (le_refl _) z refl)
      go (inr z) ih =
          let p = arrow_fields ws n g r h z in
          let x = ih (field_a ws r) p.0.0 p.0.1 in
          let y = ih (field_b ws r) p.1.0 p.1.1 in
          (arr x.0 y.0, ty_arr (le_refl _) z refl refl (type_later same_refl p.0.0 x.1) (type_later same_refl p.1.0 y.1))

  pub type_at : (r : ℕ) → r < n → is_type ws r ≡ true → (A : Ty) × ReadsTy ws (suc r) r A
  type_at r h e = type_read n r h h e

  types_at : (m : ℕ) (xs : List ℕ) → m ≤ n → AllL (λ x. (x < m) × (is_type ws x ≡ true)) xs → (C : List Ty) × ReadsTys ws m xs C
  types_at m [] h a = ([], ty_nil)
  types_at m (x ∷ xs) h ((l, e), a) =
      let y = type_at x (omega arith) e in
      let z = types_at m xs h a in
      (y.0 ∷ z.0, ty_cons (type_later same_refl l y.1) z.1)

  -- a hole can be read
  pub hole_at : (h : ℕ) → h < n → tag ws h ≡ HO → (C : List Ty) × (b : ℕ) × HoleAt ws n h C b
  unfolding has
  hole_at h l e =
      let x = list_read (is_type ws) (follows_type ws n g) n h (field_a ws h) (omega arith) (omega arith) (hole_context ws n g h l e) in
      let y = types_at h x.0 (omega arith) x.2 in
      let z = hole_base ws n g h l e in (
        y.0,
        field_a ws (field_b ws h),
        record {
          low = l;
          is = e;
          list = field_a ws h;
          first = refl;
          entries = x.0;
          listed = x.1;
          context = y.1;
          at = field_b ws h;
          second = refl;
          result = ty_base z.0 (eqb-true _ _ z.1) refl;
        },
      )
