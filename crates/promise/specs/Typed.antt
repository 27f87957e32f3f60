-- The checks mean typing: a term that checks at a type and holds no offence reads as a typed tree.
use Prim.Native.Nat.{ℕ, zero, suc, ◌<◌, ◌≤◌}
use Rattle.std.proofs.Math.Path.{◌≡◌, refl, sym, ap}
use Rattle.std.proofs.Common.{◌∙◌, inl, inr, arith, le_refl}
use mathlib.Core.List.{List, [], ◌∷◌, map}
use Rattle.std.specs.Prelude.{Bool, false, ◌≢◌, ◌⊎◌, get_or, eqb, ltb}
use Rattle.std.proofs.Math.Bool.{true}
use Rattle.std.proofs.Math.Option.{Option, some}
use Rattle.std.proofs.Math.ListN.{length}
use borrow.Author.Tests.{ltb-true, eqb-true, eqb-false, not-true}
use Rattle.rules.specs.Lists.{both, either, all, any, each, among, distinct, least, enough}
use Rattle.rules.specs.Words.{tag, field_a, field_b, NONE, AR, KO, HO, LA, CA, VA, HA, has, is_term, elements, arguments, variables, bare}
use Rattle.rules.specs.Typing.{final_type, domains, applied, fills, check_term, checks}
use Rattle.rules.specs.Pattern.{pattern, offence_in, offence}
use Rattle.trees.specs.Tree.{Ty, base, arr, Tree, lam, con, var, hol, nil, cons, AllL, Distinct, at, args, At, Vars, v_nil, v_cons, Sig, HasTy, t_lam, t_con, t_var, t_hol, t_nil, t_cons}
use Rattle.trees.specs.Free.{AllL-map}
use Rattle.promise.specs.Reading.{l_none, Bares, b_nil, b_cons, one, many, Reads, r_lam, r_con, r_var, r_hol, r_nil, r_cons, ReadsTy, ty_base, ty_arr, ReadsTys, ty_nil, ty_cons, HoleAt, same_refl, lower, reads_later, type_later, types_later, listed-elements, listed-arguments, Listed}
use Rattle.promise.specs.Rewriting.{form_lam, form_con, form_var, form_hol}
use Rattle.promise.specs.Readable.{terms_read}
use Rattle.promise.specs.Heads.{type_one, type_same, type_below, domains_base, domains_arrow, final_base, final_arrow, domains_none, each-left_nil, TermTag, is_lam, is_con, is_var, is_hol, term_tag, context_at, each_right_nil}
use Rattle.laws.specs.Tests.{false_true, both_true, either_true, tag_is}
use Rattle.laws.specs.Sound.{Sound, lambda_field, constant_head, hole_head, constant_list, variable_list, hole_list}

-- an argument of a list that checks
pub least_clean : (bound : ℕ) (off : ℕ → ℕ) (xs : List ℕ) → NONE ≤ least bound (map off xs) → AllL (λ x. NONE ≤ off x) xs × (NONE ≤ bound)
unfolding least
least_clean bound off [] h = (tt, h)
least_clean bound off (x ∷ xs) h = let r = least_clean bound off xs (omega arith) in ((omega arith, r.0), r.1)

-- different numbers
among_not : (xs : List ℕ) (x : ℕ) → among xs x ≡ false → AllL (λ y. y ≢ x) xs
unfolding among any either
among_not [] x e = tt
among_not (y ∷ ys) x e = go (eqb y x) refl (any (λ z. eqb z x) ys) refl (among_not ys x)
  where
    go : (a : Bool) → eqb y x ≡ a → (b : Bool) → any (λ z. eqb z x) ys ≡ b → (among ys x ≡ false → AllL (λ z. z ≢ x) ys) → (y ≢ x) × AllL (λ z. z ≢ x) ys
    go true p b q ih = absurd (false_true (sym (rw (p, any, either) at e)))
    go false p true q ih = absurd (false_true (sym (rw (p, q, any, either) at e)))
    go false p false q ih = (eqb-false y x p, ih q)

distinct_so : (xs : List ℕ) → distinct xs ≡ true → Distinct xs
unfolding distinct
distinct_so [] e = tt
distinct_so (x ∷ xs) e = let p = both_true _ _ e in (among_not xs x (not-true _ p.0), distinct_so xs p.1)

typed_as : {S : ℕ → Option Ty} {D : Sig} {G : List Ty} {t : Tree} {A B : Ty} → A ≡ B → HasTy S D G t (at B) → HasTy S D G t (at A)
typed_as e d = rw e d

module _ (ws : List ℕ) (n : ℕ) (g : Sound ws n) (small : n ≤ 4096) (S : ℕ → Option Ty) (D : Sig)
    (consts : (c : ℕ) → c < n → tag ws c ≡ KO → (A : Ty) × (S c ≡ some A) × ReadsTy ws n (field_a ws c) A)
    (holes : (h : ℕ) → h < n → tag ws h ≡ HO → (C : List Ty) × (b : ℕ) × (D h ≡ some (C, b)) × HoleAt ws n h C b) where
  abbrev Typed : List Ty → ℕ → ℕ → Ty → Type 0
  Typed G m x A = (t : Tree) × Reads ws m (one x) t × HasTy S D G t (at A)

  -- arguments that check take the head's type to its final type
  args_typed : (P : ℕ → Type 0) (ok : ℕ → ℕ → Bool) (G : List Ty) (m : ℕ) → ((x d : ℕ) (B : Ty) → P x → ok x d ≡ true → ReadsTy ws n d B → Typed G m x B)
      → (f head : ℕ) (A : Ty) (xs : List ℕ) → head < f → ReadsTy ws n head A → each ok xs (domains f ws head) ≡ true → AllL P xs
      → (a : Tree) × (b : ℕ) × Reads ws m (many xs) a × HasTy S D G a (args A b) × ReadsTy ws n (final_type f ws head) (base b)
  unfolding each
  args_typed P ok G m c zero head A xs h d e p = absurd (omega arith)
  args_typed P ok G m c (suc f) head (base b) xs h (ty_base l t x) e p =
      let z = each_right_nil ok xs (rw (domains_base ws head f t) at e) in
      (nil, b, rw z r_nil, t_nil, rw (final_base ws head f t) (ty_base l t x))
  args_typed P ok G m c (suc f) head (arr A B) xs h (ty_arr {a = a} {b = b} l t x y q r) e p =
      go xs p (rw (domains_arrow ws head f t, x, y) at e) (λ ys k. args_typed P ok G m c f b B ys (omega (arith, type_below r)) (type_later same_refl (lower l) r) k)
    where
      go : (xs : List ℕ) → AllL P xs → each ok xs (a ∷ domains f ws b) ≡ true
          → ((ys : List ℕ) → each ok ys (domains f ws b) ≡ true → AllL P ys
          → (u : Tree) × (k : ℕ) × Reads ws m (many ys) u × HasTy S D G u (args B k) × ReadsTy ws n (final_type f ws b) (base k))
          → (u : Tree) × (k : ℕ) × Reads ws m (many xs) u × HasTy S D G u (args (arr A B) k) × ReadsTy ws n (final_type (suc f) ws head) (base k)
      go [] p e ih = absurd (false_true e)
      go (z ∷ zs) p e ih =
          let k = both_true _ _ e in
          let w = c z a A p.0 k.0 (type_later same_refl (lower l) q) in
          let v = ih zs k.1 p.1 in
          (cons w.0 v.0, v.1, r_cons w.1 v.2, t_cons w.2 v.3, rw (final_arrow ws head f t, y) v.4)

  -- a bare variable that checks has exactly the type
  bare_so : (x : ℕ) → bare ws x ≡ true → (tag ws x ≡ VA) × (field_b ws x ≡ NONE)
  unfolding bare has
  bare_so x e = let p = both_true _ _ e in (eqb-true _ _ p.0, eqb-true _ _ p.1)

  bare_exact : (f : ℕ) (ctx : List ℕ) (x ty : ℕ) → tag ws x ≡ VA → field_b ws x ≡ NONE → checks f ws ctx x ty ≡ true
      → (field_a ws x < length ctx) × (get_or ctx (field_a ws x) 0 ≡ ty)
  unfolding checks check_term applied
  bare_exact zero ctx x ty e q c = absurd (false_true c)
  bare_exact (suc f) ctx x ty e q c =
      let c₁ = rw (form_var ws x e, check_term) at c in
      let p = both_true _ _ c₁ in
      let r = both_true _ _ p.1 in
      let y = each-left_nil _ _ (rw (listed-arguments {n = 0} x q (l_none refl)) at r.1) in
      (ltb-true _ _ p.0, sym (domains_none ws (get_or ctx (field_a ws x) 0) enough (omega arith) y) ∙ eqb-true _ _ r.0)

  -- a hole's arguments
  hole_args : (f : ℕ) (ctx : List ℕ) (G : List Ty) (m : ℕ) → ReadsTys ws n ctx G → (xs es : List ℕ) (C : List Ty) → ReadsTys ws n es C
      → AllL (λ x. x < m) xs → all (bare ws) xs ≡ true → each (fills (checks f ws) ws ctx) xs es ≡ true
      → Bares ws m xs (map (λ x. field_a ws x) xs) × Vars G (map (λ x. field_a ws x) xs) C
  unfolding each all fills
  hole_args f ctx G m k [] [] [] ty_nil l b c = (b_nil, v_nil)
  hole_args f ctx G m k [] [] (A ∷ C) r l b c = elim r [ ]
  hole_args f ctx G m k [] (e ∷ es) [] r l b c = elim r [ ]
  hole_args f ctx G m k [] (e ∷ es) (A ∷ C) (ty_cons d r) l b c = absurd (false_true c)
  hole_args f ctx G m k (x ∷ xs) [] [] ty_nil l b c = absurd (false_true c)
  hole_args f ctx G m k (x ∷ xs) [] (A ∷ C) r l b c = elim r [ ]
  hole_args f ctx G m k (x ∷ xs) (e ∷ es) [] r l b c = elim r [ ]
  hole_args f ctx G m k (x ∷ xs) (e ∷ es) (A ∷ C) (ty_cons d r) l b c =
      let p = both_true _ _ b in
      let q = both_true _ _ c in
      let w = bare_so x p.0 in
      let y = hole_args f ctx G m k xs es C r l.1 p.1 q.1 in
      (b_cons l.0 w.0 refl w.1 y.0, v_cons (at_type (exact w (either_true _ _ q.0))) y.1)
    where
      exact : (tag ws x ≡ VA) × (field_b ws x ≡ NONE)
          → (both (bare ws x) (both (ltb (field_a ws x) (length ctx)) (eqb (get_or ctx (field_a ws x) 0) e)) ≡ true) ⊎ (checks f ws ctx x e ≡ true)
          → (field_a ws x < length ctx) × (get_or ctx (field_a ws x) 0 ≡ e)
      exact w (inl z) = let a = both_true _ _ (both_true _ _ z).1 in (ltb-true _ _ a.0, eqb-true _ _ a.1)
      exact w (inr z) = bare_exact f ctx x e w.0 w.1 z

      at_type : (field_a ws x < length ctx) × (get_or ctx (field_a ws x) 0 ≡ e) → At G (field_a ws x) A
      at_type (a, z) = let y = context_at k (field_a ws x) a in rw (type_one d (rw z at y.2)) y.1

  -- a term that checks and holds no offence
  abbrev Passes : ℕ → ℕ → ℕ → Type 0
  Passes f r x = (x < r) × (is_term ws x ≡ true) × (NONE ≤ offence f ws x)

  passes : (f r : ℕ) (xs : List ℕ) → AllL (λ x. (x < r) × (is_term ws x ≡ true)) xs → AllL (λ x. NONE ≤ offence f ws x) xs → AllL (Passes f r) xs
  passes f r [] a b = tt
  passes f r (x ∷ xs) a b = ((a.0.0, a.0.1, b.0), passes f r xs a.1 b.1)

  -- what holds of the terms below r
  abbrev Below : ℕ → ℕ → Type 0
  Below f r = (ctx : List ℕ) (x ty : ℕ) (G : List Ty) (A : Ty) → x < r → is_term ws x ≡ true → ReadsTys ws n ctx G → ReadsTy ws n ty A
      → checks f ws ctx x ty ≡ true → NONE ≤ offence f ws x → Typed G (suc x) x A

  module _ (f : ℕ) (ctx : List ℕ) (r ty : ℕ) (G : List Ty) (A : Ty) (h : r < n) (k : ReadsTys ws n ctx G) (d : ReadsTy ws n ty A)
      (c : checks (suc f) ws ctx r ty ≡ true) (o : NONE ≤ offence (suc f) ws r) (ih : Below f r) where
    lam_typed : tag ws r ≡ LA → Typed G (suc r) r A
    unfolding checks check_term offence offence_in
    lam_typed e =
        let p = both_true _ _ (rw (form_lam ws r e, check_term) at c) in
        let q = rw (form_lam ws r e, offence_in) at o in
        let l = lambda_field ws n g r h e in
        go d p.0 p.1 q l
      where
        go : {B : Ty} → ReadsTy ws n ty B → has ws ty AR ≡ true → checks f ws (field_a ws ty ∷ ctx) (field_a ws r) (field_b ws ty) ≡ true
            → NONE ≤ offence f ws (field_a ws r) → (field_a ws r < r) × (is_term ws (field_a ws r) ≡ true) → Typed G (suc r) r B
        go (ty_base j t x) z y q l = absurd (let w : ◌≡◌ {A = ℕ} 1 2 = sym t ∙ tag_is ws ty AR z in omega arith)
        go (ty_arr {A = B} {B = C} j t x y u v) z w q l =
            let m = ih (field_a ws ty ∷ ctx) (field_a ws r) (field_b ws ty) (B ∷ G) C l.0 l.1 (ty_cons (rw x (type_later same_refl (lower j) u)) k)
            (rw y (type_later same_refl (lower j) v)) w q in
            (lam m.0, r_lam (le_refl _) e refl (reads_later same_refl l.0 m.1), t_lam m.2)

    -- a head of type `head`
    applied-typed : (head : ℕ) (H : Ty) (xs : List ℕ) → ReadsTy ws n head H → arguments ws r ≡ xs → AllL (Passes f r) xs
        → applied (λ ctx' r' ty'. checks f ws ctx' r' ty') ws head ctx r ty ≡ true
        → (a : Tree) × (b : ℕ) × Reads ws r (many xs) a × HasTy S D G a (args H b) × (A ≡ base b)
    unfolding applied
    applied-typed head H xs t e p q =
        let z = both_true _ _ q in
        let w = args_typed (Passes f r) (λ x ty'. checks f ws ctx x ty') G r
        (λ x ty' B y j b. let m = ih ctx x ty' G B y.0 y.1 k b j y.2 in (m.0, reads_later same_refl y.0 m.1, m.2))
        enough head H xs (omega (arith, type_below t)) t (rw e at z.1) p in
        (w.0, w.1, w.2, w.3, type_same d (eqb-true (final_type enough ws head) ty z.0) w.4)

    -- arguments that take a head of type H to the type of the whole
    abbrev Applies : Ty → List ℕ → Type 0
    Applies H xs = (a : Tree) × (b : ℕ) × Reads ws r (many xs) a × HasTy S D G a (args H b) × (A ≡ base b)

    con_built : (xs : List ℕ) (H : Ty) → tag ws r ≡ CA → Listed ws r (field_b ws r) xs → S (field_a ws r) ≡ some H → Applies H xs → Typed G (suc r) r A
    con_built xs H e l s (a, b, q, t, z) = (con (field_a ws r) a, r_con (le_refl _) e refl refl l q, typed_as z (t_con s t))

    var_built : (xs : List ℕ) (H : Ty) → tag ws r ≡ VA → Listed ws r (field_b ws r) xs → At G (field_a ws r) H → Applies H xs → Typed G (suc r) r A
    var_built xs H e l i (a, b, q, t, z) = (var (field_a ws r) a, r_var (le_refl _) e refl refl l q, typed_as z (t_var i t))

    con_typed : tag ws r ≡ CA → Typed G (suc r) r A
    unfolding checks check_term offence offence_in
    con_typed e =
        let x = terms_read ws n g small r (field_b ws r) (omega arith) (constant_list ws n g r h e) in
        let y = listed-arguments r refl x.1 in
        let q = rw (form_con ws r e, offence_in, y) at o in
        let l = constant_head ws n g r h e in
        let k = consts (field_a ws r) (omega (arith, l.0)) (tag_is ws _ _ l.1) in
        con_built x.0 k.0 e x.1 k.1
        (applied-typed (field_a ws (field_a ws r)) k.0 x.0 k.2 y
        (passes f r x.0 x.2 (least_clean NONE (λ w. offence f ws w) x.0 q).0) (rw (form_con ws r e, check_term) at c))

    var_typed : tag ws r ≡ VA → Typed G (suc r) r A
    unfolding checks check_term offence offence_in
    var_typed e =
        let x = terms_read ws n g small r (field_b ws r) (omega arith) (variable_list ws n g r h e) in
        let y = listed-arguments r refl x.1 in
        let q = rw (form_var ws r e, offence_in, y) at o in
        let p = both_true _ _ (rw (form_var ws r e, check_term) at c) in
        let w = context_at k (field_a ws r) (ltb-true _ _ p.0) in
        var_built x.0 w.0 e x.1 w.1
        (applied-typed (get_or ctx (field_a ws r) 0) w.0 x.0 w.2 y
        (passes f r x.0 x.2 (least_clean NONE (λ w. offence f ws w) x.0 q).0) p.1)

    -- no offence: the occurrence is a pattern
    is_pattern : NONE ≤ (elim (pattern ws r) as (λ _. ℕ) [ true ↦ NONE | false ↦ r ]) → pattern ws r ≡ true
    is_pattern l = go (pattern ws r) refl
      where
        go : (b : Bool) → pattern ws r ≡ b → pattern ws r ≡ true
        go true e = e
        go false e = absurd (let w : NONE ≤ r = rw e at l in omega arith)

    pattern_so : (xs : List ℕ) → arguments ws r ≡ xs → pattern ws r ≡ true → (all (bare ws) xs ≡ true) × Distinct (map (λ x. field_a ws x) xs)
    unfolding pattern variables
    pattern_so xs y e = let p = both_true _ _ e in (rw y at p.0, distinct_so (map (λ x. field_a ws x) xs) (rw y at p.1))

    hol_typed : tag ws r ≡ HA → Typed G (suc r) r A
    unfolding checks check_term offence offence_in
    hol_typed e =
        let x = terms_read ws n g small r (field_b ws r) (omega arith) (hole_list ws n g r h e) in
        let y = listed-arguments r refl x.1 in
        let q = is_pattern (least_clean _ (λ w. offence f ws w) (arguments ws r) (rw (form_hol ws r e, offence_in) at o)).1 in
        let v = pattern_so x.0 y q in
        let l = hole_head ws n g r h e in
        let p = both_true _ _ (rw (form_hol ws r e, check_term) at c) in
        let b = holes (field_a ws r) (omega (arith, l.0)) (tag_is ws _ _ l.1) in
        let i = b.3 in
        let els : elements ws (field_a ws (field_a ws r)) ≡ i.entries = ap (elements ws) i.first ∙ listed-elements i.listed in
        let z = hole_args f ctx G r k x.0 i.entries b.0 (types_later same_refl (lower i.low) i.context)
        (AllL-map (λ j w. w.0) x.0 x.2) v.0 (rw (y, els) at p.1) in
        let w : ReadsTy ws n ty (base b.1) = rw (sym (eqb-true (field_b ws (field_a ws r)) ty p.0) ∙ i.second) (type_later same_refl (lower i.low) i.result) in
        (hol (field_a ws r) (map (λ u. field_a ws u) x.0), r_hol (le_refl _) e refl refl x.1 z.0, typed_as (type_one d w) (t_hol b.2 z.1 v.1))

  pub typed_reads : (f : ℕ) (ctx : List ℕ) (r ty : ℕ) (G : List Ty) (A : Ty) → r < n → is_term ws r ≡ true → ReadsTys ws n ctx G → ReadsTy ws n ty A
      → checks f ws ctx r ty ≡ true → NONE ≤ offence f ws r → Typed G (suc r) r A
  unfolding checks
  typed_reads zero ctx r ty G A h i k d c o = absurd (false_true c)
  typed_reads (suc f) ctx r ty G A h i k d c o =
      go (term_tag ws r i) (λ ctx' x ty' G' A' l j a b e p. typed_reads f ctx' x ty' G' A' (omega arith) j a b e p)
    where
      go : TermTag ws r → Below f r → Typed G (suc r) r A
      go (is_lam e) ih = lam_typed f ctx r ty G A h k d c o ih e
      go (is_con e) ih = con_typed f ctx r ty G A h k d c o ih e
      go (is_var e) ih = var_typed f ctx r ty G A h k d c o ih e
      go (is_hol e) ih = hol_typed f ctx r ty G A h k d c o ih e
