-- Typing passes the checks: a term whose tree is typed checks at the type and holds no offence.
use Prim.Native.Nat.{ℕ, zero, suc, ◌<◌, ◌≤◌}
use mathlib.Core.Path.{◌≡◌, refl, sym, ap, ◌∙◌}
use mathlib.Core.List.{List, [], ◌∷◌, map}
use Rattle.std.specs.Prelude.{Bool, not, ◌≢◌, length, get_or}
use Rattle.std.proofs.Math.Bool.{true, false}
use mathlib.Core.Option.{Option, some, some-injective}
use Rattle.std.proofs.Common.{arith}
use Rattle.std.proofs.Math.Nat.{le_refl}
use borrow.Author.Tests.{lt-ltb, eq-eqb, ne_eqb, eqb-true}
use Rattle.rules.specs.Lists.{either, all, any, each, among, distinct, least, enough}
use Rattle.rules.specs.Words.{tag, field_a, field_b, NONE, AR, KO, HO, LA, CA, VA, HA, is_term, elements, arguments, variables, bare}
use Rattle.rules.specs.Typing.{final_type, domains, applied, fills, check_term, checks}
use Rattle.rules.specs.Pattern.{pattern, offence_in, offence}
use Rattle.laws.specs.Tests.{both_true, both_yes, either_left, has_yes, tag_is}
use Rattle.laws.specs.Sound.{Sound, lambda_field, constant_head, hole_head, constant_list, variable_list}
use Rattle.trees.specs.Tree.{Ty, base, arr, Tree, lam, con, var, hol, nil, AllL, Distinct, Kind, at, args, At, Vars, v_nil, v_cons, Sig, HasTy, t_lam, t_con, t_var, t_hol, t_nil, t_cons}
use Rattle.trees.proofs.Leads.{declared_once}
use Rattle.promise.specs.Table.{spine, tree_at}
use Rattle.promise.specs.Reading.{l_none, ReadsTy, ty_base, ty_arr, ReadsTys, ty_nil, ty_cons, HoleAt, same_refl, lower, type_later, types_later, listed-elements, listed-arguments}
use Rattle.promise.specs.Rewriting.{form_lam, form_con, form_var, form_hol}
use Rattle.promise.specs.Readable.{terms_read}
use Rattle.promise.specs.Types.{type_record}
use Rattle.promise.specs.Heads.{domains_base, domains_arrow, final_base, final_arrow, type_below, TermTag, is_lam, is_con, is_var, is_hol, term_tag}

pub clean_least : (bound : ℕ) (off : ℕ → ℕ) (xs : List ℕ) → AllL (λ x. NONE ≤ off x) xs → NONE ≤ bound → NONE ≤ least bound (map off xs)
unfolding least
clean_least bound off [] a h = h
clean_least bound off (x ∷ xs) a h = let k = clean_least bound off xs a.1 h in let j = a.0 in omega arith

not_among : (xs : List ℕ) (x : ℕ) → AllL (λ y. y ≢ x) xs → among xs x ≡ false
unfolding among any either
not_among [] x a = refl
not_among (y ∷ ys) x a = rw (ne_eqb y x a.0) (not_among ys x a.1)

so_distinct : (xs : List ℕ) → Distinct xs → distinct xs ≡ true
unfolding distinct
so_distinct [] d = refl
so_distinct (x ∷ xs) d = both_yes _ _ (ap not (not_among xs x d.0)) (so_distinct xs d.1)

-- a typed variable is one of the context, at exactly its type
at_context : {ws : List ℕ} {n : ℕ} {ctx : List ℕ} {G : List Ty} → ReadsTys ws n ctx G → (v : ℕ) (A : Ty) → At G v A → (v < length ctx) × ReadsTy ws n (get_or ctx v 0) A
at_context ty_nil v A e = absurd (let z = e in let y : ◌≡◌ {A = ℕ} 0 1 = cc in omega arith)
at_context {ws} {n} (ty_cons {x = x} d r) zero A e = (omega arith, mathlib.Core.Path.subst (ReadsTy ws n x) (mathlib.Core.Option.some-injective _ _ e) d)
at_context (ty_cons d r) (suc v) A e = let z = at_context r v A e in (omega (arith, z.0), z.1)

-- no term, no type
nil_args : {S : ℕ → Option Ty} {D : Sig} {G : List Ty} {k : Kind} → HasTy S D G nil k → (b : ℕ) × (k ≡ args (base b) b)
nil_args (t_nil {b = b}) = (b, refl)

nil_untyped : {S : ℕ → Option Ty} {D : Sig} {G : List Ty} {A : Ty} → HasTy S D G nil (at A) → ⊥
nil_untyped {A = A} d = let x = nil_args d in let y : at A ≡ args (base x.0) x.0 = x.1 in let z : ◌≡◌ {A = ℕ} 0 1 = cc in omega arith

module _ (ws : List ℕ) (n : ℕ) (g : Sound ws n) (small : n ≤ 4096) (S : ℕ → Option Ty) (D : Sig)
    (consts : (c : ℕ) → c < n → tag ws c ≡ KO → (A : Ty) × (S c ≡ some A) × ReadsTy ws n (field_a ws c) A)
    (holes : (h : ℕ) → h < n → tag ws h ≡ HO → (C : List Ty) × (b : ℕ) × (D h ≡ some (C, b)) × HoleAt ws n h C b) where
  abbrev Checks : ℕ → List ℕ → ℕ → ℕ → Type 0
  Checks f ctx r ty = (checks f ws ctx r ty ≡ true) × (NONE ≤ offence f ws r)

  -- typed arguments check at what the head asks, and the head's final type is that of the whole
  args_check : (P : ℕ → Type 0) (ok : ℕ → ℕ → Bool) (off : ℕ → ℕ) (tree : ℕ → Tree) (G : List Ty)
      → ((x d : ℕ) (B : Ty) → P x → HasTy S D G (tree x) (at B) → ReadsTy ws n d B → (ok x d ≡ true) × (NONE ≤ off x))
      → (f head : ℕ) (H : Ty) (b : ℕ) (xs : List ℕ) → head < f → ReadsTy ws n head H → HasTy S D G (spine tree xs) (args H b) → AllL P xs
      → (each ok xs (domains f ws head) ≡ true) × AllL (λ x. NONE ≤ off x) xs × ReadsTy ws n (final_type f ws head) (base b)
  unfolding each spine
  args_check P ok off tree G c zero head H b xs h d t p = absurd (omega arith)
  args_check P ok off tree G c (suc f) head (base k) b [] h (ty_base l e x) t_nil p =
      (rw (domains_base ws head f e), tt, rw (final_base ws head f e) (ty_base l e x))
  args_check P ok off tree G c (suc f) head (arr A B) b (z ∷ zs) h (ty_arr {a = a} {b = k} l e x y q r) (t_cons t u) p =
      let w = c z a A p.0 t (type_later same_refl (lower l) q) in
      let v = args_check P ok off tree G c f k B b zs (omega (arith, type_below r)) (type_later same_refl (lower l) r) u p.1 in
      (rw (domains_arrow ws head f e, x, y) (both_yes _ _ w.0 v.0), (w.1, v.1), rw (final_arrow ws head f e, y) v.2)
  args_check P ok off tree G c (suc f) head (base k) b (z ∷ zs) h d t p = elim t [ ]
  args_check P ok off tree G c (suc f) head (arr A B) b [] h d t p = elim t [ ]

  abbrev Term : ℕ → ℕ → Type 0
  Term r x = (x < r) × (is_term ws x ≡ true)

  -- what holds of the terms below r
  abbrev Below : ℕ → ℕ → Type 0
  Below f r = (ctx : List ℕ) (x ty : ℕ) (G : List Ty) (A : Ty) → Term r x → ReadsTys ws n ctx G → ReadsTy ws n ty A → HasTy S D G (tree_at f ws x) (at A)
      → Checks f ctx x ty

  module _ (f : ℕ) (ctx : List ℕ) (r ty : ℕ) (G : List Ty) (h : r < n) (k : ReadsTys ws n ctx G) (ih : Below f r) where
    lam_check : {A : Ty} → tag ws r ≡ LA → ReadsTy ws n ty A → HasTy S D G (lam (tree_at f ws (field_a ws r))) (at A) → Checks (suc f) ctx r ty
    unfolding checks check_term offence offence_in
    lam_check e (ty_arr {A = A} {B = B} l t x y u v) (t_lam d) =
        let z = ih (field_a ws ty ∷ ctx) (field_a ws r) (field_b ws ty) (A ∷ G) B (lambda_field ws n g r h e) (ty_cons (rw x (type_later same_refl (lower l) u)) k)
        (rw y (type_later same_refl (lower l) v)) d in
        (rw (form_lam ws r e, check_term) (both_yes _ _ (has_yes ws ty AR t) z.0), rw (form_lam ws r e, offence_in) z.1)
    lam_check e (ty_base _ _ _) t = elim t [ ]

    -- a head of type `head`
    applied_check : (head : ℕ) (H : Ty) (b : ℕ) (xs : List ℕ) → ReadsTy ws n head H → ReadsTy ws n ty (base b) → arguments ws r ≡ xs → AllL (Term r) xs
        → HasTy S D G (spine (λ x. tree_at f ws x) xs) (args H b)
        → (applied (λ ctx' r' ty'. checks f ws ctx' r' ty') ws head ctx r ty ≡ true) × (NONE ≤ least NONE (map (λ x. offence f ws x) (arguments ws r)))
    unfolding applied
    applied_check head H b xs t d e p q =
        let w = args_check (Term r) (λ x ty'. checks f ws ctx x ty') (λ x. offence f ws x) (λ x. tree_at f ws x) G
        (λ x ty' B y j i. ih ctx x ty' G B y k i j) enough head H b xs (omega (arith, type_below t)) t q p in (
          both_yes _ _ (eq-eqb _ _ (type_record ws n g (le_refl n) (le_refl n) w.2 d)) (rw e w.0),
          rw e (clean_least NONE (λ x. offence f ws x) xs w.1 (le_refl _)),
        )

    con_check : {A : Ty} → tag ws r ≡ CA → ReadsTy ws n ty A → HasTy S D G (con (field_a ws r) (spine (λ x. tree_at f ws x) (arguments ws r))) (at A) → Checks (suc f) ctx r ty
    unfolding checks check_term offence offence_in
    con_check e d (t_con {A = H} {b = b} j q) =
        let x = terms_read ws n g small r (field_b ws r) (omega arith) (constant_list ws n g r h e) in
        let y = listed-arguments r refl x.1 in
        let l = constant_head ws n g r h e in
        let m = consts (field_a ws r) (omega (arith, l.0)) (tag_is ws _ _ l.1) in
        let i : H ≡ m.0 = some-injective _ _ (sym j ∙ m.1) in
        let z = applied_check (field_a ws (field_a ws r)) H b x.0 (rw i m.2) d y x.2 (rw y at q) in
        (rw (form_con ws r e, check_term) z.0, rw (form_con ws r e, offence_in) z.1)

    var_check : {A : Ty} → tag ws r ≡ VA → ReadsTy ws n ty A → HasTy S D G (var (field_a ws r) (spine (λ x. tree_at f ws x) (arguments ws r))) (at A) → Checks (suc f) ctx r ty
    unfolding checks check_term offence offence_in
    var_check e d (t_var {A = H} {b = b} i q) =
        let x = terms_read ws n g small r (field_b ws r) (omega arith) (variable_list ws n g r h e) in
        let y = listed-arguments r refl x.1 in
        let w = at_context k (field_a ws r) H i in
        let z = applied_check (get_or ctx (field_a ws r) 0) H b x.0 w.1 d y x.2 (rw y at q) in
        (rw (form_var ws r e, check_term) (both_yes _ _ (lt-ltb _ _ w.0) z.0), rw (form_var ws r e, offence_in) z.1)

    -- a hole's arguments, bare variables of exactly the context's types
    fills_check : (xs : List ℕ) {es : List ℕ} {C : List Ty} → Vars G (map (λ x. field_a ws x) xs) C → ReadsTys ws n es C → all (bare ws) xs ≡ true
        → each (fills (λ ctx' r' ty'. checks f ws ctx' r' ty') ws ctx) xs es ≡ true
    unfolding each all fills
    fills_check [] v_nil ty_nil b = refl
    fills_check (x ∷ xs) (v_cons {A = A} i v) (ty_cons d q) b =
        let p = both_true _ _ b in
        let w = at_context k (field_a ws x) A i in
        let z = both_yes _ _ p.0 (both_yes _ _ (lt-ltb _ _ w.0) (eq-eqb _ _ (type_record ws n g (le_refl n) (le_refl n) w.1 d))) in
        both_yes _ _ (either_left _ _ z) (fills_check xs v q p.1)

    -- a bare variable holds no offence
    bare_clean : (j x : ℕ) → bare ws x ≡ true → NONE ≤ offence j ws x
    unfolding offence offence_in bare arguments least
    bare_clean zero x e = le_refl _
    bare_clean (suc j) x e =
        let p = both_true _ _ e in
        rw (form_var ws x (tag_is ws x VA p.0), offence_in, eqb-true (field_b ws x) NONE p.1, listed-elements {n = 0} (l_none refl)) (le_refl _)

    all_clean : (xs : List ℕ) → all (bare ws) xs ≡ true → AllL (λ x. NONE ≤ offence f ws x) xs
    unfolding all
    all_clean [] e = tt
    all_clean (x ∷ xs) e = let p = both_true _ _ e in (bare_clean f x p.0, all_clean xs p.1)

    is_pattern : all (bare ws) (arguments ws r) ≡ true → Distinct (variables ws r) → pattern ws r ≡ true
    unfolding pattern
    is_pattern a m = both_yes _ _ a (so_distinct _ m)

    hol_check : {A : Ty} → tag ws r ≡ HA → all (bare ws) (arguments ws r) ≡ true → ReadsTy ws n ty A → HasTy S D G (hol (field_a ws r) (variables ws r)) (at A) → Checks (suc f) ctx r ty
    unfolding checks check_term offence offence_in variables
    hol_check e a d (t_hol {C = C} {b = b} q v m) =
        let l = hole_head ws n g r h e in
        let o = holes (field_a ws r) (omega (arith, l.0)) (tag_is ws _ _ l.1) in
        let i = o.3 in
        let c = declared_once (sym q ∙ o.2) in
        let els : elements ws (field_a ws (field_a ws r)) ≡ i.entries = ap (elements ws) i.first ∙ listed-elements i.listed in
        let t : ReadsTys ws n i.entries C = rw c.0 (types_later same_refl (lower i.low) i.context) in
        let u : ReadsTy ws n i.at (base b) = rw c.1 (type_later same_refl (lower i.low) i.result) in (
          rw (form_hol ws r e, check_term, els)
              (both_yes _ _ (eq-eqb _ _ (i.second ∙ type_record ws n g (le_refl n) (le_refl n) u d)) (fills_check (arguments ws r) v t a)),
          rw (form_hol ws r e, offence_in, is_pattern a m) (clean_least NONE (λ x. offence f ws x) (arguments ws r) (all_clean (arguments ws r) a) (le_refl _)),
        )

    hole_tree : tag ws r ≡ HA → {A : Ty} → ReadsTy ws n ty A → HasTy S D G (tree_at (suc f) ws r) (at A) → Checks (suc f) ctx r ty
    unfolding tree_at
    hole_tree e {A} d t = go (all (bare ws) (arguments ws r)) refl
      where
        go : (b : Bool) → all (bare ws) (arguments ws r) ≡ b → Checks (suc f) ctx r ty
        go true q = hol_check e q d (rw (form_hol ws r e, tree_at, q) at t)
        go false q = absurd (nil_untyped (rw (form_hol ws r e, tree_at, q) at t))

  pub typed-checks : (f : ℕ) (ctx : List ℕ) (r ty : ℕ) (G : List Ty) (A : Ty) → r < n → is_term ws r ≡ true → ReadsTys ws n ctx G → ReadsTy ws n ty A
      → HasTy S D G (tree_at f ws r) (at A) → Checks f ctx r ty
  unfolding tree_at
  typed-checks zero ctx r ty G A h i k d t = absurd (nil_untyped t)
  typed-checks (suc f) ctx r ty G A h i k d t =
      go (term_tag ws r i) (λ ctx' x ty' G' A' j a b c. typed-checks f ctx' x ty' G' A' (omega (arith, j.0)) j.1 a b c)
    where
      go : TermTag ws r → Below f r → Checks (suc f) ctx r ty
      go (is_lam e) ih = lam_check f ctx r ty G h k ih e d (rw (form_lam ws r e, tree_at) at t)
      go (is_con e) ih = con_check f ctx r ty G h k ih e d (rw (form_con ws r e, tree_at) at t)
      go (is_var e) ih = var_check f ctx r ty G h k ih e d (rw (form_var ws r e, tree_at) at t)
      go (is_hol e) ih = hole_tree f ctx r ty G h k ih e d t
