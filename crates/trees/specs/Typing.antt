-- Typing: kept by typed injective renamings, reflected by renamings, and what a typed tree's variables and holes are.
use Rattle.std.specs.Prelude.{◌≡◌, refl, List, [], ◌∷◌, map, ◌≢◌, ℕ, zero, suc, ◌+◌, ◌<◌, length}
use Rattle.std.proofs.Common.{◌∙◌, ap, subst, arith}
use Rattle.std.proofs.Math.Option.{Option, some, none-ne-some}
use Rattle.trees.specs.Tree.{Ty, Tree, lam, con, var, hol, nil, cons, lift, ren, nth, AllL, lift_p, All, Holes, Distinct, Sig, At, Vars, v_nil, v_cons, Kind, HasTy, t_lam, t_con, t_var, t_hol, t_nil, t_cons, Fills, upto}
use Rattle.trees.specs.Moves.{Grows, liftp, map_m}
use Rattle.trees.specs.Free.{Scoped, AllL-map, AllL-both, scope_out, AllL-ren, AllL-ren-back}
use Rattle.trees.specs.Partial.{omap_inv, omap2_inv, InjBelow}
use Rattle.trees.specs.Filling.{Holes-map, Suits}
use Rattle.trees.specs.Narrow.{nth_inj}

-- different numbers, renamed
distinct-map : (f : ℕ → ℕ) (m : ℕ) → InjBelow f m → (xs : List ℕ) → AllL (λ j. j < m) xs → Distinct xs → Distinct (map f xs)
distinct-map f m i [] l d = tt
distinct-map f m i (x ∷ xs) l d = (
  AllL-ren (λ y. y ≢ f x) f xs (AllL-map (λ j k e. k.1 (i j x k.0 l.0 e)) xs (AllL-both (λ j. j < m) (λ y. y ≢ x) xs l.1 d.0)),
  distinct-map f m i xs l.1 d.1,
)

distinct-back : (f : ℕ → ℕ) (xs : List ℕ) → Distinct (map f xs) → Distinct xs
distinct-back f [] d = tt
distinct-back f (x ∷ xs) d =
    (AllL-map (λ j n e. n (ap f e)) xs (AllL-ren-back (λ y. y ≢ f x) f xs d.0), distinct-back f xs d.1)

inj_lift : (f : ℕ → ℕ) (m : ℕ) → InjBelow f m → InjBelow (lift f) (suc m)
inj_lift f m i zero zero a b e = refl
inj_lift f m i zero (suc k) a b e = absurd (omega arith)
inj_lift f m i (suc j) zero a b e = absurd (omega arith)
inj_lift f m i (suc j) (suc k) a b e = ap suc (i j k (omega arith) (omega arith) (omega arith))

-- a renaming from the context G to the context E
abbrev pub Renames : (ℕ → ℕ) → List Ty → List Ty → Type 0
Renames f G E = (v : ℕ) (A : Ty) → At G v A → At E (f v) A

renames_lift : (f : ℕ → ℕ) (G E : List Ty) (A : Ty) → Renames f G E → Renames (lift f) (A ∷ G) (A ∷ E)
renames_lift f G E A r zero B e = e
renames_lift f G E A r (suc v) B e = r v B e

pub At-lt : (G : List Ty) (v : ℕ) (A : Ty) → At G v A → v < length G
At-lt [] v A e = absurd (none-ne-some _ e)
At-lt (B ∷ G) zero A e = omega arith
At-lt (B ∷ G) (suc v) A e = omega (arith, At-lt G v A e)

vars_ren : (f : ℕ → ℕ) {G E : List Ty} → Renames f G E → {xs : List ℕ} {C : List Ty} → Vars G xs C → Vars E (map f xs) C
vars_ren f r v_nil = v_nil
vars_ren f r (v_cons {x} {A = A} e h) = v_cons (r x A e) (vars_ren f r h)

pub vars_nth : {G : List Ty} {xs : List ℕ} {C : List Ty} → Vars G xs C → Renames (nth xs) C G
vars_nth v_nil v A e = absurd (none-ne-some _ e)
vars_nth {G} (v_cons {x} {A = B} a h) zero A e = a ∙ e
vars_nth (v_cons a h) (suc v) A e = vars_nth h v A e

pub vars_below : {G : List Ty} {xs : List ℕ} {C : List Ty} → Vars G xs C → AllL (λ j. j < length G) xs
vars_below v_nil = tt
vars_below {G} (v_cons {x} {A = A} e h) = (At-lt G x A e, vars_below h)

pub vars_length : {G : List Ty} {xs : List ℕ} {C : List Ty} → Vars G xs C → length xs ≡ length C
vars_length v_nil = refl
vars_length (v_cons e h) = ap suc (vars_length h)

-- strengthening needs only that f reflects types at the variables that satisfy P
abbrev pub Reflects : (ℕ → Type 0) → (ℕ → ℕ) → List Ty → List Ty → Type 0
Reflects P f G E = (v : ℕ) (A : Ty) → P v → At E (f v) A → At G v A

reflects_lift : (P : ℕ → Type 0) (f : ℕ → ℕ) (G E : List Ty) (A : Ty) → Reflects P f G E → Reflects (lift_p P) (lift f) (A ∷ G) (A ∷ E)
reflects_lift P f G E A r zero B h e = e
reflects_lift P f G E A r (suc v) B h e = r v B h e

vars_back : (P : ℕ → Type 0) (f : ℕ → ℕ) (G E : List Ty) → Reflects P f G E → (xs : List ℕ) {C : List Ty} → AllL P xs → Vars E (map f xs) C → Vars G xs C
vars_back P f G E r [] h v_nil = v_nil
vars_back P f G E r (x ∷ xs) h (v_cons {A = A} e k) = v_cons (r x A h.0 e) (vars_back P f G E r xs h.1 k)

pub in_scope : (G : List Ty) (v : ℕ) → v < length G → (A : Ty) × At G v A
in_scope [] v k = absurd (omega arith)
in_scope (A ∷ G) zero k = (A, refl)
in_scope (A ∷ G) (suc v) k = in_scope G v (omega arith)

-- a typed renaming reflects the types of the variables in scope
pub renames_reflects : (f : ℕ → ℕ) (G E : List Ty) → Renames f G E → Reflects (λ v. v < length G) f G E
renames_reflects f G E r v A h e = let i = in_scope G v h in let x = r v i.0 i.1 in let y = i.1 in cc

-- an injective one
abbrev pub Embeds : (ℕ → ℕ) → List Ty → List Ty → Type 0
Embeds f G E = Renames f G E × InjBelow f (length G)

pub vars_embed : {G : List Ty} {xs : List ℕ} {C : List Ty} → Vars G xs C → Distinct xs → Embeds (nth xs) C G
vars_embed {xs = xs} v d = (vars_nth v, λ i j a b e. let l = vars_length v in nth_inj xs d i j (omega arith) (omega arith) e)

-- a partial map that takes the variables of G to those of C, no two to one
abbrev pub Takes : (ℕ → Option ℕ) → List Ty → List Ty → Type 0
Takes p G C =
    ((v w : ℕ) (A : Ty) → p v ≡ some w → At G v A → At C w A)
    × ((u v w : ℕ) → u < length G → v < length G → p u ≡ some w → p v ≡ some w → u ≡ v)

pub takes-lift : (p : ℕ → Option ℕ) (G C : List Ty) (A : Ty) → Takes p G C → Takes (liftp p) (A ∷ G) (A ∷ C)
takes-lift p G C A k = (types, one)
  where
    types : (v w : ℕ) (B : Ty) → liftp p v ≡ some w → At (A ∷ G) v B → At (A ∷ C) w B
    types zero w B e a = let z : 0 ≡ w = cc in rw (← z) a
    types (suc v) w B e a = let i = omap_inv suc (p v) w e in rw (← i.2) (k.0 v i.0 B i.1 a)

    one : (u v w : ℕ) → u < suc (length G) → v < suc (length G) → liftp p u ≡ some w → liftp p v ≡ some w → u ≡ v
    one zero zero w a b e f = refl
    one zero (suc v) w a b e f = let z : 0 ≡ w = cc in let i = omap_inv suc (p v) w f in absurd (omega (arith, i.2))
    one (suc u) zero w a b e f = let z : 0 ≡ w = cc in let i = omap_inv suc (p u) w e in absurd (omega (arith, i.2))
    one (suc u) (suc v) w a b e f =
        let i = omap_inv suc (p u) w e in
        let j = omap_inv suc (p v) w f in
        let z : i.0 ≡ j.0 = omega (arith, i.2, j.2) in
        ap suc (k.1 u v j.0 (omega arith) (omega arith) (i.1 ∙ ap some z) j.1)

-- the variables of a context, in order
zero_right : (i : ℕ) → i + 0 ≡ i
zero_right i = omega arith

shift : (i j : ℕ) → i + suc j ≡ suc i + j
shift i j = omega arith

zero_left : (j : ℕ) → j ≡ 0 + j
zero_left j = omega arith

vars_upto : (G C : List Ty) (i : ℕ) → ((j : ℕ) (A : Ty) → At C j A → At G (i + j) A) → Vars G (upto i (length C)) C
vars_upto G [] i h = v_nil
vars_upto G (A ∷ C) i h =
    v_cons {x = i} (subst (λ k. At G k A) (zero_right i) (h 0 A refl))
    (vars_upto G C (suc i) (λ j B e. subst (λ k. At G k B) (shift i j) (h (suc j) B e)))

pub vars_all : (C : List Ty) → Vars C (upto 0 (length C)) C
vars_all C = vars_upto C C 0 (λ j A e. subst (λ k. At C k A) (zero_left j) e)

vars_map_m : (p : ℕ → Option ℕ) (G C : List Ty) → Takes p G C → {xs : List ℕ} {B : List Ty} → Vars G xs B → (ys : List ℕ) → map_m p xs ≡ some ys
    → Vars C ys B
vars_map_m p G C k v_nil ys e = let z : [] ≡ ys = cc in rw (← z) v_nil
vars_map_m p G C k (v_cons {x} {xs} {A = A} a v) ys e =
    let i = omap2_inv ◌∷◌ (p x) (map_m p xs) ys e in
    rw (← i.4) (v_cons {x = i.0} (k.0 x i.0 A i.2 a) (vars_map_m p G C k v i.1 i.3))

distinct-map_m : (p : ℕ → Option ℕ) (G C : List Ty) → Takes p G C → (xs : List ℕ) → AllL (λ j. j < length G) xs → Distinct xs → (ys : List ℕ)
    → map_m p xs ≡ some ys → Distinct ys
distinct-map_m p G C k [] l d ys e = let z : [] ≡ ys = cc in rw (← z) tt
distinct-map_m p G C k (x ∷ xs) l d ys e =
    let i = omap2_inv ◌∷◌ (p x) (map_m p xs) ys e in
    rw (← i.4) (others xs l.1 d.0 i.1 i.0 i.2 i.3, distinct-map_m p G C k xs l.1 d.1 i.1 i.3)
  where
    others : (us : List ℕ) → AllL (λ j. j < length G) us → AllL (λ y. y ≢ x) us → (zs : List ℕ) (w : ℕ) → p x ≡ some w → map_m p us ≡ some zs
        → AllL (λ z. z ≢ w) zs
    others [] a b zs w q r = let z : [] ≡ zs = cc in rw (← z) tt
    others (u ∷ us) a b zs w q r =
        let j = omap2_inv ◌∷◌ (p u) (map_m p us) zs r in
        rw (← j.4) (
          λ y. b.0 (k.1 u x w a.0 l.0 (j.2 ∙ ap some y) q),
          others us a.1 b.1 j.1 w q j.3,
        )

-- the hole h is declared in D, and xs is a pattern of its arity
abbrev pub Declared : Sig → ℕ → List ℕ → Type 0
Declared D h xs = (C : List Ty) × (b : ℕ) × (D h ≡ some (C, b)) × (length xs ≡ length C) × Distinct xs

module _ (S : ℕ → Option Ty) where
  pub ren-typed : (D : Sig) (f : ℕ → ℕ) {G E : List Ty} → Embeds f G E → {t : Tree} {k : Kind} → HasTy S D G t k → HasTy S D E (ren f t) k
  ren-typed D f {E = E} r (t_lam {G} {A = A} d) =
      t_lam (ren-typed D (lift f) (renames_lift f G E A r.0, inj_lift f (length G) r.1) d)
  ren-typed D f r (t_con e d) = t_con e (ren-typed D f r d)
  ren-typed D f r (t_var {v = v} {A = A} e d) = t_var (r.0 v A e) (ren-typed D f r d)
  ren-typed D f r (t_hol {G} {xs = xs} e v d) = t_hol e (vars_ren f r.0 v) (distinct-map f (length G) r.1 xs (vars_below v) d)
  ren-typed D f r t_nil = t_nil
  ren-typed D f r (t_cons d e) = t_cons (ren-typed D f r d) (ren-typed D f r e)

  pub strengthen : (D : Sig) (P : ℕ → Type 0) (f : ℕ → ℕ) (G E : List Ty) → Reflects P f G E → (s : Tree) {k : Kind} → All P s
      → HasTy S D E (ren f s) k → HasTy S D G s k
  strengthen D P f G E r (lam s) h (t_lam {A = A} d) = t_lam (strengthen D (lift_p P) (lift f) (A ∷ G) (A ∷ E) (reflects_lift P f G E A r) s h d)
  strengthen D P f G E r (con c a) h (t_con e d) = t_con e (strengthen D P f G E r a h d)
  strengthen D P f G E r (var v a) h (t_var {A = A} e d) = t_var (r v A h.0 e) (strengthen D P f G E r a h.1 d)
  strengthen D P f G E r (hol i xs) h (t_hol e v d) = t_hol e (vars_back P f G E r xs h v) (distinct-back f xs d)
  strengthen D P f G E r nil h t_nil = t_nil
  strengthen D P f G E r (cons t a) h (t_cons d e) = t_cons (strengthen D P f G E r t h.0 d) (strengthen D P f G E r a h.1 e)

  -- more holes declared
  pub typed-more : (D E : Sig) → Grows D E → {G : List Ty} {t : Tree} {k : Kind} → HasTy S D G t k → HasTy S E G t k
  typed-more D E g (t_lam d) = t_lam (typed-more D E g d)
  typed-more D E g (t_con e d) = t_con e (typed-more D E g d)
  typed-more D E g (t_var e d) = t_var e (typed-more D E g d)
  typed-more D E g (t_hol {h = h} {C = C} {b = b} e v d) = t_hol (g h (C, b) e) v d
  typed-more D E g t_nil = t_nil
  typed-more D E g (t_cons d e) = t_cons (typed-more D E g d) (typed-more D E g e)

  -- the free variables of a typed tree are below the context's length, and its holes are declared
  pub typed_scoped : (D : Sig) {G : List Ty} {t : Tree} {k : Kind} → HasTy S D G t k → Scoped (length G) t
  typed_scoped D (t_lam {G} {t} d) = scope_out (length G) t (typed_scoped D d)
  typed_scoped D (t_con e d) = typed_scoped D d
  typed_scoped D (t_var {G} {v} {A = A} e d) = (At-lt G v A e, typed_scoped D d)
  typed_scoped D (t_hol e v d) = vars_below v
  typed_scoped D t_nil = tt
  typed_scoped D (t_cons d e) = (typed_scoped D d, typed_scoped D e)

  pub typed-holes : (D : Sig) {G : List Ty} {t : Tree} {k : Kind} → HasTy S D G t k → Holes (Declared D) t
  typed-holes D (t_lam d) = typed-holes D d
  typed-holes D (t_con e d) = typed-holes D d
  typed-holes D (t_var e d) = typed-holes D d
  typed-holes D (t_hol {C = C} {b} e v d) = (C, b, e, vars_length v, d)
  typed-holes D t_nil = tt
  typed-holes D (t_cons d e) = (typed-holes D d, typed-holes D e)

  -- what fills a declared hole is in its scope
  pub fills_scoped : (D X : Sig) (θ : ℕ → Tree) → Fills S D X θ → (h : ℕ) (xs : List ℕ) → Declared D h xs → Scoped (length xs) (θ h)
  fills_scoped D X θ w h xs (C, b, e, l, d) = rw l (typed_scoped X (w h C b e))

  pub fills_suits : (D X : Sig) (θ : ℕ → Tree) → Fills S D X θ → (t : Tree) → Holes (Declared D) t → Suits θ t
  fills_suits D X θ w t k = Holes-map (fills_scoped D X θ w) t k

  -- an occurrence, read through a partial map
  pub hol_map_m : (D : Sig) (p : ℕ → Option ℕ) (G C : List Ty) → Takes p G C → (h : ℕ) (xs ys : List ℕ) (k : Kind) → map_m p xs ≡ some ys
      → HasTy S D G (hol h xs) k → HasTy S D C (hol h ys) k
  hol_map_m D p G C t h xs ys k m (t_hol e v d) = t_hol e (vars_map_m p G C t v ys m) (distinct-map_m p G C t xs (vars_below v) d ys m)
