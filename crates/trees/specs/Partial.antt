-- Partial renaming `pren p t`: defined where p is defined on every free variable of t.
use Rattle.std.specs.Prelude.{◌≡◌, refl, List, [], ◌∷◌, map, ◌≢◌, ℕ, zero, suc, ◌<◌}
use Rattle.std.proofs.Common.{sym, ◌∙◌, ap, ap₂, arith}
use Rattle.std.proofs.Math.Path.{fun_ext}
use Rattle.std.proofs.Math.Option.{Option, none, some, some-injective, none-ne-some}
use Rattle.std.proofs.Math.Decide.{ℕ_discrete}
use Rattle.trees.specs.Tree.{Tree, lam, con, var, hol, nil, cons, lift, ren, AllL, lift_p, All}
use Rattle.trees.specs.Moves.{omap, omap2, liftp, map_m, pren, Def}
use Rattle.trees.specs.Renaming.{ren_id}
use Rattle.trees.specs.Free.{Scoped, All-map}

-- inversion of the two maps; with these each constructor's inversion is one call
pub omap_inv : {A B : Type 0} (f : A → B) (x : Option A) (b : B) → omap f x ≡ some b → (a : A) × (x ≡ some a) × (f a ≡ b)
omap_inv f none b e = absurd (none-ne-some _ e)
omap_inv f (some a) b e = (a, refl, some-injective (f a) b e)

pub omap2_inv : {A B C : Type 0} (f : A → B → C) (x : Option A) (y : Option B) (c : C) → omap2 f x y ≡ some c
    → (a : A) × (b : B) × (x ≡ some a) × (y ≡ some b) × (f a b ≡ c)
omap2_inv f none y c e = absurd (none-ne-some _ e)
omap2_inv f (some a) none c e = absurd (none-ne-some _ e)
omap2_inv f (some a) (some b) c e = (a, b, refl, refl, some-injective (f a b) c e)

-- inversion at each constructor
pub pren_lam_inv : (p : ℕ → Option ℕ) (t s : Tree) → pren p (lam t) ≡ some s
    → (u : Tree) × (pren (liftp p) t ≡ some u) × (lam u ≡ s)
pren_lam_inv p t s e = omap_inv lam (pren (liftp p) t) s e

pub pren_con_inv : (p : ℕ → Option ℕ) (c : ℕ) (a s : Tree) → pren p (con c a) ≡ some s
    → (u : Tree) × (pren p a ≡ some u) × (con c u ≡ s)
pren_con_inv p c a s e = omap_inv (con c) (pren p a) s e

pub pren_var_inv : (p : ℕ → Option ℕ) (v : ℕ) (a s : Tree) → pren p (var v a) ≡ some s
    → (w : ℕ) × (u : Tree) × (p v ≡ some w) × (pren p a ≡ some u) × (var w u ≡ s)
pren_var_inv p v a s e = omap2_inv var (p v) (pren p a) s e

pub pren_hol_inv : (p : ℕ → Option ℕ) (h : ℕ) (xs : List ℕ) (s : Tree) → pren p (hol h xs) ≡ some s
    → (ys : List ℕ) × (map_m p xs ≡ some ys) × (hol h ys ≡ s)
pren_hol_inv p h xs s e = omap_inv (hol h) (map_m p xs) s e

pub pren_cons_inv : (p : ℕ → Option ℕ) (t a s : Tree) → pren p (cons t a) ≡ some s
    → (u : Tree) × (b : Tree) × (pren p t ≡ some u) × (pren p a ≡ some b) × (cons u b ≡ s)
pren_cons_inv p t a s e = omap2_inv cons (pren p t) (pren p a) s e

-- after a renaming
liftp-lift : (p : ℕ → Option ℕ) (f : ℕ → ℕ) → (λ n. liftp p (lift f n)) ≡ liftp (λ n. p (f n))
liftp-lift p f = fun_ext (elim [ zero ↦ refl | suc n ↦ refl ])

map_m-map : (p : ℕ → Option ℕ) (f : ℕ → ℕ) (xs : List ℕ) → map_m p (map f xs) ≡ map_m (λ n. p (f n)) xs
map_m-map p f [] = refl
map_m-map p f (x ∷ xs) = ap (omap2 ◌∷◌ (p (f x))) (map_m-map p f xs)

pub pren-ren : (p : ℕ → Option ℕ) (f : ℕ → ℕ) (t : Tree) → pren p (ren f t) ≡ pren (λ n. p (f n)) t
pren-ren p f (lam t) = ap (omap lam) (pren-ren (liftp p) (lift f) t ∙ ap (λ q. pren q t) (liftp-lift p f))
pren-ren p f (con c a) = ap (omap (con c)) (pren-ren p f a)
pren-ren p f (var v a) = ap (omap2 var (p (f v))) (pren-ren p f a)
pren-ren p f (hol h xs) = ap (omap (hol h)) (map_m-map p f xs)
pren-ren p f nil = refl
pren-ren p f (cons t a) = ap₂ (omap2 cons) (pren-ren p f t) (pren-ren p f a)

-- where p is the renaming f, pren p is ren f
liftp_some : (p : ℕ → Option ℕ) (f : ℕ → ℕ) (j : ℕ) → lift_p (λ i. p i ≡ some (f i)) j → liftp p j ≡ some (lift f j)
liftp_some p f zero h = refl
liftp_some p f (suc j) h = ap (omap suc) h

map_m_some : (p : ℕ → Option ℕ) (f : ℕ → ℕ) (xs : List ℕ) → AllL (λ i. p i ≡ some (f i)) xs → map_m p xs ≡ some (map f xs)
map_m_some p f [] h = refl
map_m_some p f (x ∷ xs) h = ap₂ (omap2 ◌∷◌) h.0 (map_m_some p f xs h.1)

pub pren_some : (p : ℕ → Option ℕ) (f : ℕ → ℕ) (t : Tree) → All (λ j. p j ≡ some (f j)) t → pren p t ≡ some (ren f t)
pren_some p f (lam t) h = ap (omap lam) (pren_some (liftp p) (lift f) t (All-map (liftp_some p f) t h))
pren_some p f (con c a) h = ap (omap (con c)) (pren_some p f a h)
pren_some p f (var v a) h = ap₂ (omap2 var) h.0 (pren_some p f a h.1)
pren_some p f (hol i xs) h = ap (omap (hol i)) (map_m_some p f xs h)
pren_some p f nil h = refl
pren_some p f (cons t a) h = ap₂ (omap2 cons) (pren_some p f t h.0) (pren_some p f a h.1)

-- two partial maps that agree on the free variables
liftp_agree : (p q : ℕ → Option ℕ) (j : ℕ) → lift_p (λ i. p i ≡ q i) j → liftp p j ≡ liftp q j
liftp_agree p q zero h = refl
liftp_agree p q (suc j) h = ap (omap suc) h

map_m_agree : (p q : ℕ → Option ℕ) (xs : List ℕ) → AllL (λ i. p i ≡ q i) xs → map_m p xs ≡ map_m q xs
map_m_agree p q [] h = refl
map_m_agree p q (x ∷ xs) h = ap₂ (omap2 ◌∷◌) h.0 (map_m_agree p q xs h.1)

pub pren_agree : (p q : ℕ → Option ℕ) (t : Tree) → All (λ j. p j ≡ q j) t → pren p t ≡ pren q t
pren_agree p q (lam t) h = ap (omap lam) (pren_agree (liftp p) (liftp q) t (All-map (liftp_agree p q) t h))
pren_agree p q (con c a) h = ap (omap (con c)) (pren_agree p q a h)
pren_agree p q (var v a) h = ap₂ (omap2 var) h.0 (pren_agree p q a h.1)
pren_agree p q (hol i xs) h = ap (omap (hol i)) (map_m_agree p q xs h)
pren_agree p q nil h = refl
pren_agree p q (cons t a) h = ap₂ (omap2 cons) (pren_agree p q t h.0) (pren_agree p q a h.1)

-- p a left inverse of f on the free variables of t
pub pren-left : (p : ℕ → Option ℕ) (f : ℕ → ℕ) (t : Tree) → All (λ j. p (f j) ≡ some j) t → pren p (ren f t) ≡ some t
pren-left p f t h = pren-ren p f t ∙ pren_some (λ n. p (f n)) (λ n. n) t h ∙ ap some (ren_id t)

-- f a right inverse of p
abbrev pub RightInv : (ℕ → Option ℕ) → (ℕ → ℕ) → Type 0
RightInv p f = (v w : ℕ) → p v ≡ some w → f w ≡ v

liftp_right : (p : ℕ → Option ℕ) (f : ℕ → ℕ) → RightInv p f → RightInv (liftp p) (lift f)
liftp_right p f r zero w e = let z : w ≡ 0 = cc in rw z refl
liftp_right p f r (suc v) w e =
    let i = omap_inv suc (p v) w e in rw (← i.2) (ap suc (r v i.0 i.1))

map_m_right : (p : ℕ → Option ℕ) (f : ℕ → ℕ) → RightInv p f → (xs ys : List ℕ) → map_m p xs ≡ some ys → map f ys ≡ xs
map_m_right p f r [] ys e = let z : ys ≡ [] = cc in rw z refl
map_m_right p f r (x ∷ xs) ys e =
    let i = omap2_inv ◌∷◌ (p x) (map_m p xs) ys e in
    rw (← i.4) (ap₂ ◌∷◌ (r x i.0 i.2) (map_m_right p f r xs i.1 i.3))

pub pren_right : (p : ℕ → Option ℕ) (f : ℕ → ℕ) → RightInv p f → (t s : Tree) → pren p t ≡ some s → ren f s ≡ t
pren_right p f r (lam t) s e =
    let i = pren_lam_inv p t s e in
    rw (← i.2) (ap lam (pren_right (liftp p) (lift f) (liftp_right p f r) t i.0 i.1))
pren_right p f r (con c a) s e =
    let i = pren_con_inv p c a s e in rw (← i.2) (ap (con c) (pren_right p f r a i.0 i.1))
pren_right p f r (var v a) s e =
    let i = pren_var_inv p v a s e in
    rw (← i.4) (ap₂ var (r v i.0 i.2) (pren_right p f r a i.1 i.3))
pren_right p f r (hol h xs) s e =
    let i = pren_hol_inv p h xs s e in rw (← i.2) (ap (hol h) (map_m_right p f r xs i.0 i.1))
pren_right p f r nil s e = let z : s ≡ nil = cc in rw z refl
pren_right p f r (cons t a) s e =
    let i = pren_cons_inv p t a s e in
    rw (← i.4) (ap₂ cons (pren_right p f r t i.0 i.2) (pren_right p f r a i.1 i.3))

-- defined: p is defined on every free variable
liftp_def : (p : ℕ → Option ℕ) (j : ℕ) → Def (liftp p) j → lift_p (Def p) j
liftp_def p zero d = tt
liftp_def p (suc j) d = let i = omap_inv suc (p j) d.0 d.1 in (i.0, i.1)

map_m_def : (p : ℕ → Option ℕ) (xs ys : List ℕ) → map_m p xs ≡ some ys → AllL (Def p) xs
map_m_def p [] ys e = tt
map_m_def p (x ∷ xs) ys e =
    let i = omap2_inv ◌∷◌ (p x) (map_m p xs) ys e in ((i.0, i.2), map_m_def p xs i.1 i.3)

pub pren_def : (p : ℕ → Option ℕ) (t s : Tree) → pren p t ≡ some s → All (Def p) t
pren_def p (lam t) s e =
    let i = pren_lam_inv p t s e in All-map (liftp_def p) t (pren_def (liftp p) t i.0 i.1)
pren_def p (con c a) s e = let i = pren_con_inv p c a s e in pren_def p a i.0 i.1
pren_def p (var v a) s e = let i = pren_var_inv p v a s e in ((i.0, i.2), pren_def p a i.1 i.3)
pren_def p (hol h xs) s e = let i = pren_hol_inv p h xs s e in map_m_def p xs i.0 i.1
pren_def p nil s e = tt
pren_def p (cons t a) s e =
    let i = pren_cons_inv p t a s e in (pren_def p t i.0 i.2, pren_def p a i.1 i.3)

-- injectivity of a renaming that has a left inverse
ren_inj : (p : ℕ → Option ℕ) (f : ℕ → ℕ) (s t : Tree) → All (λ j. p (f j) ≡ some j) s → All (λ j. p (f j) ≡ some j) t
    → ren f s ≡ ren f t → s ≡ t
ren_inj p f s t hs ht e = some-injective s t (sym (pren-left p f s hs) ∙ ap (pren p) e ∙ pren-left p f t ht)

-- every f that is injective below m has one: search for the number below m that f takes to v
abbrev pub found : {P : Type 0} → Dec P → ℕ → Option ℕ → Option ℕ
found (yes _) m o = some m
found (no _) m o = o

abbrev pub inverse : (ℕ → ℕ) → ℕ → ℕ → Option ℕ
inverse f zero v = none
inverse f (suc m) v = found (ℕ_discrete (f m) v) m (inverse f m v)

abbrev pub InjBelow : (ℕ → ℕ) → ℕ → Type 0
InjBelow f m = (i j : ℕ) → i < m → j < m → f i ≡ f j → i ≡ j

pub inverse_left : (f : ℕ → ℕ) (m : ℕ) → InjBelow f m → (j : ℕ) → j < m → inverse f m (f j) ≡ some j
inverse_left f zero i j h = absurd (omega arith)
inverse_left f (suc m) i j h =
    go (ℕ_discrete (f m) (f j)) (λ n. inverse_left f m (λ a b p q. i a b (omega arith) (omega arith)) j n)
  where
    go : (d : Dec (f m ≡ f j)) → (j < m → inverse f m (f j) ≡ some j) → found d m (inverse f m (f j)) ≡ some j
    go (yes e) k = ap some (i m j (omega arith) h e)
    go (no n) k = let d : m ≢ j = λ e. n (ap f e) in k (omega arith)

pub inverse_right : (f : ℕ → ℕ) (m : ℕ) → RightInv (inverse f m) f
inverse_right f zero v w e = absurd (none-ne-some _ e)
inverse_right f (suc m) v w e = go (ℕ_discrete (f m) v) (λ k. inverse_right f m v w k) e
  where
    go : (d : Dec (f m ≡ v)) → (inverse f m v ≡ some w → f w ≡ v) → found d m (inverse f m v) ≡ some w → f w ≡ v
    go (yes x) k q = let z : m ≡ w = cc in cc
    go (no n) k q = k q

pub ren_inj_below : (f : ℕ → ℕ) (m : ℕ) → InjBelow f m → (s t : Tree) → Scoped m s → Scoped m t → ren f s ≡ ren f t → s ≡ t
ren_inj_below f m i s t hs ht e =
    ren_inj (inverse f m) f s t (All-map (inverse_left f m i) s hs) (All-map (inverse_left f m i) t ht) e

pub inverse-below : (f : ℕ → ℕ) (m : ℕ) → (v w : ℕ) → inverse f m v ≡ some w → w < m
inverse-below f zero v w e = absurd (none-ne-some _ e)
inverse-below f (suc m) v w e = go (ℕ_discrete (f m) v) (λ k. inverse-below f m v w k) e
  where
    go : (d : Dec (f m ≡ v)) → (inverse f m v ≡ some w → w < m) → found d m (inverse f m v) ≡ some w → w < suc m
    go (yes x) k q = let z : m ≡ w = cc in omega arith
    go (no n) k q = omega (arith, k q)
