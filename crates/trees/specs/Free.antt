-- Facts that hold of every free variable of a tree: scope, agreement of two renamings, being in the image of a renaming.
use Rattle.std.specs.Prelude.{◌≡◌, refl, List, [], ◌∷◌, map, ℕ, zero, suc, ◌<◌}
use Rattle.std.proofs.Common.{ap, ap₂, arith}
use Rattle.trees.specs.Tree.{Tree, lam, con, var, hol, nil, cons, lift, ren, AllL, lift_p, All}

-- the free variables are below m
abbrev pub Scoped : ℕ → Tree → Type 0
Scoped m t = All (λ j. j < m) t

-- monotone
pub AllL-map : {P Q : ℕ → Type 0} → ((j : ℕ) → P j → Q j) → (xs : List ℕ) → AllL P xs → AllL Q xs
AllL-map k [] h = tt
AllL-map k (x ∷ xs) h = (k x h.0, AllL-map k xs h.1)

lift_p-map : {P Q : ℕ → Type 0} → ((j : ℕ) → P j → Q j) → (j : ℕ) → lift_p P j → lift_p Q j
lift_p-map k zero h = tt
lift_p-map k (suc j) h = k j h

pub All-map : {P Q : ℕ → Type 0} → ((j : ℕ) → P j → Q j) → (t : Tree) → All P t → All Q t
All-map k (lam t) h = All-map (lift_p-map k) t h
All-map k (con c a) h = All-map k a h
All-map k (var v a) h = (k v h.0, All-map k a h.1)
All-map k (hol i xs) h = AllL-map k xs h
All-map k nil h = tt
All-map k (cons t a) h = (All-map k t h.0, All-map k a h.1)

-- two facts of each variable at once
pub AllL-both : (P Q : ℕ → Type 0) (xs : List ℕ) → AllL P xs → AllL Q xs → AllL (λ j. P j × Q j) xs
AllL-both P Q [] h k = tt
AllL-both P Q (x ∷ xs) h k = ((h.0, k.0), AllL-both P Q xs h.1 k.1)

lift_p-both : (P Q : ℕ → Type 0) (j : ℕ) → lift_p P j × lift_p Q j → lift_p (λ i. P i × Q i) j
lift_p-both P Q zero h = tt
lift_p-both P Q (suc j) h = h

pub All-both : (P Q : ℕ → Type 0) (t : Tree) → All P t → All Q t → All (λ j. P j × Q j) t
All-both P Q (lam t) h k = All-map (lift_p-both P Q) t (All-both (lift_p P) (lift_p Q) t h k)
All-both P Q (con c a) h k = All-both P Q a h k
All-both P Q (var v a) h k = ((h.0, k.0), All-both P Q a h.1 k.1)
All-both P Q (hol i xs) h k = AllL-both P Q xs h k
All-both P Q nil h k = tt
All-both P Q (cons t a) h k = (All-both P Q t h.0 k.0, All-both P Q a h.1 k.1)

-- the scope under a binder
scope_out' : (m j : ℕ) → j < suc m → lift_p (λ i. i < m) j
scope_out' m zero h = tt
scope_out' m (suc j) h = omega arith

pub scope_out : (m : ℕ) (t : Tree) → Scoped (suc m) t → All (lift_p (λ j. j < m)) t
scope_out m t h = All-map (scope_out' m) t h

-- the numbers of a renamed list
pub AllL-ren : (P : ℕ → Type 0) (f : ℕ → ℕ) (xs : List ℕ) → AllL (λ j. P (f j)) xs → AllL P (map f xs)
AllL-ren P f [] h = tt
AllL-ren P f (x ∷ xs) h = (h.0, AllL-ren P f xs h.1)

pub AllL-ren-back : (P : ℕ → Type 0) (f : ℕ → ℕ) (xs : List ℕ) → AllL P (map f xs) → AllL (λ j. P (f j)) xs
AllL-ren-back P f [] h = tt
AllL-ren-back P f (x ∷ xs) h = (h.0, AllL-ren-back P f xs h.1)

-- two renamings that agree on the free variables, both ways (the second is the heart of the same-hole lemma)
AllL-agree : (f g : ℕ → ℕ) (xs : List ℕ) → AllL (λ j. f j ≡ g j) xs → map f xs ≡ map g xs
AllL-agree f g [] h = refl
AllL-agree f g (x ∷ xs) h = ap₂ ◌∷◌ h.0 (AllL-agree f g xs h.1)

AllL-agree_back : (f g : ℕ → ℕ) (xs : List ℕ) → map f xs ≡ map g xs → AllL (λ j. f j ≡ g j) xs
AllL-agree_back f g [] e = tt
AllL-agree_back f g (x ∷ xs) e = (cc, AllL-agree_back f g xs (cc))

lift_agree : (f g : ℕ → ℕ) (j : ℕ) → lift_p (λ i. f i ≡ g i) j → lift f j ≡ lift g j
lift_agree f g zero h = refl
lift_agree f g (suc j) h = ap suc h

lift_agree_back : (f g : ℕ → ℕ) (j : ℕ) → lift f j ≡ lift g j → lift_p (λ i. f i ≡ g i) j
lift_agree_back f g zero h = tt
lift_agree_back f g (suc j) h = omega arith

pub ren_agree : (f g : ℕ → ℕ) (t : Tree) → All (λ j. f j ≡ g j) t → ren f t ≡ ren g t
ren_agree f g (lam t) h = ap lam (ren_agree (lift f) (lift g) t (All-map (lift_agree f g) t h))
ren_agree f g (con c a) h = ap (con c) (ren_agree f g a h)
ren_agree f g (var v a) h = ap₂ var h.0 (ren_agree f g a h.1)
ren_agree f g (hol i xs) h = ap (hol i) (AllL-agree f g xs h)
ren_agree f g nil h = refl
ren_agree f g (cons t a) h = ap₂ cons (ren_agree f g t h.0) (ren_agree f g a h.1)

pub ren_agree_back : (f g : ℕ → ℕ) (t : Tree) → ren f t ≡ ren g t → All (λ j. f j ≡ g j) t
ren_agree_back f g (lam t) e = All-map (lift_agree_back f g) t (ren_agree_back (lift f) (lift g) t (cc))
ren_agree_back f g (con c a) e = ren_agree_back f g a (cc)
ren_agree_back f g (var v a) e = (cc, ren_agree_back f g a (cc))
ren_agree_back f g (hol i xs) e = AllL-agree_back f g xs (cc)
ren_agree_back f g nil e = tt
ren_agree_back f g (cons t a) e = (ren_agree_back f g t (cc), ren_agree_back f g a (cc))

-- in the image of a renaming: the tree comes from one whose variables satisfy P
abbrev pub From : (ℕ → Type 0) → (ℕ → ℕ) → ℕ → Type 0
From P f j = (k : ℕ) × P k × (f k ≡ j)

AllL-from : (P : ℕ → Type 0) (f : ℕ → ℕ) (xs : List ℕ) → AllL (From P f) xs → (ys : List ℕ) × AllL P ys × (map f ys ≡ xs)
AllL-from P f [] h = ([], tt, refl)
AllL-from P f (x ∷ xs) h = let r = AllL-from P f xs h.1 in (h.0.0 ∷ r.0, (h.0.1, r.1), ap₂ ◌∷◌ h.0.2 r.2)

lift-from : (P : ℕ → Type 0) (f : ℕ → ℕ) (j : ℕ) → lift_p (From P f) j → From (lift_p P) (lift f) j
lift-from P f zero h = (0, tt, refl)
lift-from P f (suc j) h = (suc h.0, h.1, ap suc h.2)

pub unren : (P : ℕ → Type 0) (f : ℕ → ℕ) (t : Tree) → All (From P f) t → (s : Tree) × All P s × (ren f s ≡ t)
unren P f (lam t) h =
    let r = unren (lift_p P) (lift f) t (All-map (lift-from P f) t h) in (lam r.0, r.1, ap lam r.2)
unren P f (con c a) h = let r = unren P f a h in (con c r.0, r.1, ap (con c) r.2)
unren P f (var v a) h =
    let r = unren P f a h.1 in (var h.0.0 r.0, (h.0.1, r.1), ap₂ var h.0.2 r.2)
unren P f (hol i xs) h = let r = AllL-from P f xs h in (hol i r.0, r.1, ap (hol i) r.2)
unren P f nil h = (nil, tt, refl)
unren P f (cons t a) h =
    let r = unren P f t h.0 in let q = unren P f a h.1 in
    (cons r.0 q.0, (r.1, q.1), ap₂ cons r.2 q.2)
