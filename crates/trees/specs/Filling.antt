-- Filling: it commutes with renaming, where what fills each hole is in the scope of the hole's arguments (Suits).
use Rattle.std.specs.Prelude.{◌≡◌, refl, List, [], ◌∷◌, map, ℕ, zero, suc, ◌+◌, ◌≤◌, ◌<◌, length}
use Rattle.std.proofs.Common.{sym, ◌∙◌, ap, ap₂, arith}
use Rattle.std.proofs.Math.Option.{Option, some}
use Rattle.trees.specs.Tree.{Tree, lam, con, var, hol, nil, cons, lift, ren, nth, inst, AllL, Holes, Distinct, upto, itself}
use Rattle.trees.specs.Moves.{map_m, pren}
use Rattle.trees.specs.Renaming.{ren_id, ren_comp}
use Rattle.trees.specs.Free.{Scoped, AllL-map, All-map, ren_agree}
use Rattle.trees.specs.Partial.{omap2_inv, pren-ren, pren_some}

pub Holes-map : {P Q : ℕ → List ℕ → Type 0} → ((h : ℕ) (xs : List ℕ) → P h xs → Q h xs) → (t : Tree) → Holes P t → Holes Q t
Holes-map k (lam t) h = Holes-map k t h
Holes-map k (con c a) h = Holes-map k a h
Holes-map k (var v a) h = Holes-map k a h
Holes-map k (hol i xs) h = k i xs h
Holes-map k nil h = tt
Holes-map k (cons t a) h = (Holes-map k t h.0, Holes-map k a h.1)

pub Holes-both : (P Q : ℕ → List ℕ → Type 0) (t : Tree) → Holes P t → Holes Q t → Holes (λ h xs. P h xs × Q h xs) t
Holes-both P Q (lam t) h k = Holes-both P Q t h k
Holes-both P Q (con c a) h k = Holes-both P Q a h k
Holes-both P Q (var v a) h k = Holes-both P Q a h k
Holes-both P Q (hol i xs) h k = (h, k)
Holes-both P Q nil h k = tt
Holes-both P Q (cons t a) h k = (Holes-both P Q t h.0 k.0, Holes-both P Q a h.1 k.1)

-- what θ puts for each hole of t is in the scope of its arguments
abbrev pub Suits : (ℕ → Tree) → Tree → Type 0
Suits θ t = Holes (λ h xs. Scoped (length xs) (θ h)) t

-- lists by place
nth-map : (f : ℕ → ℕ) (xs : List ℕ) (j : ℕ) → j < length xs → nth (map f xs) j ≡ f (nth xs j)
nth-map f [] j h = absurd (omega arith)
nth-map f (x ∷ xs) zero h = refl
nth-map f (x ∷ xs) (suc j) h = nth-map f xs j (omega arith)

pub nth-All : (P : ℕ → Type 0) (xs : List ℕ) → AllL P xs → (j : ℕ) → j < length xs → P (nth xs j)
nth-All P [] h j k = absurd (omega arith)
nth-All P (x ∷ xs) h zero k = h.0
nth-All P (x ∷ xs) h (suc j) k = nth-All P xs h.1 j (omega arith)

-- instances commute with renaming
pub inst-ren : (θ : ℕ → Tree) (f : ℕ → ℕ) (t : Tree) → Suits θ t → inst θ (ren f t) ≡ ren f (inst θ t)
inst-ren θ f (lam t) h = ap lam (inst-ren θ (lift f) t h)
inst-ren θ f (con c a) h = ap (con c) (inst-ren θ f a h)
inst-ren θ f (var v a) h = ap (var (f v)) (inst-ren θ f a h)
inst-ren θ f (hol i xs) h =
    ren_agree (nth (map f xs)) (λ j. f (nth xs j)) (θ i) (All-map (nth-map f xs) (θ i) h) ∙ sym (ren_comp f (nth xs) (θ i))
inst-ren θ f nil h = refl
inst-ren θ f (cons t a) h = ap₂ cons (inst-ren θ f t h.0) (inst-ren θ f a h.1)

-- fillings that agree on the holes of t
pub inst_agree : (θ ρ : ℕ → Tree) (t : Tree) → Holes (λ h _. θ h ≡ ρ h) t → inst θ t ≡ inst ρ t
inst_agree θ ρ (lam t) h = ap lam (inst_agree θ ρ t h)
inst_agree θ ρ (con c a) h = ap (con c) (inst_agree θ ρ a h)
inst_agree θ ρ (var v a) h = ap (var v) (inst_agree θ ρ a h)
inst_agree θ ρ (hol i xs) h = ap (ren (nth xs)) h
inst_agree θ ρ nil h = refl
inst_agree θ ρ (cons t a) h = ap₂ cons (inst_agree θ ρ t h.0) (inst_agree θ ρ a h.1)

-- a partial renaming that is defined on a hole's arguments is defined on what fills it
pub map_m-nth : (p : ℕ → Option ℕ) (xs ys : List ℕ) → map_m p xs ≡ some ys → (j : ℕ) → j < length xs → p (nth xs j) ≡ some (nth ys j)
map_m-nth p [] ys e j h = absurd (omega arith)
map_m-nth p (x ∷ xs) ys e zero h = let i = omap2_inv ◌∷◌ (p x) (map_m p xs) ys e in rw (← i.4) i.2
map_m-nth p (x ∷ xs) ys e (suc j) h =
    let i = omap2_inv ◌∷◌ (p x) (map_m p xs) ys e in rw (← i.4) (map_m-nth p xs i.1 i.3 j (omega arith))

pub pren_hol : (θ : ℕ → Tree) (p : ℕ → Option ℕ) (h : ℕ) (xs ys : List ℕ) → Scoped (length xs) (θ h) → map_m p xs ≡ some ys
    → pren p (inst θ (hol h xs)) ≡ some (inst θ (hol h ys))
pren_hol θ p h xs ys w e =
    pren-ren p (nth xs) (θ h) ∙ pren_some (λ j. p (nth xs j)) (nth ys) (θ h) (All-map (map_m-nth p xs ys e) (θ h) w)

nth-upto : (i n j : ℕ) → j < n → nth (upto i n) j ≡ i + j
nth-upto i zero j h = absurd (omega arith)
nth-upto i (suc n) zero h = omega arith
nth-upto i (suc n) (suc j) h = omega (arith, nth-upto (suc i) n j (omega arith))

upto_range : (i n : ℕ) → AllL (λ j. (i ≤ j) × (j < i + n)) (upto i n)
upto_range i zero = tt
upto_range i (suc n) = ((omega arith, omega arith), AllL-map (λ j h. (omega arith, omega arith)) (upto (suc i) n) (upto_range (suc i) n))

pub upto-distinct : (i n : ℕ) → Distinct (upto i n)
upto-distinct i zero = tt
upto-distinct i (suc n) = (AllL-map (λ j h. omega arith) (upto (suc i) n) (upto_range (suc i) n), upto-distinct (suc i) n)

-- filled, it is what fills it; renamed, it has the arguments
pub inst-itself : (θ : ℕ → Tree) (n h : ℕ) → Scoped n (θ h) → inst θ (itself n h) ≡ θ h
inst-itself θ n h w = ren_agree (nth (upto 0 n)) (λ j. j) (θ h) (All-map (λ j k. omega (arith, nth-upto 0 n j k)) (θ h) w) ∙ ren_id (θ h)

map-upto : (xs ys : List ℕ) (i : ℕ) → ((j : ℕ) → j < length xs → nth ys (i + j) ≡ nth xs j) → map (nth ys) (upto i (length xs)) ≡ xs
map-upto [] ys i h = refl
map-upto (x ∷ xs) ys i h = ap₂ ◌∷◌ (rw (zero_right i) at (h 0 (omega arith))) (map-upto xs ys (suc i) (λ j k. rw (shift i j) at (h (suc j) (omega arith))))
  where
    zero_right : (i : ℕ) → i + 0 ≡ i
    zero_right i = omega arith

    shift : (i j : ℕ) → i + suc j ≡ suc i + j
    shift i j = omega arith

pub ren-itself : (h : ℕ) (xs : List ℕ) → ren (nth xs) (itself (length xs) h) ≡ hol h xs
ren-itself h xs = ap (hol h) (map-upto xs xs 0 (λ j k. ap (nth xs) (zero_left j)))
  where
    zero_left : (j : ℕ) → 0 + j ≡ j
    zero_left j = omega arith
