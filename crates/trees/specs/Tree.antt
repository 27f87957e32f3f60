-- The words: types, trees, renaming, filling, typing. Definitions only; their laws stand in Renaming, Free, Filling and Typing.
use Rattle.std.specs.Prelude.{◌≡◌, List, [], ◌∷◌, map, ◌≢◌, ◌⊎◌, ℕ, zero, suc, length, get_or}
use Rattle.std.proofs.Math.Option.{Option, some}
use Rattle.std.proofs.Math.ListN.{get_elem?}

-- TREES

-- A type is a base type, by its number, or an arrow.
pub data Ty : Type 0 where
  base : ℕ → Ty
  arr : Ty → Ty → Ty

-- A tree is a term or an argument list (`nil`, `cons`). Variable 0 is the innermost binder; a hole's arguments are variables.
pub data Tree : Type 0 where
  lam : Tree → Tree
  con : ℕ → Tree → Tree
  var : ℕ → Tree → Tree
  hol : ℕ → List ℕ → Tree
  nil : Tree
  cons : Tree → Tree → Tree

-- `ren f t` renames the free variables of t by f.
abbrev pub lift : (ℕ → ℕ) → ℕ → ℕ
lift f zero = zero
lift f (suc n) = suc (f n)

abbrev pub ren : (ℕ → ℕ) → Tree → Tree
ren f (lam t) = lam (ren (lift f) t)
ren f (con c a) = con c (ren f a)
ren f (var v a) = var (f v) (ren f a)
ren f (hol h xs) = hol h (map f xs)
ren f nil = nil
ren f (cons t a) = cons (ren f t) (ren f a)

-- `inst θ t` fills the holes of t: for a hole stands θ of it, its context's variables renamed to the arguments.
abbrev pub nth : List ℕ → ℕ → ℕ
nth xs j = get_or xs j 0

abbrev pub inst : (ℕ → Tree) → Tree → Tree
inst θ (lam t) = lam (inst θ t)
inst θ (con c a) = con c (inst θ a)
inst θ (var v a) = var v (inst θ a)
inst θ (hol h xs) = ren (nth xs) (θ h)
inst θ nil = nil
inst θ (cons t a) = cons (inst θ t) (inst θ a)

-- P of every number of a list; of every free variable of a tree; Q of every hole of a tree, with its arguments.
abbrev pub AllL : (ℕ → Type 0) → List ℕ → Type 0
AllL P [] = Unit {0}
AllL P (x ∷ xs) = P x × AllL P xs

abbrev pub lift_p : (ℕ → Type 0) → ℕ → Type 0
lift_p P zero = Unit {0}
lift_p P (suc n) = P n

abbrev pub All : (ℕ → Type 0) → Tree → Type 0
All P (lam t) = All (lift_p P) t
All P (con c a) = All P a
All P (var v a) = P v × All P a
All P (hol h xs) = AllL P xs
All P nil = Unit {0}
All P (cons t a) = All P t × All P a

abbrev pub Holes : (ℕ → List ℕ → Type 0) → Tree → Type 0
Holes Q (lam t) = Holes Q t
Holes Q (con c a) = Holes Q a
Holes Q (var v a) = Holes Q a
Holes Q (hol h xs) = Q h xs
Holes Q nil = Unit {0}
Holes Q (cons t a) = Holes Q t × Holes Q a

abbrev pub Occurs : ℕ → Tree → Type 0
Occurs h (lam t) = Occurs h t
Occurs h (con c a) = Occurs h a
Occurs h (var v a) = Occurs h a
Occurs h (hol g xs) = g ≡ h
Occurs h nil = ⊥
Occurs h (cons t a) = Occurs h t ⊎ Occurs h a

-- TYPING AND FILLINGS

-- All numbers of the list are different.
abbrev pub Distinct : List ℕ → Type 0
Distinct [] = Unit {0}
Distinct (x ∷ xs) = AllL (λ y. y ≢ x) xs × Distinct xs

-- A signature declares holes: the context and the base type of each.
abbrev pub Sig : Type 0
Sig = ℕ → Option (List Ty × ℕ)

-- The variable v has the type A in the context G; the variables xs have the types C.
abbrev pub At : List Ty → ℕ → Ty → Type 0
At G v A = get_elem? G v ≡ some A

pub data Vars (G : List Ty) : List ℕ → List Ty → Type 0 where
  v_nil : Vars G [] []
  v_cons : {x : ℕ} {xs : List ℕ} {A : Ty} {C : List Ty} → At G x A → Vars G xs C → Vars G (x ∷ xs) (A ∷ C)

-- `at A`: a term of type A; `args A b`: an argument list that takes a head of type A to the base type b.
pub data Kind : Type 0 where
  at : Ty → Kind
  args : Ty → ℕ → Kind

-- Typing of beta-normal eta-long trees: S declares the constants, D the holes, G is the context. A typed tree is a pattern.
pub data HasTy (S : ℕ → Option Ty) (D : Sig) : List Ty → Tree → Kind → Type 0 where
  t_lam : {G : List Ty} {t : Tree} {A B : Ty} → HasTy S D (A ∷ G) t (at B) → HasTy S D G (lam t) (at (arr A B))
  t_con : {G : List Ty} {c : ℕ} {a : Tree} {A : Ty} {b : ℕ} → S c ≡ some A → HasTy S D G a (args A b) → HasTy S D G (con c a) (at (base b))
  t_var : {G : List Ty} {v : ℕ} {a : Tree} {A : Ty} {b : ℕ} → At G v A → HasTy S D G a (args A b) → HasTy S D G (var v a) (at (base b))
  t_hol : {G : List Ty} {h : ℕ} {xs : List ℕ} {C : List Ty} {b : ℕ} → D h ≡ some (C, b) → Vars G xs C → Distinct xs → HasTy S D G (hol h xs) (at (base b))
  t_nil : {G : List Ty} {b : ℕ} → HasTy S D G nil (args (base b) b)
  t_cons : {G : List Ty} {t a : Tree} {A B : Ty} {b : ℕ} → HasTy S D G t (at A) → HasTy S D G a (args B b) → HasTy S D G (cons t a) (args (arr A B) b)

-- Equations, and later all pairs that wait: both sides have one type in one context.
abbrev pub Pairs : Type 0
Pairs = List (Tree × Tree)

abbrev pub EachPair : (Tree → Tree → Type 0) → Pairs → Type 0
EachPair P [] = Unit {0}
EachPair P (p ∷ ps) = P p.0 p.1 × EachPair P ps

-- θ makes the two sides of each pair equal.
abbrev pub Equates : (ℕ → Tree) → Pairs → Type 0
Equates θ ps = EachPair (λ a b. inst θ a ≡ inst θ b) ps

module _ (S : ℕ → Option Ty) where
  abbrev pub Both : Sig → Tree → Tree → Type 0
  Both D a b = (G : List Ty) × (k : Kind) × HasTy S D G a k × HasTy S D G b k

  abbrev pub PairsTyped : Sig → Pairs → Type 0
  PairsTyped D ps = EachPair (Both D) ps

  -- θ fills the hole h of D, or each hole of D, by a typed term over its context, whose own holes are those of X.
  abbrev pub FillsAt : Sig → Sig → (ℕ → Tree) → ℕ → Type 0
  FillsAt D X θ h = (C : List Ty) (b : ℕ) → D h ≡ some (C, b) → HasTy S X C (θ h) (at (base b))

  abbrev pub Fills : Sig → Sig → (ℕ → Tree) → Type 0
  Fills D X θ = (h : ℕ) → FillsAt D X θ h

-- A hole itself: applied to its context's variables in order.
abbrev pub upto : ℕ → ℕ → List ℕ
upto i zero = []
upto i (suc n) = i ∷ upto (suc i) n

abbrev pub itself : ℕ → ℕ → Tree
itself n h = hol h (upto 0 n)

-- Frozen holes are a predicate. θ leaves those of D as they are.
abbrev pub Leaves : (ℕ → Type 0) → Sig → (ℕ → Tree) → Type 0
Leaves Frozen D θ = (h : ℕ) (C : List Ty) (b : ℕ) → Frozen h → D h ≡ some (C, b) → θ h ≡ itself (length C) h
