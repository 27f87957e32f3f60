-- What a machine may do: states, moves, runs, the walk, failures. Definitions only; Leads, Read, Walk and Stuck prove what they mean.
use Rattle.std.specs.Prelude.{◌≡◌, List, [], ◌∷◌, ◌++◌, ◌≢◌, ◌↔◌, ◌⊎◌, ℕ, zero, suc, ◌≤◌, ◌<◌, length}
use Rattle.std.proofs.Math.Option.{Option, none, some}
use Rattle.trees.specs.Tree.{Ty, base, Tree, lam, con, var, hol, nil, cons, ren, nth, inst, All, Holes, Distinct, Sig, Vars, at, HasTy, Pairs, Equates, PairsTyped, Fills}

-- STATES

-- A state is the holes declared, D, what is solved, σ, and the pairs that wait, ps.
abbrev pub Solutions : Type 0
Solutions = ℕ → Option Tree

abbrev pub nothing : Solutions
nothing h = none

-- θ keeps the solutions; with the pairs it unifies the state.
abbrev pub Keeps : (ℕ → Tree) → Solutions → Type 0
Keeps θ σ = (h : ℕ) (s : Tree) → σ h ≡ some s → θ h ≡ inst θ s

abbrev pub Unifier : (ℕ → Tree) → Solutions → Pairs → Type 0
Unifier θ σ ps = Keeps θ σ × Equates θ ps

-- THE ORDER. lo h is the lowest record of h's solution, m a bound of these numbers: a solved hole that stands in h's solution has all its own
-- solution above the record where it stands, so a higher lo.
abbrev pub Climbs : (ℕ → ℕ) → ℕ → Solutions → Type 0
Climbs lo m σ = (h : ℕ) (s : Tree) → σ h ≡ some s → (lo h ≤ m) × Holes (λ g _. (t : Tree) → σ g ≡ some t → lo h < lo g) s

abbrev pub Stamped : Solutions → Type 0
Stamped σ = (lo : ℕ → ℕ) × (m : ℕ) × Climbs lo m σ

module _ (S : ℕ → Option Ty) where
  abbrev pub SolTyped : Sig → Solutions → Type 0
  SolTyped D σ = (h : ℕ) (s : Tree) → σ h ≡ some s → (C : List Ty) × (b : ℕ) × (D h ≡ some (C, b)) × HasTy S D C s (at (base b))

  -- What holds of every state of a run: it is typed, and its solutions are in order.
  abbrev pub Good : Sig → Solutions → Pairs → Type 0
  Good D σ ps = SolTyped D σ × PairsTyped S D ps × Stamped σ

-- g has all that f has; g is f and, at w, where f has nothing, a.
abbrev pub Grows : {A : Type 0} → (ℕ → Option A) → (ℕ → Option A) → Type 0
Grows {A} f g = (h : ℕ) (a : A) → f h ≡ some a → g h ≡ some a

pub record Adds {A : Type 0} (f : ℕ → Option A) (w : ℕ) (a : A) (g : ℕ → Option A) : Type 0 where
  pub before : f w ≡ none
  pub grows : Grows f g
  pub new : g w ≡ some a
  pub only : (h : ℕ) (b : A) → g h ≡ some b → ((h ≡ w) × (b ≡ a)) ⊎ (f h ≡ some b)

-- ρ is θ on the holes of D.
abbrev pub Agree : Sig → (ℕ → Tree) → (ℕ → Tree) → Type 0
Agree D θ ρ = (h : ℕ) (c : List Ty × ℕ) → D h ≡ some c → ρ h ≡ θ h

-- A state leads to another if the second keeps exactly the unifiers of the first: back by the same filling, forth by one that is extended at the
-- holes declared since. No frozen hole is solved on the way.
pub record Leads (S : ℕ → Option Ty) (Frozen : ℕ → Type 0) (D : Sig) (σ : Solutions) (ps : Pairs) (E : Sig) (τ : Solutions) (qs : Pairs) : Type 0 where
  pub good : Good S E τ qs
  pub declares : Grows D E
  pub solves : Grows σ τ
  pub spares : (h : ℕ) → Frozen h → σ h ≡ none → τ h ≡ none
  pub back : (X : Sig) (θ : ℕ → Tree) → Fills S E X θ → Keeps θ τ → Equates θ qs → Equates θ ps
  pub forth : (X : Sig) (θ : ℕ → Tree) → Fills S D X θ → Unifier θ σ ps → (ρ : ℕ → Tree) × Fills S E X ρ × Unifier ρ τ qs × Agree D θ ρ

-- MOVES

-- Two argument lists as pairs, in order.
pub data Spreads : Tree → Tree → Pairs → Type 0 where
  spread_nil : Spreads nil nil []
  spread_cons : {t u a b : Tree} {qs : Pairs} → Spreads a b qs → Spreads (cons t a) (cons u b) ((t, u) ∷ qs)

-- The place of j in K.
abbrev pub Place : List ℕ → ℕ → Type 0
Place K j = (k : ℕ) × (k < length K) × (nth K k ≡ j)

module _ (S : ℕ → Option Ty) (D : Sig) (σ : Solutions) where
  -- What every unifier puts for v uses only the positions K.
  abbrev pub Needs : Pairs → ℕ → List ℕ → Type 0
  Needs ps v K = (X : Sig) (θ : ℕ → Tree) → Fills S D X θ → Unifier θ σ ps → All (Place K) (θ v)

  -- Every filling that keeps the solutions makes a and b equal; or does so just if it puts for u what s says.
  abbrev pub Holds : Tree → Tree → Type 0
  Holds a b = (X : Sig) (θ : ℕ → Tree) → Fills S D X θ → Keeps θ σ → inst θ a ≡ inst θ b

  abbrev pub Says : Tree → Tree → ℕ → Tree → Type 0
  Says a b u s = (X : Sig) (θ : ℕ → Tree) → Fills S D X θ → Keeps θ σ → (inst θ a ≡ inst θ b) ↔ (θ u ≡ inst θ s)

pub data Move (S : ℕ → Option Ty) (Frozen : ℕ → Type 0) (D : Sig) (σ : Solutions) : Pairs → Sig → Solutions → Pairs → Type 0 where
  -- Decompose: two lambdas, or two equal rigid heads; the pairs of arguments go last.
  move_lam : {a b : Tree} {ps : Pairs} → Move S Frozen D σ ((lam a, lam b) ∷ ps) D σ ((a, b) ∷ ps)
  move_con : {c : ℕ} {a b : Tree} {ps qs : Pairs} → Spreads a b qs → Move S Frozen D σ ((con c a, con c b) ∷ ps) D σ (ps ++ qs)
  move_var : {v : ℕ} {a b : Tree} {ps qs : Pairs} → Spreads a b qs → Move S Frozen D σ ((var v a, var v b) ∷ ps) D σ (ps ++ qs)
  -- Take the right side as the left.
  move_swap : {a b : Tree} {ps : Pairs} → Move S Frozen D σ ((a, b) ∷ ps) D σ ((b, a) ∷ ps)
  -- Drop a pair that holds.
  move_drop : {a b : Tree} {ps : Pairs} → Holds S D σ a b → Move S Frozen D σ ((a, b) ∷ ps) D σ ps
  -- Expand a solved head: a copy of the solution, renamed to the arguments.
  move_expand : {h : ℕ} {xs : List ℕ} {s t : Tree} {ps : Pairs} → σ h ≡ some s
      → Move S Frozen D σ ((hol h xs, t) ∷ ps) D σ ((ren (nth xs) s, t) ∷ ps)
  -- Narrow the hole v to the positions K (renew it, if K has all positions) by a new hole w over them.
  move_narrow : {ps : Pairs} {v w : ℕ} {K : List ℕ} {C B : List Ty} {b : ℕ} {E : Sig} {τ : Solutions} → (Frozen v → ⊥) → D v ≡ some (C, b)
      → Vars C K B → Distinct K → Adds D w (B, b) E → Adds σ v (hol w K) τ → Needs S D σ ps v K → Move S Frozen D σ ps E τ ps
  -- Solve a hole u by s, for a pair that says just that.
  move_solve : {a b : Tree} {ps : Pairs} {u : ℕ} {s : Tree} {C : List Ty} {c : ℕ} {τ : Solutions} → (Frozen u → ⊥) → D u ≡ some (C, c)
      → HasTy S D C s (at (base c)) → Adds σ u s τ → Stamped τ → Says S D σ a b u s → Move S Frozen D σ ((a, b) ∷ ps) D τ ps

-- A run is moves one after another.
pub data Run (S : ℕ → Option Ty) (Frozen : ℕ → Type 0) : Sig → Solutions → Pairs → Sig → Solutions → Pairs → Type 0 where
  run_done : {D : Sig} {σ : Solutions} {ps : Pairs} → Run S Frozen D σ ps D σ ps
  run_step : {D E H : Sig} {σ τ υ : Solutions} {ps qs rs : Pairs} → Move S Frozen D σ ps E τ qs → Run S Frozen E τ qs H υ rs → Run S Frozen D σ ps H υ rs

-- THE WALK

-- `pren p t` renames by a partial map: it is defined if every free variable of t has a place.
abbrev pub omap : {A B : Type 0} → (A → B) → Option A → Option B
omap f none = none
omap f (some a) = some (f a)

abbrev pub omap2 : {A B C : Type 0} → (A → B → C) → Option A → Option B → Option C
omap2 f none y = none
omap2 f (some a) y = omap (f a) y

abbrev pub liftp : (ℕ → Option ℕ) → ℕ → Option ℕ
liftp p zero = some zero
liftp p (suc n) = omap suc (p n)

abbrev pub map_m : (ℕ → Option ℕ) → List ℕ → Option (List ℕ)
map_m p [] = some []
map_m p (x ∷ xs) = omap2 ◌∷◌ (p x) (map_m p xs)

abbrev pub pren : (ℕ → Option ℕ) → Tree → Option Tree
pren p (lam t) = omap lam (pren (liftp p) t)
pren p (con c a) = omap (con c) (pren p a)
pren p (var v a) = omap2 var (p v) (pren p a)
pren p (hol h xs) = omap (hol h) (map_m p xs)
pren p nil = some nil
pren p (cons t a) = omap2 cons (pren p t) (pren p a)

-- j has a place; K has every number below m that satisfies Q.
abbrev pub Def : (ℕ → Option ℕ) → ℕ → Type 0
Def p j = (k : ℕ) × (p j ≡ some k)

abbrev pub Covers : (ℕ → Type 0) → ℕ → List ℕ → Type 0
Covers Q m K = (j : ℕ) → j < m → Q j → Place K j

-- p takes the arguments xs back to their positions; q is p after the arguments ys.
abbrev pub Inverts : (ℕ → Option ℕ) → List ℕ → Type 0
Inverts p xs = ((j : ℕ) → j < length xs → p (nth xs j) ≡ some j) × ((v w : ℕ) → p v ≡ some w → (w < length xs) × (nth xs w ≡ v))

abbrev pub After : (ℕ → Option ℕ) → List ℕ → (ℕ → Option ℕ) → Type 0
After p ys q = (j : ℕ) → j < length ys → q j ≡ p (nth ys j)

-- The walk that solves u: it reads t through p, writes s, and goes from (D, σ) to (E, τ). One rule for each kind of node met.
pub data Walk (Frozen : ℕ → Type 0) (u : ℕ) : Sig → Solutions → (ℕ → Option ℕ) → Tree → Sig → Solutions → Tree → Type 0 where
  w_lam : {D E : Sig} {σ τ : Solutions} {p : ℕ → Option ℕ} {t s : Tree} → Walk Frozen u D σ (liftp p) t E τ s → Walk Frozen u D σ p (lam t) E τ (lam s)
  w_con : {D E : Sig} {σ τ : Solutions} {p : ℕ → Option ℕ} {c : ℕ} {a b : Tree} → Walk Frozen u D σ p a E τ b → Walk Frozen u D σ p (con c a) E τ (con c b)
  -- a variable with a place
  w_var : {D E : Sig} {σ τ : Solutions} {p : ℕ → Option ℕ} {v w : ℕ} {a b : Tree} → p v ≡ some w → Walk Frozen u D σ p a E τ b
      → Walk Frozen u D σ p (var v a) E τ (var w b)
  w_nil : {D : Sig} {σ : Solutions} {p : ℕ → Option ℕ} → Walk Frozen u D σ p nil D σ nil
  w_cons : {D E H : Sig} {σ τ υ : Solutions} {p : ℕ → Option ℕ} {t s a b : Tree} → Walk Frozen u D σ p t E τ s → Walk Frozen u E τ p a H υ b
      → Walk Frozen u D σ p (cons t a) H υ (cons s b)
  -- a solved hole is followed, through the map that follows its arguments
  w_solved : {D E : Sig} {σ τ : Solutions} {p q : ℕ → Option ℕ} {v : ℕ} {ys : List ℕ} {s r : Tree} → σ v ≡ some s → After p ys q
      → Walk Frozen u D σ q s E τ r → Walk Frozen u D σ p (hol v ys) E τ r
  -- an unsolved hole, frozen or not, is kept if all its arguments have a place
  w_kept : {D : Sig} {σ : Solutions} {p : ℕ → Option ℕ} {v : ℕ} {ys zs : List ℕ} → σ v ≡ none → v ≢ u → map_m p ys ≡ some zs
      → Walk Frozen u D σ p (hol v ys) D σ (hol v zs)
  -- an unsolved hole is narrowed to positions that have a place, all of them, or renewed
  w_narrowed : {D E : Sig} {σ τ : Solutions} {p : ℕ → Option ℕ} {v w : ℕ} {ys K zs : List ℕ} {C B : List Ty} {b : ℕ} → (Frozen v → ⊥) → v ≢ u
      → D v ≡ some (C, b) → Covers (Def (λ j. p (nth ys j))) (length ys) K → Vars C K B → Distinct K → map_m (λ j. p (nth ys j)) K ≡ some zs
      → Adds D w (B, b) E → Adds σ v (hol w K) τ → Walk Frozen u D σ p (hol v ys) E τ (hol w zs)

-- The walk that solves u fails at t; k is 0 at the top of the other side and 1 inside.
pub data Lost (Frozen : ℕ → Type 0) (u : ℕ) : ℕ → Sig → Solutions → (ℕ → Option ℕ) → Tree → Type 0 where
  -- a variable has no place
  l_escape : {k : ℕ} {D : Sig} {σ : Solutions} {p : ℕ → Option ℕ} {v : ℕ} {a : Tree} → p v ≡ none → Lost Frozen u k D σ p (var v a)
  -- the hole itself is met inside
  l_occurs : {k : ℕ} {D : Sig} {σ : Solutions} {p : ℕ → Option ℕ} {xs : List ℕ} → Lost Frozen u (suc k) D σ p (hol u xs)
  -- an argument of a frozen hole has no place
  l_frozen : {k : ℕ} {D : Sig} {σ : Solutions} {p : ℕ → Option ℕ} {v : ℕ} {ys : List ℕ} (j : ℕ) → Frozen v → j < length ys → p (nth ys j) ≡ none
      → Lost Frozen u k D σ p (hol v ys)
  -- one of these is met further down
  l_lam : {k : ℕ} {D : Sig} {σ : Solutions} {p : ℕ → Option ℕ} {t : Tree} → Lost Frozen u 1 D σ (liftp p) t → Lost Frozen u k D σ p (lam t)
  l_con : {k : ℕ} {D : Sig} {σ : Solutions} {p : ℕ → Option ℕ} {c : ℕ} {a : Tree} → Lost Frozen u 1 D σ p a → Lost Frozen u k D σ p (con c a)
  l_var : {k : ℕ} {D : Sig} {σ : Solutions} {p : ℕ → Option ℕ} {v : ℕ} {a : Tree} → Lost Frozen u 1 D σ p a → Lost Frozen u k D σ p (var v a)
  l_first : {k : ℕ} {D : Sig} {σ : Solutions} {p : ℕ → Option ℕ} {t a : Tree} → Lost Frozen u 1 D σ p t → Lost Frozen u k D σ p (cons t a)
  l_rest : {k : ℕ} {D E : Sig} {σ τ : Solutions} {p : ℕ → Option ℕ} {t s a : Tree} → Walk Frozen u D σ p t E τ s → Lost Frozen u 1 E τ p a
      → Lost Frozen u k D σ p (cons t a)
  l_solved : {k : ℕ} {D : Sig} {σ : Solutions} {p q : ℕ → Option ℕ} {v : ℕ} {ys : List ℕ} {s : Tree} → σ v ≡ some s → After p ys q
      → Lost Frozen u k D σ q s → Lost Frozen u k D σ p (hol v ys)

-- FAILURES

-- The head of a tree; of a hole, with its arguments. It stands if no filling that leaves the frozen holes changes it.
pub data Head : Type 0 where
  h_lam h_nil h_cons : Head
  h_con h_var : ℕ → Head
  h_hol : ℕ → List ℕ → Head

abbrev pub head : Tree → Head
head (lam t) = h_lam
head (con c a) = h_con c
head (var v a) = h_var v
head (hol h xs) = h_hol h xs
head nil = h_nil
head (cons t a) = h_cons

abbrev pub Stands : (ℕ → Type 0) → Tree → Type 0
Stands Frozen (lam t) = Unit {0}
Stands Frozen (con c a) = Unit {0}
Stands Frozen (var v a) = Unit {0}
Stands Frozen (hol h xs) = Frozen h
Stands Frozen nil = Unit {0}
Stands Frozen (cons t a) = Unit {0}

-- The first pair fails: different rigid heads meet, or the walk of the other side of a hole fails (escape, occurs).
pub data Fails (Frozen : ℕ → Type 0) (D : Sig) (σ : Solutions) : Pairs → Type 0 where
  fails_clash : {a b : Tree} {ps : Pairs} → Stands Frozen a → Stands Frozen b → head a ≢ head b → Fails Frozen D σ ((a, b) ∷ ps)
  fails-walk : {u : ℕ} {xs : List ℕ} {p : ℕ → Option ℕ} {t : Tree} {ps : Pairs} → Inverts p xs → Lost Frozen u 0 D σ p t → Fails Frozen D σ ((hol u xs, t) ∷ ps)

-- No hole is frozen; or the frozen holes are holes of D.
abbrev pub NoneFrozen : ℕ → Type 0
NoneFrozen h = ⊥

abbrev pub FrozenIn : (ℕ → Type 0) → Sig → Type 0
FrozenIn Frozen D = (h : ℕ) → Frozen h → (c : List Ty × ℕ) × (D h ≡ some c)
