-- What this crate says: answers, most general unifiers, and the statements that Theorems proves. Its words are defined in Tree and Moves.
use Rattle.std.specs.Prelude.{◌≡◌, ℕ, length}
use mathlib.Core.List.{List, [], ◌∷◌, Permᴰ}
use Rattle.std.proofs.Math.Option.{Option, none, some}
use Rattle.trees.specs.Tree.{Ty, Tree, hol, inst, Occurs, Sig, Pairs, Equates, PairsTyped, FillsAt, Fills, itself, Leaves}
use Rattle.trees.specs.Moves.{Solutions, nothing, Keeps, Unifier, Stamped, Good, Adds, Leads, Move, Run, pren, Inverts, Walk, Fails, FrozenIn}

-- ANSWERS

-- F is the answer of (D, σ): a solved hole's solution with all solved holes expanded, an unsolved hole itself.
abbrev pub alone : Option (List Ty × ℕ) → ℕ → Tree
alone none h = hol h []
alone (some c) h = itself (length c.0) h

abbrev pub expand_at : Sig → (ℕ → Tree) → Option Tree → ℕ → Tree
expand_at D F none h = alone (D h) h
expand_at D F (some s) h = inst F s

abbrev pub Expansion : Sig → Solutions → (ℕ → Tree) → Type 0
Expansion D σ F = (h : ℕ) → F h ≡ expand_at D F (σ h) h

-- A hole left: it occurs in what F gives for some hole of D. And θ is F followed by ρ, on the holes of D.
abbrev pub Remains : Sig → (ℕ → Tree) → ℕ → Type 0
Remains D F g = (h : ℕ) × (c : List Ty × ℕ) × (D h ≡ some c) × Occurs g (F h)

abbrev pub Follows : Sig → (ℕ → Tree) → (ℕ → Tree) → (ℕ → Tree) → Type 0
Follows D F ρ θ = (h : ℕ) (c : List Ty × ℕ) → D h ≡ some c → θ h ≡ inst ρ (F h)

-- F, over the holes E, is a most general unifier of the equations ps over the holes D; X is any signature of further holes.
pub record Principal (S : ℕ → Option Ty) (D : Sig) (ps : Pairs) (E : Sig) (F : ℕ → Tree) : Type 0 where
  -- F is typed, makes every equation equal, and is idempotent
  pub typed : Fills S E E F
  pub unifies : Equates F ps
  pub stable : (h : ℕ) (c : List Ty × ℕ) → E h ≡ some c → inst F (F h) ≡ F h
  -- every typed filling that makes all equations equal is F followed by a typed filling
  pub factors : (X : Sig) (θ : ℕ → Tree) → Fills S D X θ → Equates θ ps → (ρ : ℕ → Tree) × Fills S E X ρ × Follows D F ρ θ
  -- any two such, typed on the holes left, agree on every hole left
  pub unique : (X : Sig) (θ ρ π : ℕ → Tree) → ((g : ℕ) → Remains D F g → FillsAt S E X ρ g) → ((g : ℕ) → Remains D F g → FillsAt S E X π g)
      → Follows D F ρ θ → Follows D F π θ → (g : ℕ) → Remains D F g → ρ g ≡ π g

-- STATEMENTS

module _ (S : ℕ → Option Ty) (Frozen : ℕ → Type 0) where
  -- Demand 3, solved: a run from typed equations, with nothing solved, to no pair gives one answer, and it is a most general unifier.
  abbrev pub SolvedIsMostGeneral : Type 0
  SolvedIsMostGeneral =
      (D : Sig) (ps : Pairs) (E : Sig) (τ : Solutions) → PairsTyped S D ps → Run S Frozen D nothing ps E τ []
      → ((F : ℕ → Tree) × Expansion E τ F) × ((F : ℕ → Tree) → Expansion E τ F → Principal S D ps E F)

  -- No hole left is solved.
  abbrev pub LeftIsUnsolved : Type 0
  LeftIsUnsolved =
      (D : Sig) (ps : Pairs) (E : Sig) (τ : Solutions) (F : ℕ → Tree) → PairsTyped S D ps → Run S Frozen D nothing ps E τ [] → Expansion E τ F
      → (g : ℕ) → Remains D F g → τ g ≡ none

  -- Demand 3, frozen holes: the answer leaves them as they are, and if θ does then so does the filling that takes the answer to θ.
  abbrev pub SolvedLeavesFrozen : Type 0
  SolvedLeavesFrozen =
      (D : Sig) (ps : Pairs) (E : Sig) (τ : Solutions) (F : ℕ → Tree) → PairsTyped S D ps → Run S Frozen D nothing ps E τ [] → Expansion E τ F
      → Leaves Frozen D F × ((θ ρ : ℕ → Tree) (X : Sig) → Fills S E X ρ → Follows D F ρ θ → Leaves Frozen D θ → Leaves Frozen D ρ)

  -- Demand 3, clash, escape and occurs: no typed filling that leaves the frozen holes as they are makes all equations equal.
  abbrev pub FailedHasNoFilling : Type 0
  FailedHasNoFilling =
      (D : Sig) (ps : Pairs) (E : Sig) (τ : Solutions) (qs : Pairs) → FrozenIn Frozen D → PairsTyped S D ps → Run S Frozen D nothing ps E τ qs
      → Fails Frozen E τ qs → (X : Sig) (θ : ℕ → Tree) → Fills S D X θ → Leaves Frozen D θ → ¬ (Equates θ ps)

  -- Demand 3, order: of two orders of the equations, if one run is solved then no run of the other fails, and its answer serves both.
  abbrev pub OrderIsFree : Type 0
  OrderIsFree =
      (D : Sig) (ps qs : Pairs) (E : Sig) (τ : Solutions) (F : ℕ → Tree) → FrozenIn Frozen D → PairsTyped S D ps → Permᴰ ps qs
      → Run S Frozen D nothing ps E τ [] → Expansion E τ F
      → Principal S D qs E F × ((H : Sig) (υ : Solutions) (rs : Pairs) → Run S Frozen D nothing qs H υ rs → ¬ (Fails Frozen H υ rs))

  -- Each move, and so each run, keeps exactly the unifiers, and solves no frozen hole.
  abbrev pub RunsKeepUnifiers : Type 0
  RunsKeepUnifiers =
      (D : Sig) (σ : Solutions) (ps : Pairs) (E : Sig) (τ : Solutions) (qs : Pairs) → Good S D σ ps → Run S Frozen D σ ps E τ qs
      → Leads S Frozen D σ ps E τ qs

  -- The walk of the other side of the pair U xs = t is a run of narrowings, and what it wrote is, for every filling that keeps the solutions, what
  -- it read. Then solving U by what was written is a move.
  abbrev pub WalkSolves : Type 0
  WalkSolves =
      (u : ℕ) (D : Sig) (σ : Solutions) (ps : Pairs) (xs : List ℕ) (p : ℕ → Option ℕ) (t s : Tree) (E : Sig) (τ : Solutions)
      → Good S D σ ((hol u xs, t) ∷ ps) → Inverts p xs → Walk Frozen u D σ p t E τ s
      → Run S Frozen D σ ((hol u xs, t) ∷ ps) E τ ((hol u xs, t) ∷ ps)
      × ((X : Sig) (θ : ℕ → Tree) → Fills S E X θ → Keeps θ τ → pren p (inst θ t) ≡ some (inst θ s))
      × ((υ : Solutions) → (Frozen u → ⊥) → Adds τ u s υ → Move S Frozen E τ ((hol u xs, t) ∷ ps) E υ ps)

  -- A state whose first pair fails has no unifier that leaves the frozen holes as they are.
  abbrev pub FailedIsStuck : Type 0
  FailedIsStuck =
      (D : Sig) (σ : Solutions) (ps : Pairs) → FrozenIn Frozen D → Good S D σ ps → Fails Frozen D σ ps
      → (X : Sig) (θ : ℕ → Tree) → Fills S D X θ → Leaves Frozen D θ → ¬ (Unifier θ σ ps)

-- Solutions that are in order have exactly one answer.
abbrev pub OrderedHasOneAnswer : Type 0
OrderedHasOneAnswer =
    (D : Sig) (σ : Solutions) → Stamped σ
    → ((F : ℕ → Tree) × Expansion D σ F) × ((F H : ℕ → Tree) → Expansion D σ F → Expansion D σ H → (h : ℕ) → F h ≡ H h)
