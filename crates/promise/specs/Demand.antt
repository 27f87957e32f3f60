-- Demand 3 as statements, to be read without the proofs: what the answers of solving mean, and what show writes. Theorems proves them.
use Rattle.std.specs.Prelude.{ℕ, ◌*◌, ◌-◌, ◌<◌, ◌≤◌, ◌≡◌, ◌≢◌, ◌⊎◌, get_or}
use mathlib.Core.List.{List, [], map, Permᴰ}
use Rattle.std.proofs.Math.Option.{none, some}
use Rattle.rules.specs.Lists.{from}
use Rattle.rules.specs.Words.{tag, field_a, field_b, field_c, NONE, EQ}
use Rattle.rules.specs.Store.{Store}
use Rattle.rules.specs.Machine.{Pair}
use Rattle.rules.specs.Solve.{Behind, solve}
use Rattle.rules.specs.Show.{show}
use Rattle.rules.specs.Text.{shown_text}
use Rattle.trees.specs.Tree.{Ty, Tree, inst, Occurs, at, Sig, HasTy, Fills, FillsAt, Equates}
use Rattle.trees.specs.Statements.{Expansion}
use Rattle.promise.specs.Table.{type_of, tree_of, constants, holes, sides, solution_of, filling}
use Rattle.promise.specs.Notation.{notation}

-- Words of `trees`: `HasTy` types trees, and a typed tree is a pattern; `inst θ t` is t with its holes filled by θ; `Fills S D X θ` says that θ
-- gives each hole of D a typed term over its context, with constants of S and holes of X; `Equates θ ps` that θ makes each pair's sides equal.

-- what is left behind: table and solution words, and the number of records used
abbrev pub left : Behind → Store
left b = record { words = b.table; solutions = b.solutions; used = b.said.used }

-- the holes that a store declares
abbrev pub holes_in : Store → Sig
holes_in s = holes s.words s.used

-- h is an input hole
abbrev pub Input : List ℕ → ℕ → ℕ → Type 0
Input ws n h = (c : List Ty × ℕ) × (holes ws n h ≡ some c)

-- both sides of every equation are typed patterns at its type, with no variable bound
abbrev pub TypedPatterns : List ℕ → ℕ → Type 0
TypedPatterns ws n = (e : ℕ) → e < n → tag ws e ≡ EQ
    → HasTy (constants ws n) (holes ws n) [] (tree_of ws (field_a ws e)) (at (type_of ws (field_c ws e)))
    × HasTy (constants ws n) (holes ws n) [] (tree_of ws (field_b ws e)) (at (type_of ws (field_c ws e)))

-- a filling that solves the equations: it gives each input hole a typed term over its context, in which holes of any signature X occur as
-- patterns, and makes both sides of every equation equal
pub record Unifies (ws : List ℕ) (n : ℕ) (X : Sig) (θ : ℕ → Tree) : Type 0 where
  pub typed : Fills (constants ws n) (holes ws n) X θ
  pub equal : Equates θ (sides ws n)

module _ (ws : List ℕ) (n : ℕ) (s : Store) where
  -- a hole left: it occurs in what the run's filling gives some input hole
  abbrev pub Left : ℕ → Type 0
  Left g = (h : ℕ) × Input ws n h × Occurs g (filling s h)

  -- a filling of the holes left gives each of those a typed term over its context
  abbrev pub FillsLeft : Sig → (ℕ → Tree) → Type 0
  FillsLeft X ρ = (g : ℕ) → Left g → FillsAt (constants ws n) (holes_in s) X ρ g

  -- θ is, on every input hole, the run's filling followed by ρ
  abbrev pub Follows : (ℕ → Tree) → (ℕ → Tree) → Type 0
  Follows ρ θ = (h : ℕ) → Input ws n h → θ h ≡ inst ρ (filling s h)

  -- POINTS 1 AND 2: the store s answers the equations among the first n records of ws
  pub record MostGeneral : Type 0 where
    -- input holes stay as they are
    pub input : (h : ℕ) (c : List Ty × ℕ) → holes ws n h ≡ some c → holes_in s h ≡ some c
    -- the run's filling gives each hole its solution with all solved holes expanded, an unsolved hole itself; nothing else does
    pub expands : Expansion (holes_in s) (solution_of s) (filling s)
    pub only : (F : ℕ → Tree) → Expansion (holes_in s) (solution_of s) F → (h : ℕ) → filling s h ≡ F h
    -- the holes left are unsolved
    pub unsolved : (g : ℕ) → Left g → solution_of s g ≡ none
    -- 1: the filling is typed, makes both sides of every equation equal, and is idempotent
    pub typed : Fills (constants ws n) (holes_in s) (holes_in s) (filling s)
    pub equal : Equates (filling s) (sides ws n)
    pub idempotent : (h : ℕ) (c : List Ty × ℕ) → holes_in s h ≡ some c → inst (filling s) (filling s h) ≡ filling s h
    -- 2: every filling that solves the equations is this one followed by a filling of the holes left, and by one only
    pub follows : (X : Sig) (θ : ℕ → Tree) → Unifies ws n X θ → (ρ : ℕ → Tree) × FillsLeft X ρ × Follows ρ θ
    pub one : (X : Sig) (θ ρ π : ℕ → Tree) → FillsLeft X ρ → Follows ρ θ → FillsLeft X π → Follows π θ → (g : ℕ) → Left g → ρ g ≡ π g

-- what the answers mean
pub record Means (ws : List ℕ) (n : ℕ) (b : Behind) : Type 0 where
  -- 0: points 1 and 2
  pub solved : b.said.answer ≡ 0 → MostGeneral ws n (left b)
  -- POINT 3. 1, 2, 3: no filling solves the equations
  pub refuted : 1 ≤ b.said.answer → b.said.answer ≤ 3 → (X : Sig) (θ : ℕ → Tree) → ¬ (Unifies ws n X θ)
  -- 6, 7: some side is not a typed pattern at its equation's type; past 4 to 7 every side is
  pub refused : 6 ≤ b.said.answer → b.said.answer ≤ 7 → ¬ (TypedPatterns ws n)
  pub passed : (b.said.answer ≤ 3) ⊎ (8 ≤ b.said.answer) → TypedPatterns ws n

-- left and right sides of k records from i on
abbrev pub pairs_from : List ℕ → ℕ → ℕ → List Pair
pairs_from ws i k = map (λ e. (field_a ws e, field_b ws e)) (from i k)

-- two tables of n records differ only in the order of the records from k on, all of them equations
pub record Reordered (k n : ℕ) (ws vs : List ℕ) : Type 0 where
  pub within : k ≤ n
  pub same : (i : ℕ) → i < 4 * k → get_or vs i 0 ≡ get_or ws i 0
  pub last : (r : ℕ) → k ≤ r → r < n → (tag ws r ≡ EQ) × (tag vs r ≡ EQ)
  pub order : Permᴰ (pairs_from ws k (n - k)) (pairs_from vs k (n - k))

-- table, solution and queue words and a number of input records to what is left behind
abbrev pub Solver : Type 0
Solver = List ℕ → List ℕ → List ℕ → ℕ → Behind

-- DEMAND 2, of a solver: the answer and every lent word are those of the machine
abbrev pub Demand2 : Solver → Type 0
Demand2 solver = (ws ss qs : List ℕ) (n : ℕ) → solver ws ss qs n ≡ solve ws ss qs n

-- DEMAND 3, of a solver
pub record Demand3 (solver : Solver) : Type 0 where
  -- every input is answered: no definition of the rules runs out of fuel
  pub answered : (ws ss qs : List ℕ) (n : ℕ) → (solver ws ss qs n).said.answer ≢ NONE
  pub means : (ws ss qs : List ℕ) (n : ℕ) → Means ws n (solver ws ss qs n)
  -- POINT 4: if one order of the equations that come last is answered 0, no other is answered 1, 2 or 3
  pub order : (ws ss qs vs ts rs : List ℕ) (k n : ℕ) → Reordered k n ws vs → (solver ws ss qs n).said.answer ≡ 0
      → 1 ≤ (solver vs ts rs n).said.answer → (solver vs ts rs n).said.answer ≤ 3 → ⊥

-- SHOW: where it answers 0 the record is an input hole, solving answers 0, the output, whose head is its last record, reads as the run's
-- filling of the hole, and what is printed of it is that tree's notation
pub record ShowMeans (ws ss qs os : List ℕ) (n h : ℕ) : Type 0 where
  pub input : Input ws n h
  pub solved : (solve ws ss qs n).said.answer ≡ 0
  pub output : tree_of (show ws ss qs os n h).output ((show ws ss qs os n h).behind.said.used - 1) ≡ filling (left (solve ws ss qs n)) h
  pub text : shown_text (show ws ss qs os n h) ≡ notation (filling (left (solve ws ss qs n)) h)

abbrev pub ShowDemand : Type 0
ShowDemand = (ws ss qs os : List ℕ) (n h : ℕ) → (show ws ss qs os n h).behind.said.answer ≡ 0 → ShowMeans ws ss qs os n h
