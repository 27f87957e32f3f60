-- A table as types, trees, constants, holes, equations and solutions, and the run's filling: the functions that the promises name.
use Rattle.std.specs.Prelude.{ℕ, zero, suc, List, [], ◌∷◌, map, true, false, ltb}
use Rattle.std.proofs.Math.Option.{Option, none, some}
use Rattle.rules.specs.Lists.{both, all, enough}
use Rattle.rules.specs.Words.{field_a, field_b, AR, KO, HO, has, lambda, constant, variable, hole, form, elements, arguments, variables, bare}
use Rattle.rules.specs.Store.{Store, solved, solution}
use Rattle.rules.specs.Machine.{Pair, equations}
use Rattle.trees.specs.Tree.{Ty, base, arr, Tree, lam, con, var, hol, nil, cons, Sig, Pairs}
use Rattle.trees.specs.Moves.{Solutions}
use Rattle.trees.specs.Statements.{expand_at}

-- the type that record r is; fuel bounds its nesting, since references go to lower records
unfoldable pub type_at : ℕ → List ℕ → ℕ → Ty
type_at zero ws r = base 0
type_at (suc f) ws r = elim (has ws r AR) [ true ↦ arr (type_at f ws (field_a ws r)) (type_at f ws (field_b ws r)) | false ↦ base (field_a ws r) ]

abbrev pub type_of : List ℕ → ℕ → Ty
type_of ws r = type_at enough ws r

-- an argument list as a tree
unfoldable pub spine : (ℕ → Tree) → List ℕ → Tree
spine tree [] = nil
spine tree (x ∷ xs) = cons (tree x) (spine tree xs)

-- the tree that record r is; a hole occurrence is one where all arguments are bare variables, and otherwise no term
unfoldable pub tree_at : ℕ → List ℕ → ℕ → Tree
tree_at zero ws r = nil
tree_at (suc f) ws r =
    elim (form ws r) [
      | lambda ↦ lam (tree_at f ws (field_a ws r))
      | constant ↦ con (field_a ws r) (spine (λ x. tree_at f ws x) (arguments ws r))
      | variable ↦ var (field_a ws r) (spine (λ x. tree_at f ws x) (arguments ws r))
      | hole ↦ elim (all (bare ws) (arguments ws r)) [ true ↦ hol (field_a ws r) (variables ws r) | false ↦ nil ]
    ]

abbrev pub tree_of : List ℕ → ℕ → Tree
tree_of ws r = tree_at enough ws r

-- the constants among the first n records, each with its type
unfoldable pub constants : List ℕ → ℕ → ℕ → Option Ty
constants ws n c = elim (both (ltb c n) (has ws c KO)) [ true ↦ some (type_of ws (field_a ws c)) | false ↦ none ]

-- the holes among the first n records, each with its context and base type
unfoldable pub holes : List ℕ → ℕ → Sig
holes ws n h =
    elim (both (ltb h n) (has ws h HO)) [ true ↦ some (map (λ x. type_of ws x) (elements ws (field_a ws h)), field_a ws (field_b ws h)) | false ↦ none ]

-- the sides of the equations among the first n records, in record order
abbrev pub pair_of : List ℕ → Pair → Tree × Tree
pair_of ws p = (tree_of ws p.0, tree_of ws p.1)

unfoldable pub sides : List ℕ → ℕ → Pairs
sides ws n = map (pair_of ws) (equations ws n)

-- the solution of a solved hole
unfoldable pub solution_of : Store → Solutions
solution_of s h = elim (both (ltb h s.used) (solved s h)) [ true ↦ some (tree_of s.words (solution s h)) | false ↦ none ]

-- each hole its solution with k levels of solved holes expanded, an unsolved hole itself
unfoldable pub expanded : ℕ → Store → ℕ → Tree
expanded zero s h = expand_at (holes s.words s.used) (λ g. nil) none h
expanded (suc k) s h = expand_at (holes s.words s.used) (λ g. expanded k s g) (solution_of s h) h

-- the run's filling: each hole its solution with all solved holes expanded, of which no more stand one inside another than there are records
unfoldable pub filling : Store → ℕ → Tree
filling s h = expanded s.used s h
