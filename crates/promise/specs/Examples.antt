-- The run's fillings at examples of the document, by computation: what the functions of Table say.
use Rattle.std.specs.Prelude.{ℕ, ◌*◌, ◌-◌, ◌/◌, ◌≡◌, refl, List, [], ◌∷◌, ◌++◌, map, length, get_or, replicate}
use Rattle.rules.specs.Solve.{Behind, solve}
use Rattle.rules.specs.All.{everything}
use Rattle.rules.specs.Table.{Example, example, examples}
use Rattle.trees.specs.Tree.{Tree, con, var, hol, nil, cons}
use Rattle.promise.specs.Table.{holes, solution_of, tree_at, type_at, spine, expanded, filling}
use Rattle.promise.specs.Demand.{Solver, left}

-- an example's table words, and its number of records
abbrev pub table : Example → List ℕ
table e = e.input ++ replicate (4 * e.room - length e.input) 0

abbrev pub count : Example → ℕ
count e = length e.input / 4

-- what a solver leaves behind at an example
abbrev pub tried : Solver → Example → Behind
tried f e = f (table e) (replicate e.room 0) (replicate (2 * e.capacity) 0) (count e)

-- the example of this number
abbrev pub P : ℕ → Example
P k = get_or examples (k - 1) (example [] 0 0 0 0 0)

-- example, input hole, and what fills it; a further hole has the number of its record
abbrev filled : List (ℕ × ℕ × Tree)
filled =
    (6, 8, hol 24 []) ∷
    (8, 8, hol 10 (1 ∷ [])) ∷
    (8, 10, hol 10 (0 ∷ [])) ∷
    (9, 7, hol 25 (0 ∷ [])) ∷
    (9, 10, hol 25 (0 ∷ [])) ∷
    (10, 7, con 4 (cons (hol 27 (0 ∷ [])) nil)) ∷
    (10, 10, hol 27 (0 ∷ [])) ∷
    (12, 6, hol 7 []) ∷
    (12, 7, hol 7 []) ∷
    (13, 8, var 0 (cons (con 3 nil) nil)) ∷
    []

pub examples-filled : map (λ e. filling (left (tried solve (P e.0))) e.1) filled ≡ map (λ e. e.2) filled
unfolding everything examples holes solution_of tree_at type_at spine expanded filling
examples-filled = refl
