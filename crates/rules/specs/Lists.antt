-- Tests and lists, as far as the rules need them.
use Rattle.std.specs.Prelude.{ℕ, zero, suc, ◌+◌, min, Bool, true, false, not, ◌&&◌, ◌||◌, List, [], ◌∷◌, eqb, Option, Some, None}

-- the fuel of every recursion that follows records, 2 to the 64th: more calls one inside another than a table of at most 4,096 records
-- can ask for. A definition that carries fuel says at its head what the fuel bounds
abbrev pub enough : ℕ
enough = 18446744073709551616

-- both tests pass
unfoldable pub both : Bool → Bool → Bool
both a b = a && b

-- one of the tests passes
unfoldable pub either : Bool → Bool → Bool
either a b = a || b

-- every element passes
unfoldable pub all : (ℕ → Bool) → List ℕ → Bool
all ok [] = true
all ok (x ∷ xs) = both (ok x) (all ok xs)

-- some element passes
unfoldable pub any : (ℕ → Bool) → List ℕ → Bool
any ok [] = false
any ok (x ∷ xs) = either (ok x) (any ok xs)

-- as many of the one as of the other, and each pair passes
unfoldable pub each : (ℕ → ℕ → Bool) → List ℕ → List ℕ → Bool
each ok [] [] = true
each ok [] (y ∷ ys) = false
each ok (x ∷ xs) [] = false
each ok (x ∷ xs) (y ∷ ys) = both (ok x y) (each ok xs ys)

-- x is among them
unfoldable pub among : List ℕ → ℕ → Bool
among xs x = any (λ y. eqb y x) xs

-- no number comes twice
unfoldable pub distinct : List ℕ → Bool
distinct [] = true
distinct (x ∷ xs) = both (not (among xs x)) (distinct xs)

-- those that pass, in order
unfoldable pub those : (ℕ → Bool) → List ℕ → List ℕ
those ok [] = []
those ok (x ∷ xs) = elim (ok x) [ true ↦ x ∷ those ok xs | false ↦ those ok xs ]

-- the least of them and a bound
unfoldable pub least : ℕ → List ℕ → ℕ
least bound [] = bound
least bound (x ∷ xs) = min x (least bound xs)

-- k numbers from i on
unfoldable pub from : ℕ → ℕ → List ℕ
from i zero = []
from i (suc k) = i ∷ from (i + 1) k

-- the numbers below n
unfoldable pub below : ℕ → List ℕ
below n = from 0 n

-- the first of k numbers from i on that passes
unfoldable pub first : ℕ → (ℕ → Bool) → ℕ → Option ℕ
first zero ok i = None
first (suc k) ok i = elim (ok i) [ true ↦ Some i | false ↦ first k ok (i + 1) ]

-- the lowest number below n that passes
unfoldable pub lowest : ℕ → (ℕ → Bool) → Option ℕ
lowest n ok = first n ok 0
