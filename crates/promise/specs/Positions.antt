-- A list that stands in another from a position on.
use Rattle.std.specs.Prelude.{ℕ, suc, ◌+◌, ◌<◌, ◌≡◌, List, ◌∷◌, length}
use Rattle.std.proofs.Common.{ap, arith}
use Rattle.trees.specs.Tree.{nth}

-- xs stands in ys from i on
abbrev pub StandsIn : ℕ → List ℕ → List ℕ → Type 0
StandsIn i xs ys = (j : ℕ) → j < length xs → nth ys (i + j) ≡ nth xs j

pub stands_on : (i x : ℕ) (xs ys : List ℕ) → StandsIn i (x ∷ xs) ys → StandsIn (i + 1) xs ys
stands_on i x xs ys s j h = let k : i + 1 + j ≡ i + suc j = omega arith in rw k (s (suc j) (omega arith))

pub stands_here : (i x : ℕ) (xs ys : List ℕ) → StandsIn i (x ∷ xs) ys → nth ys i ≡ x
stands_here i x xs ys s = let k : i + 0 ≡ i = omega arith in rw k at (s 0 (omega arith))

pub stands_whole : (xs : List ℕ) → StandsIn 0 xs xs
stands_whole xs j h = let e : 0 + j ≡ j = omega arith in ap (nth xs) e
