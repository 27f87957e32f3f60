-- The printed notation of a tree, as bytes.
use Rattle.std.specs.Prelude.{List, [], ◌∷◌, ◌++◌, map}
use Rattle.rules.specs.Text.{Bytes, decimal, brackets}
use Rattle.trees.specs.Tree.{Tree, lam, con, var, hol, nil, cons}

-- `\` (92) then body; `c` (99), `v` (118) or `h` (104) with its number, and arguments in round brackets parted by commas, no brackets when none
unfoldable mutual
  pub notation : Tree → Bytes
  notation (lam t) = 92 ∷ notation t
  notation (con c a) = 99 ∷ (decimal c ++ brackets (notations a))
  notation (var v a) = 118 ∷ (decimal v ++ brackets (notations a))
  notation (hol h xs) = 104 ∷ (decimal h ++ brackets (map (λ v. 118 ∷ decimal v) xs))
  notation nil = []
  notation (cons t a) = []

  -- of each argument of a list
  pub notations : Tree → List Bytes
  notations (lam t) = []
  notations (con c a) = []
  notations (var v a) = []
  notations (hol h xs) = []
  notations nil = []
  notations (cons t a) = notation t ∷ notations a
