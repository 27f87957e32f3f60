-- The size of a tree, which renaming keeps.
use Rattle.std.specs.Prelude.{◌≡◌, refl, ℕ, suc, ◌+◌}
use Rattle.std.proofs.Common.{ap, ap₂}
use Rattle.trees.specs.Tree.{Tree, lam, con, var, hol, nil, cons, lift, ren}

abbrev pub size : Tree → ℕ
size (lam t) = suc (size t)
size (con c a) = suc (size a)
size (var v a) = suc (size a)
size (hol h xs) = 0
size nil = 0
size (cons t a) = suc (size t + size a)

pub size-ren : (f : ℕ → ℕ) (t : Tree) → size (ren f t) ≡ size t
size-ren f (lam t) = ap suc (size-ren (lift f) t)
size-ren f (con c a) = ap suc (size-ren f a)
size-ren f (var v a) = ap suc (size-ren f a)
size-ren f (hol h xs) = refl
size-ren f nil = refl
size-ren f (cons t a) = ap₂ (λ m n. suc (m + n)) (size-ren f t) (size-ren f a)
