-- Renaming: identity and composition.
use Rattle.std.specs.Prelude.{◌≡◌, refl, List, [], ◌∷◌, map, ℕ, zero, suc}
use Rattle.std.proofs.Common.{◌∙◌, ap, ap₂}
use Rattle.std.proofs.Math.Path.{fun_ext}
use Rattle.trees.specs.Tree.{Tree, lam, con, var, hol, nil, cons, lift, ren}

lift_id : lift (λ n. n) ≡ (λ n. n)
lift_id = fun_ext (elim [ zero ↦ refl | suc n ↦ refl ])

lift_comp : (g f : ℕ → ℕ) → (λ n. lift g (lift f n)) ≡ lift (λ n. g (f n))
lift_comp g f = fun_ext (elim [ zero ↦ refl | suc n ↦ refl ])

map_id : (xs : List ℕ) → map (λ n. n) xs ≡ xs
map_id [] = refl
map_id (x ∷ xs) = ap (x ∷◌) (map_id xs)

map_comp : (g f : ℕ → ℕ) (xs : List ℕ) → map g (map f xs) ≡ map (λ n. g (f n)) xs
map_comp g f [] = refl
map_comp g f (x ∷ xs) = ap (g (f x) ∷◌) (map_comp g f xs)

pub ren_id : (t : Tree) → ren (λ n. n) t ≡ t
ren_id (lam t) = ap lam (ap (λ f. ren f t) lift_id ∙ ren_id t)
ren_id (con c a) = ap (con c) (ren_id a)
ren_id (var v a) = ap (var v) (ren_id a)
ren_id (hol h xs) = ap (hol h) (map_id xs)
ren_id nil = refl
ren_id (cons t a) = ap₂ cons (ren_id t) (ren_id a)

pub ren_comp : (g f : ℕ → ℕ) (t : Tree) → ren g (ren f t) ≡ ren (λ n. g (f n)) t
ren_comp g f (lam t) = ap lam (ren_comp (lift g) (lift f) t ∙ ap (λ k. ren k t) (lift_comp g f))
ren_comp g f (con c a) = ap (con c) (ren_comp g f a)
ren_comp g f (var v a) = ap (var (g (f v))) (ren_comp g f a)
ren_comp g f (hol h xs) = ap (hol h) (map_comp g f xs)
ren_comp g f nil = refl
ren_comp g f (cons t a) = ap₂ cons (ren_comp g f t) (ren_comp g f a)
