-- Tests in any order, tests over joined lists, and the numbers below a number.
use Prim.Native.Nat.{ℕ, suc}
use mathlib.Core.Path.{◌≡◌, refl, sym, ap, ◌∙◌}
use mathlib.Core.Bool.{Bool, true, false}
use mathlib.Core.List.{List, [], ◌∷◌, ◌++◌}
use lib.Dec.{eqb}
use Rattle.rules.specs.Lists.{both, either, all, any, among, below}
use Rattle.laws.specs.Tests.{both_no, both-alone}
use Rattle.laws.specs.Noted.{below_more}

-- Two tests, in any order

pub both_turn : (a b : Bool) → both a b ≡ both b a
unfolding both
both_turn true b = sym (both-alone b)
both_turn false b = sym (both_no b)

both_last : (a b c : Bool) → both (both a b) c ≡ both a (both b c)
unfolding both
both_last true b c = refl
both_last false b c = refl

pub both_swap : (a b c d : Bool) → both (both a b) (both c d) ≡ both (both a c) (both b d)
both_swap a b c d = both_last a b (both c d) ∙ ap (both a) (both_between b c d) ∙ sym (both_last a c (both b d))
  where
    both_between : (x y z : Bool) → both x (both y z) ≡ both y (both x z)
    both_between x y z = sym (both_last x y z) ∙ ap (λ b. both b z) (both_turn x y) ∙ both_last y x z

pub both_outer : (a b c d : Bool) → both a (both b (both c d)) ≡ both (both a d) (both b c)
both_outer a b c d = sym (both_swap a d b c ∙ both_last a b (both d c) ∙ ap (λ e. both a (both b e)) (both_turn d c))

-- Lists

all_append : (ok : ℕ → Bool) (xs ys : List ℕ) → all ok (xs ++ ys) ≡ both (all ok xs) (all ok ys)
unfolding all
all_append ok [] ys = unfold both in refl
all_append ok (x ∷ xs) ys = rw (all_append ok xs ys) (sym (both_last (ok x) (all ok xs) (all ok ys)))

pub all-below : (ok : ℕ → Bool) (r : ℕ) → all ok (below (suc r)) ≡ both (ok r) (all ok (below r))
unfolding all
all-below ok r = rw (below_more r, all_append ok (below r) (r ∷ []), both-alone (ok r)) (both_turn (all ok (below r)) (ok r))

pub among-append : (xs ys : List ℕ) (v : ℕ) → among (xs ++ ys) v ≡ either (among xs v) (among ys v)
unfolding among any
among-append [] ys v = unfold either in refl
among-append (x ∷ xs) ys v = rw (among-append xs ys v) (sym (last (eqb x v) (any (λ y. eqb y v) xs) (any (λ y. eqb y v) ys)))
  where
    last : (a b c : Bool) → either (either a b) c ≡ either a (either b c)
    last true b c = unfold either in refl
    last false b c = unfold either in refl
