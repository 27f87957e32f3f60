-- References are the first, one after the other: none is used by a lower record, and none comes twice.
use Prim.Native.Nat.{ℕ, zero, suc}
use mathlib.Core.Path.{◌≡◌, refl, sym, ap, ◌∙◌}
use mathlib.Core.Bool.{Bool, true, false, not}
use mathlib.Core.List.{List, [], ◌∷◌}
use native.Mathlib.Decide.{ℕ_discrete}
use borrow.Author.Tests.{eq-eqb, ne_eqb}
use lib.Dec.{eqb}
use Rattle.rules.specs.Lists.{both, either, all, any, among, distinct, from, below}
use Rattle.rules.specs.Records.{uses, first_use}
use Rattle.records.specs.Marks.{used, fresh}
use Rattle.records.proofs.Joined.{all-below, among-append, both_turn, both_swap, both_outer}

-- Lists and tests

all_same : (f g : ℕ → Bool) → ((x : ℕ) → f x ≡ g x) → (xs : List ℕ) → all f xs ≡ all g xs
unfolding all
all_same f g h [] = refl
all_same f g h (x ∷ xs) = rw (h x, all_same f g h xs)

all_both : (f g : ℕ → Bool) (xs : List ℕ) → all (λ y. both (f y) (g y)) xs ≡ both (all f xs) (all g xs)
unfolding all
all_both f g [] = unfold both in refl
all_both f g (x ∷ xs) = rw (all_both f g xs) (both_swap (f x) (g x) (all f xs) (all g xs))

eqb_sym : (x y : ℕ) → eqb x y ≡ eqb y x
eqb_sym x y = go (ℕ_discrete x y)
  where
    go : Dec (x ≡ y) → eqb x y ≡ eqb y x
    go (yes e) = eq-eqb x y e ∙ sym (eq-eqb y x (sym e))
    go (no e) = ne_eqb x y e ∙ sym (ne_eqb y x (λ q. e (sym q)))

not_either : (a b : Bool) → not (either a b) ≡ both (not a) (not b)
unfolding either both
not_either true b = refl
not_either false b = refl

none_is : (x : ℕ) (xs : List ℕ) → all (λ y. not (eqb x y)) xs ≡ not (among xs x)
unfolding all among any
none_is x [] = refl
none_is x (y ∷ ys) = rw (eqb_sym x y, none_is x ys) (sym (not_either (eqb y x) (any (λ z. eqb z x) ys)))

-- None is used before, and none comes twice

fresh_is : (xs u : List ℕ) → fresh u xs ≡ both (distinct xs) (all (λ x. not (among u x)) xs)
unfolding fresh distinct all
fresh_is [] u = unfold both in refl
fresh_is (x ∷ xs) u =
    rw (fresh_is xs (x ∷ u), parted) (shuffle (not (among u x)) (distinct xs) (not (among xs x)) (all (λ y. not (among u y)) xs))
  where
    parted : all (λ y. not (among (x ∷ u) y)) xs ≡ both (not (among xs x)) (all (λ y. not (among u y)) xs)
    parted =
        all_same (λ y. not (among (x ∷ u) y)) (λ y. both (not (eqb x y)) (not (among u y))) (λ y. unfold among in unfold any in not_either (eqb x y) (any (λ z. eqb z y) u)) xs ∙
        all_both (λ y. not (eqb x y)) (λ y. not (among u y)) xs ∙
        ap (λ b. both b (all (λ y. not (among u y)) xs)) (none_is x xs)

    shuffle : (a d n r : Bool) → both a (both d (both n r)) ≡ both (both n d) (both a r)
    shuffle a d n r = both_outer a d n r ∙ both_turn (both a r) (both d n) ∙ ap (λ b. both b (both a r)) (both_turn d n)

unused : (ws : List ℕ) (r x : ℕ) → all (λ j. not (among (uses ws j) x)) (below r) ≡ not (among (used ws r) x)
unfolding used
unused ws zero x = unfold below in unfold from in unfold all in unfold among in unfold any in refl
unused ws (suc r) x =
    all-below (λ j. not (among (uses ws j) x)) r ∙
    rw (unused ws r x, among-append (uses ws r) (used ws r) x, not_either (among (uses ws r) x) (among (used ws r) x))

pub first_use_is : (ws : List ℕ) (r : ℕ) → first_use ws r ≡ fresh (used ws r) (uses ws r)
unfolding first_use
first_use_is ws r =
    ap (both (distinct (uses ws r))) (all_same _ _ (λ x. unused ws r x) (uses ws r)) ∙ sym (fresh_is (uses ws r) (used ws r))
