-- A record of the right shape that refers once each to records that are free keeps the rules.
use Rattle.std.specs.Prelude.{ℕ, ◌<◌, ◌≤◌, Bool, true, false, not, leb}
use Rattle.std.proofs.Math.Path.{◌≡◌, refl}
use Rattle.std.proofs.Common.{ne_eqb}
use mathlib.Core.List.{List, [], ◌∷◌}
use Rattle.std.proofs.lemmas.Bool.{lt-leb}
use Rattle.rules.specs.Lists.{both, either, all, any, among, distinct, below}
use Rattle.rules.specs.Words.{tag, is_type}
use Rattle.rules.specs.Records.{new_type, uses, first_use, keeps}
use Rattle.laws.specs.Tests.{both_no, both_yes, either_left}
use Rattle.invariants.specs.Floor.{All}
use Rattle.invariants.specs.Grow.{all_map}
use Rattle.legal.specs.Stay.{below_all}
use Rattle.legal.specs.Right.{Free, Right}

among_no : (xs : List ℕ) (x : ℕ) → All (λ y. y ≡ x → ⊥) xs → among xs x ≡ false
unfolding among any either
among_no [] x h = refl
among_no (y ∷ ys) x h = rw (ne_eqb _ _ h.0) (among_no ys x h.1)

all_yes : (ok : ℕ → Bool) (xs : List ℕ) → All (λ x. ok x ≡ true) xs → all ok xs ≡ true
unfolding all both
all_yes ok [] h = refl
all_yes ok (x ∷ xs) h = rw h.0 (all_yes ok xs h.1)

-- if what it refers to is free, it is its first use
free-first : (ws : List ℕ) (r : ℕ) → distinct (uses ws r) ≡ true → All (Free ws r) (uses ws r) → first_use ws r ≡ true
unfolding first_use
free-first ws r d h = both_yes _ _ d (all_yes (λ x. all (λ j. not (among (uses ws j) x)) (below r)) (uses ws r)
    (all_map (Free ws r) (λ x. all (λ j. not (among (uses ws j) x)) (below r) ≡ true) one (uses ws r) h))
  where
    one : (x : ℕ) → Free ws r x → all (λ j. not (among (uses ws j) x)) (below r) ≡ true
    one x f = all_yes (λ j. not (among (uses ws j) x)) (below r)
        (all_map (λ j. j < r) (λ j. not (among (uses ws j) x) ≡ true) (λ j l. rw (among_no (uses ws j) x (f j l))) (below r) (below_all r))

-- it is no type, so that it equals none
untyped : (ws : List ℕ) (r : ℕ) → 3 ≤ tag ws r → is_type ws r ≡ false
unfolding is_type
untyped ws r h = rw (lt-leb (tag ws r) 2 h) (both_no (leb 1 (tag ws r)))

-- and it keeps the rules
pub right_keeps : (ws : List ℕ) (r : ℕ) → Right ws r (Free ws r) → keeps ws r ≡ true
unfolding keeps new_type
right_keeps ws r h =
    both_yes _ _ h.shaped_so (both_yes _ _ h.listed_so (both_yes _ _ (either_left _ _ (let z = untyped ws r h.no_type in rw z)) (free-first ws r h.once h.used)))
