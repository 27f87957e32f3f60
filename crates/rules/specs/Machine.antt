-- The machine: equations enter the queue in record order, pairs leave first in, first out.
use Rattle.std.specs.Prelude.{ℕ, zero, suc, ◌+◌, ◌*◌, Bool, true, false, List, [], ◌∷◌, ◌++◌, map, length, eqb, leb}
use Rattle.rules.specs.declared.Failure.TheVariants.{Clash, QueueFull}
use Rattle.rules.specs.Lists.{both, either, those, below, enough}
use Rattle.rules.specs.Words.{field_a, field_b, LA, CA, VA, HA, EQ, has, arguments, variables}
use Rattle.rules.specs.Store.{Store, Out, goes, spent, fail, ◌>>=◌}
use Rattle.rules.specs.Rewrite.{expand}
use Rattle.rules.specs.Walk.{narrow, assign}

-- a waiting pair: a left and a right side
abbrev pub Pair : Type 0
Pair = ℕ × ℕ

-- a step goes on with a pair, or is done and leaves these pairs waiting
pub data Next : Type 0 where
  on : ℕ → ℕ → Next
  done : List Pair → Next

-- argument pairs in order
unfoldable pub zip : List ℕ → List ℕ → List Pair
zip [] ys = []
zip (x ∷ xs) [] = []
zip (x ∷ xs) (y ∷ ys) = (x, y) ∷ zip xs ys

-- new pairs join the queue, unless waiting pairs plus new ones exceed C
unfoldable pub join : ℕ → List Pair → List Pair → Store → Out (List Pair)
join C q new s = elim (leb (length q + length new) C) [ true ↦ goes s (q ++ new) | false ↦ fail QueueFull s ]

-- the positions, counted from j, at which two lists of arguments agree
unfoldable pub agreeing : ℕ → List ℕ → List ℕ → List ℕ
agreeing j [] ys = []
agreeing j (x ∷ xs) [] = []
agreeing j (x ∷ xs) (y ∷ ys) = elim (eqb x y) [ true ↦ j ∷ agreeing (j + 1) xs ys | false ↦ agreeing (j + 1) xs ys ]

-- step 4: if all arguments agree, done; otherwise narrow the hole to the agreeing positions
unfoldable pub same_hole : ℕ → List Pair → ℕ → ℕ → Store → Out Next
same_hole R q l r s =
    let vs = variables s.words l in
    let ks = agreeing 0 vs (variables s.words r) in
    elim (eqb (length ks) (length vs)) [
      | true ↦ goes s (done q)
      | false ↦ do
        (s₁, new) ← narrow R (field_a s.words l) ks s
        goes s₁ (done q)
    ]

-- a side whose hole may be solved; after step 1 no head is a solved hole
abbrev pub solvable : List ℕ → ℕ → Bool
solvable ws r = has ws r HA

-- step 5: an unsolved hole on the left, else on the right, is solved by the other side; with none, rigid heads meet that differ
unfoldable pub solve_one : ℕ → ℕ → ℕ → Store → Out ℕ
solve_one R l r s =
    elim (solvable s.words l) [
      | true ↦ assign R l r s
      | false ↦ elim (solvable s.words r) [ true ↦ assign R r l s | false ↦ fail Clash s ]
    ]

-- both have this tag and equal heads
unfoldable pub same_head : List ℕ → ℕ → ℕ → ℕ → Bool
same_head ws k l r = both (has ws l k) (both (has ws r k) (eqb (field_a ws l) (field_a ws r)))

-- steps 2 to 5, for two sides whose heads are no solved holes
-- 2: two lambdas: go on with the bodies
-- 3: two applied constants, or two applied variables, with equal heads: the argument pairs join the queue in order
-- 4: the same unsolved hole twice
-- 5: an unsolved hole on one side, else other rigid heads meet
unfoldable pub meet : ℕ → ℕ → List Pair → ℕ → ℕ → Store → Out Next
meet R C q l r s =
    let ws = s.words in
    elim (both (has ws l LA) (has ws r LA)) [
      | true ↦ goes s (on (field_a ws l) (field_a ws r))
      | false ↦ elim (either (same_head ws CA l r) (same_head ws VA l r)) [
        | true ↦ do
          (s₁, q₁) ← join C q (zip (arguments ws l) (arguments ws r)) s
          goes s₁ (done q₁)
        | false ↦ elim (same_head ws HA l r) [
          | true ↦ same_hole R q l r s
          | false ↦ do
            (s₁, t) ← solve_one R l r s
            goes s₁ (done q)
        ]
      ]
    ]

-- a step for the pair taken, while q waits: step 1 for the left side, then for the right side likewise, then steps 2 to 5
unfoldable pub step : ℕ → ℕ → List Pair → ℕ → ℕ → Store → Out Next
step R C q l r s = do
  (s₁, l₁) ← expand enough R l s
  (s₂, r₁) ← expand enough R r s₁
  meet R C q l₁ r₁ s₂

-- the pairs that are next: the one to go on with, before those that wait
unfoldable pub upcoming : List Pair → Next → List Pair
upcoming q (on l r) = (l, r) ∷ q
upcoming q (done q₁) = q₁

-- steps until no pair is left; fuel bounds the steps, each of which writes a record or takes a pair apart
unfoldable pub run : ℕ → ℕ → ℕ → List Pair → Store → Out (List Pair)
run zero R C q s = spent
run (suc f) R C [] s = goes s []
run (suc f) R C (p ∷ q) s = do
  (s₁, next) ← step R C q p.0 p.1 s
  run f R C (upcoming q next) s₁

-- bounds the steps that come of a pair whose left side is record l while none of them writes: the pair is taken apart into at most
-- 16 pairs whose left sides are lower records
unfoldable pub weight : ℕ → ℕ
weight zero = 1
weight (suc l) = 1 + 16 * weight l

-- bounds the steps of a run: at most R of them write, and between these at most C + 1 pairs are taken apart
unfoldable pub steps : ℕ → ℕ → ℕ
steps R C = (R + 1) * (1 + (C + 1) * weight R)

-- the equations among the first n records, in record order
unfoldable pub equations : List ℕ → ℕ → List Pair
equations ws n = map (λ e. (field_a ws e, field_b ws e)) (those (λ e. has ws e EQ) (below n))

-- all equations enter the queue, and the machine runs
unfoldable pub machine : ℕ → ℕ → ℕ → Store → Out (List Pair)
machine R C n s = do
  (s₁, q) ← join C [] (equations s.words n) s
  run (steps R C) R C q s₁
