-- Errors that look right: machines that differ from the right one in a single place, each of which breaks demand 3 at an example.
use Rattle.std.specs.Prelude.{ℕ, zero, suc, ◌≡◌, refl, List, [], ◌∷◌, true, false, not, length, eqb}
use Rattle.std.proofs.Common.{ap, arith}
use Rattle.std.proofs.Math.Path.{fun_ext}
use Rattle.rules.specs.declared.Failure.TheVariants.{Escape}
use Rattle.rules.specs.Lists.{both, enough}
use Rattle.rules.specs.Words.{NONE, field_a, BT, AR, KO, HO, CE, LA, CA, VA, HA, EQ, has, variables}
use Rattle.rules.specs.Answers.{records, pairs}
use Rattle.rules.specs.Store.{Store, Out, goes, spent, fail, ◌>>=◌, solved, solution, settle}
use Rattle.rules.specs.Map.{to_positions, to_variables, follow}
use Rattle.rules.specs.Rewrite.{Writer, write_term, keep_hole, expand}
use Rattle.rules.specs.Walk.{walk_hole}
use Rattle.rules.specs.Machine.{Pair, Next, done, join, same_head, meet, step, upcoming, run, steps, equations, machine}
use Rattle.rules.specs.Solve.{Refusal, admitted, refused, refusal, start, Behind, leaves, solve}
use Rattle.rules.specs.All.{everything}
use Rattle.rules.specs.Table.{Example, example, given, told, examples, ◌·◌}
use Rattle.promise.specs.Demand.{Solver, Demand3}
use Rattle.promise.specs.Examples.{P}
use Rattle.promise.proofs.Wrong.{closed, refutes, stopped}

-- a machine that makes these steps
abbrev pub Step : Type 0
Step = ℕ → ℕ → List Pair → ℕ → ℕ → Store → Out Next

run_by : Step → ℕ → ℕ → ℕ → List Pair → Store → Out (List Pair)
run_by step zero R C q s = spent
run_by step (suc f) R C [] s = goes s []
run_by step (suc f) R C (p ∷ q) s = do
  (s₁, next) ← step R C q p.0 p.1 s
  run_by step f R C (upcoming q next) s₁

pub solve_by : Step → Solver
solve_by step ws ss qs n =
    let R = records ws in
    let C = pairs qs in
    let s = start ws ss n in
    closed ws ss qs n (do
      (s₁, q) ← join C [] (equations s.words n) s
      run_by step (steps R C) R C q s₁)

-- with the right step it is the rule of solving
run_right : (f R C : ℕ) (q : List Pair) (s : Store) → run_by step f R C q s ≡ run f R C q s
unfolding run_by run
run_right zero R C q s = refl
run_right (suc f) R C [] s = refl
run_right (suc f) R C (p ∷ q) s = ap (λ k. step R C q p.0 p.1 s >>= k) (fun_ext λ x. run_right f R C (upcoming q x.1) x.0)

pub solve_right : (ws ss qs : List ℕ) (n : ℕ) → solve_by step ws ss qs n ≡ solve ws ss qs n
unfolding solve_by closed stopped solve leaves machine
solve_right ws ss qs n = go (refusal true ws ss n)
  where
    R : ℕ
    R = records ws

    C : ℕ
    C = pairs qs

    same : (join C [] (equations (start ws ss n).words n) (start ws ss n) >>= λ (s₁, q). run_by step (steps R C) R C q s₁) ≡ machine R C n (start ws ss n)
    same = ap (λ k. join C [] (equations (start ws ss n).words n) (start ws ss n) >>= k) (fun_ext λ x. run_right (steps R C) R C x.1 x.0)

    go : (r : Refusal)
        → (elim r as (λ _. Behind) [
          | refused x ↦ leaves (refused x) ws ss qs n
          | admitted ↦ stopped ws ss qs n (join C [] (equations (start ws ss n).words n) (start ws ss n) >>= λ (s₁, q). run_by step (steps R C) R C q s₁)
        ]) ≡ leaves r ws ss qs n
    go (refused x) = refl
    go admitted = ap (stopped ws ss qs n) same

-- CALLING P12 A CYCLE: the right side is not expanded before the hole is compared
left_step : Step
left_step R C q l r s = do
  (s₁, l₁) ← expand enough R l s
  meet R C q l₁ r s₁

pub left_only : Solver
left_only = solve_by left_step

pub left_only_wrong : ¬ (Demand3 left_only)
unfolding left_only left_step solve_by run_by stopped closed everything examples
left_only_wrong d = refutes left_only d (P 12) refl (omega arith) (omega arith)

-- ANSWERING ESCAPE when the lost variable stands only among an unsolved hole's arguments
strict_hole : Writer → ℕ → ℕ → Writer
strict_hole go R u m d r s =
    let h = field_a s.words r in
    let vs = variables s.words r in
    elim (both (not (solved s h)) (not (eqb (length (follow m d 0 vs)) (length vs)))) [ true ↦ fail Escape s | false ↦ walk_hole go R u m d r s ]

strict_walk : ℕ → ℕ → ℕ → Writer
strict_walk zero R u m d r s = spent
strict_walk (suc f) R u m d r s =
    let go : Writer = λ m' d' r' s'. strict_walk f R u m' d' r' s' in
    write_term (strict_hole go R u) go R s.words m d r s

strict_step : Step
strict_step R C q l r s = do
  (s₁, l₁) ← expand enough R l s
  (s₂, r₁) ← expand enough R r s₁
  elim (both (has s₂.words l₁ HA) (not (same_head s₂.words HA l₁ r₁))) [
    | true ↦ do
      (s₃, t) ← strict_walk enough R (field_a s₂.words l₁) (to_positions 0 (variables s₂.words l₁)) 0 r₁ s₂
      goes (settle (field_a s₂.words l₁) t s₃) (done q)
    | false ↦ meet R C q l₁ r₁ s₂
  ]

pub never_narrows : Solver
never_narrows = solve_by strict_step

pub never_narrows_wrong : ¬ (Demand3 never_narrows)
unfolding never_narrows strict_hole strict_walk strict_step solve_by run_by stopped closed everything examples
never_narrows_wrong d = refutes never_narrows d (P 10) refl (omega arith) (omega arith)

-- RENAMING a solution's own lambda-bound variables along with its context: the depth is forgotten
flat_copy : ℕ → ℕ → Writer
flat_copy zero R m d r s = spent
flat_copy (suc f) R m d r s =
    let go : Writer = λ m' d' r' s'. flat_copy f R m' 0 r' s' in
    write_term (keep_hole R) go R s.words m d r s

flat_expand : ℕ → ℕ → ℕ → Store → Out ℕ
flat_expand zero R r s = spent
flat_expand (suc f) R r s =
    elim (both (has s.words r HA) (solved s (field_a s.words r))) [
      | false ↦ goes s r
      | true ↦ do
        (s₁, t) ← flat_copy enough R (to_variables 0 (variables s.words r)) 0 (solution s (field_a s.words r)) s
        flat_expand f R t s₁
    ]

flat_step : Step
flat_step R C q l r s = do
  (s₁, l₁) ← flat_expand enough R l s
  (s₂, r₁) ← flat_expand enough R r s₁
  meet R C q l₁ r₁ s₂

pub renames_bound : Solver
renames_bound = solve_by flat_step

-- \x z.U[x] = \x z.c (\y.y), twice, where c takes a function
twice : Example
twice =
    example (
    (BT, 0, 0, 0) · (AR, 0, 0, 0) · (AR, 1, 0, 0) · (AR, 0, 1, 0) · (KO, 2, 0, 0) · (CE, 0, NONE, 0) · (HO, 5, 0, 0)
    · (VA, 1, NONE, 0) · (CE, 7, NONE, 0) · (HA, 6, 8, 0) · (LA, 9, 0, 0) · (LA, 10, 0, 0)
    · (VA, 0, NONE, 0) · (LA, 12, 0, 0) · (CE, 13, NONE, 0) · (CA, 4, 14, 0) · (LA, 15, 0, 0) · (LA, 16, 0, 0) · (EQ, 11, 17, 3)
    · (VA, 1, NONE, 0) · (CE, 19, NONE, 0) · (HA, 6, 20, 0) · (LA, 21, 0, 0) · (LA, 22, 0, 0)
    · (VA, 0, NONE, 0) · (LA, 24, 0, 0) · (CE, 25, NONE, 0) · (CA, 4, 26, 0) · (LA, 27, 0, 0) · (LA, 28, 0, 0) · (EQ, 23, 29, 3) · []
    ) 60 4 0 0 8

twice_solved : given twice ≡ told twice
unfolding given told twice everything
twice_solved = refl

pub renames_bound_wrong : ¬ (Demand3 renames_bound)
unfolding renames_bound flat_copy flat_expand flat_step solve_by run_by stopped closed twice everything
renames_bound_wrong d = refutes renames_bound d twice refl (omega arith) (omega arith)
