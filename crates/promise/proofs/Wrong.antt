-- Wrong solvers, each of which breaks demand 2 or 3 at an example of the document.
use Rattle.std.specs.Prelude.{ℕ, ◌≤◌, ◌≡◌, refl, List, true, take, replicate}
use Rattle.std.proofs.Common.{ap, inl, arith}
use Rattle.rules.specs.Answers.{number, reply, records, pairs}
use Rattle.rules.specs.Store.{Out, goes, fails, spent}
use Rattle.rules.specs.Machine.{Pair, run, steps, equations}
use Rattle.rules.specs.Solve.{admitted, refused, refusal, Behind, start, emptied, leaves, solve, unsaid}
use Rattle.rules.specs.All.{everything}
use Rattle.rules.specs.Table.{Example, examples}
use Rattle.trees.specs.Tree.{Tree, lam, con, var, hol, nil, cons}
use Rattle.trees.proofs.Leads.{fills_less}
use Rattle.promise.specs.Table.{constants, holes, sides, filling, type_at, spine, tree_at, solution_of, expanded}
use Rattle.promise.specs.Demand.{Solver, Means, Demand3, Demand2}
use Rattle.promise.specs.Examples.{table, count, tried, P}
use Rattle.promise.proofs.Solving.{solve_means}

-- a table that is left behind as the machine starts, with this reply
abbrev untouched : List ℕ → List ℕ → List ℕ → ℕ → ℕ → ℕ → Behind
untouched ws ss qs n a u = record { table = (start ws ss n).words; solutions = (start ws ss n).solutions; queue = emptied qs; said = reply a 0 u }

module _ (f : Solver) (d : Demand3 f) (e : Example) where
  right : Means (table e) (count e) (tried solve e)
  right = solve_means _ _ _ _

  wrong : Means (table e) (count e) (tried f e)
  wrong = d.means _ _ _ _

  -- what demand 3 forbids: clash, escape or occurs where there is a filling
  pub refutes : (tried solve e).said.answer ≡ 0 → 1 ≤ (tried f e).said.answer → (tried f e).said.answer ≤ 3 → ⊥
  refutes q x y = let m = right.solved q in wrong.refuted x y _ _ (record { typed = fills_less _ _ _ _ _ m.input m.typed; equal = m.equal })

  -- solved where there is none
  solves : 1 ≤ (tried solve e).said.answer → (tried solve e).said.answer ≤ 3 → (tried f e).said.answer ≡ 0 → ⊥
  solves x y q = let m = wrong.solved q in right.refuted x y _ _ (record { typed = fills_less _ _ _ _ _ m.input m.typed; equal = m.equal })

  -- ill-typed or not a pattern where every side is a typed pattern
  refuses : (tried solve e).said.answer ≡ 0 → 6 ≤ (tried f e).said.answer → (tried f e).said.answer ≤ 7 → ⊥
  refuses q x y = wrong.refused x y (right.passed (inl (omega arith)))

-- ALWAYS REFUSES, with this answer: as ill-typed or no pattern demand 3, as anything else demand 2
pub always_refuses : ℕ → Solver
always_refuses a ws ss qs n = record { table = ws; solutions = ss; queue = qs; said = reply a 0 0 }

pub always_refuses_wrong : (a : ℕ) → 6 ≤ a → a ≤ 7 → ¬ (Demand3 (always_refuses a))
unfolding always_refuses everything examples
always_refuses_wrong a x y d = refuses (always_refuses a) d (P 2) refl x y

pub always_refuses_other : (a : ℕ) → 1 ≤ a → ¬ (Demand2 (always_refuses a))
unfolding always_refuses everything examples
always_refuses_other a x d = let e : a ≡ 0 = ap (λ b. b.said.answer) (d (table (P 2)) (replicate 40 0) (replicate 8 0) (count (P 2))) in omega arith

-- ALWAYS SAYS CLASH
pub always_clash : Solver
always_clash ws ss qs n = untouched ws ss qs n 1 0

pub always_clash_wrong : ¬ (Demand3 always_clash)
unfolding always_clash everything examples
always_clash_wrong d = refutes always_clash d (P 2) refl (omega arith) (omega arith)

-- ALWAYS SAYS SOLVED with nothing solved
pub nothing-solved : Solver
nothing-solved ws ss qs n = untouched ws ss qs n 0 n

pub nothing-solved_wrong : ¬ (Demand3 nothing-solved)
unfolding nothing-solved everything examples
nothing-solved_wrong d = solves nothing-solved d (P 3) (omega arith) (omega arith) refl

-- WRITES NOTHING: solving's reply, with no record and no solution
pub writes_nothing : Solver
writes_nothing ws ss qs n = record { table = (start ws ss n).words; solutions = (start ws ss n).solutions; queue = emptied qs; said = (solve ws ss qs n).said }

-- the hole at the head below lambdas
abbrev hole_of : Tree → ℕ
hole_of (lam t) = hole_of t
hole_of (con c a) = 0
hole_of (var v a) = 0
hole_of (hol h xs) = h
hole_of nil = 0
hole_of (cons t a) = 0

pub writes_nothing_wrong : ¬ (Demand3 writes_nothing)
unfolding writes_nothing everything examples constants holes sides solution_of tree_at type_at spine expanded filling
writes_nothing_wrong d = let e : ◌≡◌ {A = ℕ} 8 10 = ap hole_of ((wrong writes_nothing d (P 8)).solved refl).equal.0 in omega arith

-- what is left behind when the machine comes to this outcome
unfoldable pub stopped : List ℕ → List ℕ → List ℕ → ℕ → Out (List Pair) → Behind
stopped ws ss qs n o =
    elim o [
      | goes s q ↦ record { table = s.words; solutions = s.solutions; queue = emptied qs; said = reply 0 0 s.used }
      | fails vs rs e ↦ untouched ws ss qs n (number e) 0
      | spent ↦ unsaid
    ]

-- the same after the right refusals
unfoldable pub closed : List ℕ → List ℕ → List ℕ → ℕ → Out (List Pair) → Behind
closed ws ss qs n o = elim (refusal true ws ss n) [ refused x ↦ leaves (refused x) ws ss qs n | admitted ↦ stopped ws ss qs n o ]

-- TREATS THE FIRST PAIR and only empties the queue of the others
pub first_pair : Solver
first_pair ws ss qs n =
    let R = records ws in
    let s = start ws ss n in
    closed ws ss qs n (run (steps R (pairs qs)) R (pairs qs) (take 1 (equations s.words n)) s)

pub first_pair_wrong : ¬ (Demand3 first_pair)
unfolding first_pair stopped closed everything examples
first_pair_wrong d = solves first_pair d (P 11) (omega arith) (omega arith) refl

-- PRINTS AN INVENTED `used`: demand 2
pub invented_used : Solver
invented_used ws ss qs n =
    let b = solve ws ss qs n in
    record { table = b.table; solutions = b.solutions; queue = b.queue; said = reply b.said.answer b.said.place 4096 }

pub invented_used_wrong : ¬ (Demand2 invented_used)
unfolding invented_used everything examples
invented_used_wrong d = let e : ◌≡◌ {A = ℕ} 4096 6 = ap (λ b. b.said.used) (d (table (P 1)) (replicate 40 0) (replicate 8 0) (count (P 1))) in omega arith
