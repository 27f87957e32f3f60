-- The walk of the other side for the hole that is solved, and narrowing.
use Rattle.std.specs.Prelude.{ℕ, zero, suc, true, false, List, map, length, get_or, eqb}
use Rattle.rules.specs.declared.Failure.TheVariants.{Occurs}
use Rattle.rules.specs.Lists.{enough}
use Rattle.rules.specs.Words.{field_a, field_b, HO, elements, variables}
use Rattle.rules.specs.Store.{Store, Out, goes, spent, fail, push, push_cells, push_occurrence, solved, solution, settle, ◌>>=◌}
use Rattle.rules.specs.Map.{Map, sources, targets, to_positions, follow}
use Rattle.rules.specs.Rewrite.{Writer, write_term}

-- narrowing hole h to these positions: their context cells (last first), the new hole, and the solution of the old one,
-- which applies the new hole to the kept positions; the result is the new hole
unfoldable pub narrow : ℕ → ℕ → List ℕ → Store → Out ℕ
narrow R h ks s = do
  (s₁, ctx) ← push_cells R (map (λ k. get_or (elements s.words (field_a s.words h)) k 0) ks) s
  (s₂, new) ← push R HO ctx (field_b s.words h) s₁
  (s₃, t) ← push_occurrence R new ks s₂
  goes (settle h t s₃) new

-- an unsolved hole h with so many arguments, of which those of the map have a place: if any is dropped, narrow the hole first;
-- then write an occurrence with the kept arguments
unfoldable pub keep_placed : ℕ → ℕ → ℕ → Map → Store → Out ℕ
keep_placed R h arity kept s =
    elim (eqb (length kept) arity) [
      | true ↦ push_occurrence R h (targets kept) s
      | false ↦ do
        (s₁, new) ← narrow R h (sources kept) s
        push_occurrence R new (targets kept) s₁
    ]

-- a hole met in the walk for hole u. The hole itself: occurs. A solved hole: walk its solution with the map that follows its
-- arguments. Another unsolved hole: keep the positions whose argument has a place
unfoldable pub walk_hole : Writer → ℕ → ℕ → Writer
walk_hole go R u m d r s =
    let h = field_a s.words r in
    let vs = variables s.words r in
    elim (eqb h u) [
      | true ↦ fail Occurs s
      | false ↦ elim (solved s h) [ true ↦ go (follow m d 0 vs) 0 (solution s h) s | false ↦ keep_placed R h (length vs) (follow m d 0 vs) s ]
    ]

-- the walk for hole u; fuel bounds the calls one inside another: towards a part of a term the record number falls, and at a solved
-- hole inside a solution it rises above that occurrence
unfoldable pub walk : ℕ → ℕ → ℕ → Writer
walk zero R u m d r s = spent
walk (suc f) R u m d r s =
    let go : Writer = λ m' d' r' s'. walk f R u m' d' r' s' in
    write_term (walk_hole go R u) go R s.words m d r s

-- step 5: walk the other side r and record the result as the solution of the hole that occurs at l
unfoldable pub assign : ℕ → ℕ → ℕ → Store → Out ℕ
assign R l r s = do
  (s₁, t) ← walk enough R (field_a s.words l) (to_positions 0 (variables s.words l)) 0 r s
  goes (settle (field_a s.words l) t s₁) t
