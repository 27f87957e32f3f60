-- A term written anew with its variables renamed: what copying, walking and showing share, and copying itself.
use Rattle.std.specs.Prelude.{ℕ, zero, suc, ◌+◌, true, false, List, [], ◌∷◌, Some, None}
use Rattle.rules.specs.declared.Failure.TheVariants.{Escape}
use Rattle.rules.specs.Lists.{both, enough}
use Rattle.rules.specs.Words.{NONE, field_a, CE, LA, CA, VA, HA, has, lambda, constant, variable, hole, form, arguments, variables}
use Rattle.rules.specs.Store.{Store, Out, goes, spent, fail, push, push_occurrence, solved, solution, ◌>>=◌}
use Rattle.rules.specs.Map.{Map, targets, place_of, to_variables, follow}

-- map, depth below the place where the map was made, record
abbrev pub Writer : Type 0
Writer = Map → ℕ → ℕ → Store → Out ℕ

-- arguments in order, then their cells from last to first
unfoldable pub write_all : Writer → ℕ → Map → ℕ → List ℕ → Store → Out ℕ
write_all write R m d [] s = goes s NONE
write_all write R m d (x ∷ xs) s = do
  (s₁, y) ← write m d x s
  (s₂, ys) ← write_all write R m d xs s₁
  push R CE y ys s₂

-- one level of a term of table ws, children first; a head is looked at before its arguments; what happens at a hole is given
unfoldable pub write_term : (on_hole write : Writer) → ℕ → List ℕ → Writer
write_term on_hole write R ws m d r s =
    elim (form ws r) [
      | lambda ↦ do
        (s₁, body) ← write m (d + 1) (field_a ws r) s
        push R LA body 0 s₁
      | constant ↦ do
        (s₁, xs) ← write_all write R m d (arguments ws r) s
        push R CA (field_a ws r) xs s₁
      | variable ↦ elim (place_of m d (field_a ws r)) [
        | None ↦ fail Escape s
        | Some v ↦ do
          (s₁, xs) ← write_all write R m d (arguments ws r) s
          push R VA v xs s₁
      ]
      | hole ↦ on_hole m d r s
    ]

-- copying keeps holes as they are, their arguments renamed
unfoldable pub keep_hole : ℕ → Writer
keep_hole R m d r s = push_occurrence R (field_a s.words r) (targets (follow m d 0 (variables s.words r))) s

-- a copy of a term; fuel bounds its nesting, since a part has a lower number than the whole
unfoldable pub copy : ℕ → ℕ → Writer
copy zero R m d r s = spent
copy (suc f) R m d r s =
    let go : Writer = λ m' d' r' s'. copy f R m' d' r' s' in
    write_term (keep_hole R) go R s.words m d r s

-- step 1: while the head is a solved hole, replace the side by a copy of the solution, its context variables renamed to the
-- arguments, holes inside it kept as they are; fuel bounds the copies, each of which writes a record
unfoldable pub expand : ℕ → ℕ → ℕ → Store → Out ℕ
expand zero R r s = spent
expand (suc f) R r s =
    elim (both (has s.words r HA) (solved s (field_a s.words r))) [
      | false ↦ goes s r
      | true ↦ do
        (s₁, t) ← copy enough R (to_variables 0 (variables s.words r)) 0 (solution s (field_a s.words r)) s
        expand f R t s₁
    ]
