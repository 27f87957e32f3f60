-- Where the machine starts on an admitted table, the store is sane and the sides of the equations are in scope; so it is sane where the machine goes on.
use Rattle.std.specs.Prelude.{ℕ, ◌<◌, ◌≡◌, refl}
use mathlib.Core.List.{List, [], ◌∷◌, map}
use Rattle.std.proofs.Math.Bool.{true}
use Rattle.std.proofs.Common.{arith, le_refl}
use Rattle.rules.specs.Lists.{those, below}
use Rattle.rules.specs.Words.{EQ, field_a, field_b, has, is_term}
use Rattle.rules.specs.Answers.{records}
use Rattle.rules.specs.Store.{Store}
use Rattle.rules.specs.Machine.{Pair, equations, steps, machine}
use Rattle.rules.specs.Solve.{start}
use Rattle.laws.specs.Tests.{tag_is}
use Rattle.laws.specs.Sound.{equation_fields}
use Rattle.laws.specs.Members.{Legal}
use Rattle.invariants.specs.Floor.{All}
use Rattle.invariants.specs.Grow.{all_map}
use Rattle.invariants.specs.Start.{records_room}
use Rattle.trees.specs.Tree.{Tree, HasTy, at}
use Rattle.trees.specs.Tree.{Ty}
use Rattle.promise.specs.Table.{constants, holes}
use Rattle.promise.specs.Reading.{one, Reads, reads_later}
use Rattle.promise.specs.State.{reads_below}
use Rattle.promise.specs.Admitting.{Admitted, admitted_reads, low}
use Rattle.promise.specs.Starting.{equations_same, start-holds, start_same}
use Rattle.legal.specs.Uses.{those-all}
use Rattle.legal.specs.Stay.{below_all, term_same, sound_same}
use Rattle.legal.specs.Sane.{Sane}
use Rattle.legal.specs.Ran.{Ran, ran_bind}
use Rattle.legal.proofs.Copy.{Side}
use Rattle.legal.proofs.Turn.{Sides, join_ran, run_ran}
use Rattle.legal.specs.Typed.{typed_scope}

all_mapped : (P : Pair → Type 0) (g : ℕ → Pair) (xs : List ℕ) → All (λ x. P (g x)) xs → All P (map g xs)
all_mapped P g [] h = tt
all_mapped P g (x ∷ xs) h = (h.0, all_mapped P g xs h.1)

module _ (ws ss : List ℕ) (n : ℕ) (a : Admitted ws ss n) where
  abbrev s : Store
  s = start ws ss n

  given : Legal ws n
  given = let r = records_room ws in let l = a.room in record { inside = omega arith; few = low ws ss n a; sound = a.sound }

  start_sane : Sane (records ws) s
  unfolding start
  start_sane =
      let h = start-holds ws ss n a in
      record {
        room = h.fits.table;
        held = h.room;
        few = h.fits.small;
        within = h.fits.full;
        sound = sound_same ws s.words n given (start_same ws ss n a);
        sols = λ v l z. absurd (z (h.leaves v l refl));
      }

  -- a side of an equation
  side : (x : ℕ) (t : Tree) (A : Ty) → Reads ws n (one x) t → HasTy (constants ws n) (holes ws n) [] t (at A) → is_term ws x ≡ true → Side s x
  unfolding start
  side x t A r y e =
      let l = reads_below r in
      let scope = typed_scope s.words n n (constants ws n) (holes ws n) (start-holds ws ss n a).declared (reads_later (start_same ws ss n a) (le_refl n) r) y (omega arith) in
      record { under = 0; part = record { below = l; term = rw (term_same ws s.words n given (start_same ws ss n a) x l) e; scope = scope } }

  start-sides : All (Sides s) (equations s.words n)
  unfolding equations
  start-sides =
      rw (equations_same ws s.words n (start_same ws ss n a))
      (all_mapped (Sides s) (λ e. (field_a ws e, field_b ws e)) (those (λ e. has ws e EQ) (below n))
      (those-all (λ e. Sides s (field_a ws e, field_b ws e)) (λ e. has ws e EQ) (below n)
      (all_map (λ e. e < n) (λ e. has ws e EQ ≡ true → Sides s (field_a ws e, field_b ws e)) both-sides (below n) (below_all n))))
    where
      both-sides : (e : ℕ) → e < n → has ws e EQ ≡ true → Sides s (field_a ws e, field_b ws e)
      both-sides e l q =
          let x = admitted_reads ws ss n a e l q in
          let f = equation_fields ws n a.sound e l (tag_is ws e EQ q) in
          record { left = side (field_a ws e) x.left_side x.type x.left x.left_typed f.0.1; right = side (field_b ws e) x.right_side x.type x.right x.right_typed f.1.1 }

  pub machine_ran : (C : ℕ) → Ran (records ws) s (λ s₁ q. Sane (records ws) s₁) (machine (records ws) C n s)
  unfolding machine
  machine_ran C =
      ran_bind (records ws) _ (join_ran (records ws) C [] (equations s.words n) s) λ s₁ q b p.
      rw (p.0, p.1) (run_ran (records ws) C (steps (records ws) C) (equations s.words n) s start_sane start-sides)
