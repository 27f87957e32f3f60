-- Step 5: the map that the walk starts with, and the solution recorded.
use Rattle.std.specs.Prelude.{Some, Ok, Err}
use Prim.Native.Nat.{ℕ, ◌+◌, ◌*◌, ◌<◌}
use mathlib.Core.Path.{◌≡◌, refl}
use mathlib.Core.List.{List}
use mathlib.Core.Bool.{true}
use native.Mathlib.Omega.{arith}
use lib.ListN.{length, set}
use Rattle.rules.specs.declared.Failure.{Failure}
use Rattle.store.specs.declared.Written.{Written}
use Rattle.store.specs.SaidLaws.{since_failed}
use Rattle.table.specs.declared.Record.{Record}
use Rattle.table.specs.Reading.{IsRecord}
use Rattle.table.specs.declared.Hole.{Hole}
use Rattle.places.specs.declared.Map.{Map}
use Rattle.rules.specs.Lists.{enough}
use Rattle.rules.specs.Words.{field_a, arguments, variables}
use Rattle.rules.specs.Store.{settle, ◌>>=◌}
use Rattle.rules.specs.Map.{to_positions}
use Rattle.rules.specs.Walk.{walk, assign}
use Rattle.invariants.proofs.Assign.{start_low}
use Rattle.store.specs.Said.{Answer, Does², store, shown}
use Rattle.places.specs.Maps.{map_of}
use Rattle.places.specs.Lists.{Counts}
use Rattle.places.specs.Arguments.{Arguments}
use Rattle.places.specs.ArgumentsLaws.{arguments_above}
use Rattle.rewrite.specs.PartsLaws.{term_read, counts_at, hole_held}
use Rattle.walk.specs.Walks.{WalksTerm}
use Rattle.walk.proofs.Walks.{walks}
use Rattle.walk.specs.Ready.{solving, ReadyTerm}
use Rattle.walk.specs.Assign.{Assigning}

module _ {R n : ℕ} {ws ss : List ℕ} {used l r : ℕ} where
  pub assign-read : Assigning R n ws ss used l r → 4 * l + 3 < length ws
  assign-read h = term_read R n h.home ws ss used 0 l h.fine h.left

  module _ (w : Record) (e : IsRecord ws l w) (h : Assigning R n ws ss used l r) where
    pub assign-counts : Counts ws w.b
    assign-counts = counts_at R n h.home ws ss used 0 l h.fine h.left w e h.occ

    pub assign_held : (ss₁ : List ℕ) → length ss₁ ≡ length ss → w.a < length ss₁
    assign_held ss₁ q = let o = hole_held R n h.home ws ss used 0 l h.fine h.left w e h.occ in omega arith

    module _ (m : Map) (p : Arguments ws w.b m) where
      placed : map_of true m ≡ to_positions 0 (variables ws l)
      unfolding variables arguments
      placed = rw (← e.b_is) (arguments_above ws w.b m p)

      -- the hole that occurs on the left
      module _ (o : Hole) (is : o.0 ≡ w.a) where
        pub assign_walks : ReadyTerm R n (Some o) m ws ss used 0 0 r
        assign_walks =
            let nine = h.occ in
            let rule = h.fine.good l h.left.below in
            let b = (rule.occ nine).below in
            let lt = h.left.below in
            let fe = h.fine.few in
            let rb = h.right.below in
            let wi = h.fine.within in
            let a = e.a_is in
            record {
              home = h.home;
              scope = h.scope;
              at = record { fine = h.fine; is = h.right; known = h.known };
              on = record { top = 16; low = rw placed (start_low ws l (rule.few (omega arith) (omega arith))); led = solving o refl (omega arith) (omega arith) };
              within = λ z. absurd (z refl);
            }

        module _ (ws₁ ss₁ : List ℕ) (x : Answer) (g : WalksTerm R n (Some o) m ws ss used 0 0 r ws₁ ss₁ x) where
          walked : walk enough R (field_a ws l) (to_positions 0 (variables ws l)) 0 r (store ws ss used) ≡ shown ws₁ ss₁ x
          walked =
              let fe = h.fine.few in
              let rb = h.right.below in
              let wi = h.fine.within in
              rw (← e.a_is, ← is, ← placed, ← walks R (Some o) enough o refl) (g.run enough (omega arith))

          pub assign_stops : (f : Failure) (y : Answer) → x ≡ Err f → y ≡ Err f → Does² n (assign R l r) ws ss used ws₁ ss₁ y
          unfolding assign ◌>>=◌
          assign_stops f y q z = rw z (record { run = rw (walked, q); grown = since_failed _ _ })

          -- what was written is recorded as the hole's solution
          pub assigned : (v : Written) → x ≡ Ok v → Does² n (assign R l r) ws ss used ws₁ (set ss₁ w.a v.root) (Ok v)
          unfolding assign ◌>>=◌ settle
          assigned v q = record { run = rw (walked, q, ← e.a_is); grown = rw q at g.grown }
