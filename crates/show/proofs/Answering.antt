-- The answer of an input hole, over its context variables in order.
use Prim.Native.Nat.{ℕ, zero, suc, ◌+◌, ◌*◌, ◌<◌, ◌≤◌}
use mathlib.Core.Path.{◌≡◌}
use mathlib.Core.List.{List}
use mathlib.Core.Bool.{false}
use native.Mathlib.Omega.{arith}
use lib.ListN.{length}
use Rattle.table.specs.declared.Record.{Record}
use Rattle.table.specs.Reading.{IsRecord}
use Rattle.places.specs.declared.Map.{Map}
use Rattle.rules.specs.Lists.{from, below, enough}
use Rattle.rules.specs.Words.{field_a, elements}
use Rattle.rules.specs.Map.{to_variables}
use Rattle.rules.specs.Show.{answer}
use Rattle.invariants.specs.Floor.{All}
use Rattle.invariants.specs.Places.{variables_low}
use Rattle.store.specs.Said.{Answer, store, shown}
use Rattle.places.specs.Maps.{map_of}
use Rattle.places.specs.Lists.{Counts}
use Rattle.places.specs.Arguments.{Ordered}
use Rattle.show.specs.Shows.{ShowsHole}
use Rattle.show.specs.Ready.{ReadyHole}
use Rattle.show.specs.Answer.{Answering}

from_low : (i k T : ℕ) → i + k ≤ T → All (λ v. v ≤ T) (from i k)
unfolding from
from_low i zero T h = tt
from_low i (suc k) T h = (omega arith, from_low (i + 1) k T (omega arith))

module _ {O : ℕ} {ws ss os : List ℕ} {h : ℕ} (a : Answering O ws ss os h) where
  pub answer-read : 4 * h + 3 < length ws
  answer-read = let l = a.hole in let w = a.table.fine.within in let r = a.table.fine.room in omega arith

  module _ (w : Record) (e : IsRecord ws h w) where
    pub answer-counts : Counts ws w.a
    answer-counts = rw e.a_is a.context

    module _ (m : Map) (o : Ordered ws w.a m) where
      is_order : map_of false m ≡ to_variables 0 (below (length (elements ws (field_a ws h))))
      is_order = rw (← e.a_is) o.run

      pub answer_ready : ReadyHole O m ws ss os 1 h
      unfolding below
      answer_ready =
          let f = a.context.few in
          let t = a.table in
          let lt = a.hole in
          let wi = t.fine.within in
          let he = t.fine.held in
          let one = t.fine.some in
          record {
            table = t;
            held = omega arith;
            is = λ ne. let so = t.fine.sols h (omega arith) ne in let si = so.since in record { below = so.below; term = so.term; up = omega arith };
            on = record {
              room = a.room;
              top = 16;
              low = rw is_order (variables_low 0 16 (from 0 (length (elements ws (field_a ws h)))) (from_low 0 (length (elements ws (field_a ws h))) 16 (omega arith)));
              fits = omega arith;
              floor = omega arith;
            };
            known = rw is_order a.known;
          }

      pub answered : (os₁ : List ℕ) (x : Answer) → ShowsHole O m ws ss os 0 1 h os₁ x → answer O ws h (store os ss 0) ≡ shown os₁ ss x
      unfolding answer
      answered os₁ x p = rw (← is_order) (p.run enough (omega arith))
