-- Where narrowing may be called.
use Rattle.std.specs.Prelude.{ℕ, ◌≡◌, List, length}
use Rattle.std.proofs.Common.{arith}
use Rattle.table.specs.declared.Record.{Record}
use Rattle.places.specs.declared.Map.{Map}
use Rattle.table.specs.Reading.{IsRecord}
use Rattle.rules.specs.Words.{tag, field_a, elements, HA}
use Rattle.invariants.specs.Floor.{Sub, Fine}
use Rattle.invariants.specs.Grow.{listed_of}
use Rattle.store.specs.Said.{store}
use Rattle.narrow.specs.Narrowing.{Narrowing}

-- the hole of an occurrence, in a fine store, can be narrowed if its context has as many entries as the occurrence has arguments
module _ (R n : ℕ) (home : ℕ → ℕ) (ws ss : List ℕ) (used b r : ℕ) (f : Fine R n home (store ws ss used)) (is : Sub ws home b used r) (w : Record) (e : IsRecord ws r w) where
  pub narrows : tag ws r ≡ HA → (kept : Map) → length (elements ws (field_a ws (field_a ws r))) ≡ kept.len → Narrowing ws ss n used R w.a kept
  narrows nine kept arity =
      let o = (f.good r is.below).occ nine in
      let a = o.below in
      let lt = is.below in
      let wi = f.within in
      let he = f.held in
      let ro = f.room in
      let hl = (f.good (field_a ws r) (omega arith)).hole o.hole in
      rw e.a_is (record {
        room = ro;
        since = f.since;
        hole = omega arith;
        held = omega arith;
        context = listed_of R n home (store ws ss used) (field_a ws (field_a ws r)) f (λ q. let c = (hl q).0 in (omega arith, (hl q).1));
        arity = arity;
      })
