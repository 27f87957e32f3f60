-- The parts of narrowing, one after another, are the rule's.
use Prim.Native.Nat.{ℕ}
use mathlib.Core.Path.{◌≡◌, sym, ◌∙◌}
use mathlib.Core.List.{List}
use mathlib.Core.Bool.{Bool, true, false}
use lib.ListN.{length, set}
use lib.Dec.{eqb}
use Rattle.std.specs.Prelude.{Result, Ok, Err}
use Rattle.rules.specs.declared.Failure.{Failure}
use Rattle.store.specs.declared.Written.{Written}
use Rattle.table.specs.declared.Record.{Record}
use Rattle.narrow.specs.declared.Narrowed.{Narrowed}
use Rattle.places.specs.declared.Map.{Map}
use Rattle.table.specs.Reading.{IsRecord}
use Rattle.rules.specs.Store.{◌>>=◌, push, push_cells, push_occurrence, settle}
use Rattle.rules.specs.Walk.{narrow, keep_placed}
use Rattle.store.specs.Said.{Answer, wrote, Does, Does²}
use Rattle.store.specs.SaidLaws.{since_root, since_failed}
use Rattle.places.specs.Maps.{map_of, side}
use Rattle.narrow.specs.Context.{contexts}
use Rattle.narrow.specs.Narrowing.{rooted}

-- narrowing fails at its context, at the new hole, or at the old hole's solution, or it goes on with the new hole
module _ (R n h : ℕ) (ks ws ss : List ℕ) (u : ℕ) (w : Record) (is : IsRecord ws h w) (ws₁ : List ℕ) (x₁ : Answer) (p : Does n (push_cells R (contexts ws w.a ks)) ws u ws₁ x₁) where
  pub context_stops : (e : Failure) (y : Result Narrowed Failure) → x₁ ≡ Err e → y ≡ Err e → Does² n (narrow R h ks) ws ss u ws₁ ss (rooted y)
  unfolding narrow ◌>>=◌
  context_stops e y q o = rw o (record { run = rw (← is.a_is, p.run ss, q); grown = since_failed _ _ })

  module _ (c : Written) (q₁ : x₁ ≡ Ok c) (ws₂ : List ℕ) (x₂ : Answer) (q : Does n (push R 4 c.root w.b) ws₁ c.used ws₂ x₂) where
    pub hole_stops : (e : Failure) (y : Result Narrowed Failure) → x₂ ≡ Err e → y ≡ Err e → Does² n (narrow R h ks) ws ss u ws₂ ss (rooted y)
    unfolding narrow ◌>>=◌
    hole_stops e y z o = rw o (record { run = rw (← is.a_is, ← is.b_is, p.run ss, q₁, q.run ss, z); grown = since_failed _ _ })

    module _ (v : Written) (q₂ : x₂ ≡ Ok v) (ws₃ : List ℕ) (x₃ : Answer) (r : Does n (push_occurrence R v.root ks) ws₂ v.used ws₃ x₃) where
      pub solution_stops : (e : Failure) (y : Result Narrowed Failure) → x₃ ≡ Err e → y ≡ Err e → Does² n (narrow R h ks) ws ss u ws₃ ss (rooted y)
      unfolding narrow ◌>>=◌
      solution_stops e y z o = rw o (record { run = rw (← is.a_is, ← is.b_is, p.run ss, q₁, q.run ss, q₂, r.run ss, z); grown = since_failed _ _ })

      pub narrow_goes : (t : Written) → x₃ ≡ Ok t → Does² n (narrow R h ks) ws ss u ws₃ (set ss h t.root) (wrote v.root t.used)
      unfolding narrow ◌>>=◌ settle
      narrow_goes t z = record { run = rw (← is.a_is, ← is.b_is, p.run ss, q₁, q.run ss, q₂, r.run ss, z); grown = since_root _ _ (r.grown.since t z) }

module _ (R n h : ℕ) (m : Map) (ws ss : List ℕ) (u : ℕ) (b : Bool) (is : b ≡ eqb (length (map_of false m)) m.len) where
  pub keep_all : (ws₁ : List ℕ) (x : Answer) → b ≡ true → Does n (push_occurrence R h (side false (map_of false m))) ws u ws₁ x
      → Does² n (keep_placed R h m.len (map_of false m)) ws ss u ws₁ ss x
  unfolding keep_placed side
  keep_all ws₁ x e p = record { run = rw (sym is ∙ e, keep_placed) (p.run ss); grown = p.grown }

  module _ (e : b ≡ false) (ws₁ ss₁ : List ℕ) (x : Result Narrowed Failure) (p : Does² n (narrow R h (side true (map_of false m))) ws ss u ws₁ ss₁ (rooted x)) where
    pub keep_stops : (d : Failure) (y : Answer) → x ≡ Err d → y ≡ Err d → Does² n (keep_placed R h m.len (map_of false m)) ws ss u ws₁ ss₁ y
    unfolding keep_placed side ◌>>=◌
    keep_stops d y q o = rw o (record { run = rw (sym is ∙ e, keep_placed, p.run, q); grown = since_failed _ _ })

    pub keep_some : (v : Narrowed) (ws₂ : List ℕ) (y : Answer) → x ≡ Ok v → Does n (push_occurrence R v.hole.0 (side false (map_of false m))) ws₁ v.used ws₂ y
        → Does² n (keep_placed R h m.len (map_of false m)) ws ss u ws₂ ss₁ y
    unfolding keep_placed side ◌>>=◌
    keep_some v ws₂ y q r = record { run = rw (sym is ∙ e, keep_placed, p.run, q) (r.run ss₁); grown = r.grown }
