-- The first argument of a list: what its walk asks, and the walk of a list that has no other.
use Rattle.std.specs.Prelude.{Ok, Err, Option}
use Prim.Native.Nat.{ℕ, suc, ◌+◌, ◌*◌, ◌<◌, ◌≤◌}
use mathlib.Core.Path.{◌≡◌}
use mathlib.Core.List.{List, [], ◌∷◌}
use native.Mathlib.Omega.{arith}
use lib.ListN.{length}
use Rattle.rules.specs.declared.Failure.{Failure}
use Rattle.store.specs.declared.Written.{Written}
use Rattle.rules.specs.Store.{push}
use Rattle.table.specs.declared.Record.{Record}
use Rattle.table.specs.Reading.{IsRecord}
use Rattle.table.specs.declared.Hole.{Hole}
use Rattle.places.specs.declared.Map.{Map}
use Rattle.rules.specs.Words.{NONE, elements, CE}
use Rattle.laws.specs.Lists.{size, elements_none}
use Rattle.invariants.specs.Rise.{reach}
use Rattle.store.specs.Said.{Answer, Does}
use Rattle.rewrite.specs.TermsLaws.{list_read, list_cell, list_first}
use Rattle.walk.specs.Walks.{WalksTerm, WalksList}
use Rattle.walk.proofs.Walks.{walk_only_stops, walk_only}
use Rattle.walk.specs.Ready.{ReadyTerm, ReadyList, ReadyArgs}
use Rattle.walk.proofs.Ready.{on_part}

pub first_ready : {R n : ℕ} {u : Option Hole} {m : Map} {ws ss : List ℕ} {used F d l : ℕ} (h : ReadyList R n u m ws ss used F d l) → (l ≡ NONE → ⊥) → (w : Record) → IsRecord ws l w → ReadyTerm R n u m ws ss used F d w.a
first_ready {used = used} {d = d} h ne w e =
    let a = (list_cell h.at ne w e).lower.0 in
    record { home = h.home; scope = h.scope; at = list_first h.at ne w e; on = on_part used d (suc w.a) h.on (omega arith) (omega arith); within = h.within }

-- an only argument
module _ {R n : ℕ} {u : Option Hole} {m : Map} {ws ss : List ℕ} {used F d l : ℕ} (h : ReadyArgs R n u m ws ss used F d l) where
  pub args_read : 4 * l + 3 < length ws
  args_read = list_read h.list.at h.some

  pub args_room : (ws₁ : List ℕ) → length ws₁ ≡ length ws → 4 * R ≤ length ws₁
  args_room ws₁ e = let o = h.list.at.fine.room in omega arith

  module _ (w : Record) (e : IsRecord ws l w) where
    pub only_ready : ReadyTerm R n u m ws ss used F d w.a
    only_ready = first_ready h.list h.some w e

    pub fall_only : (t : ℕ) → 3 * reach R F (size l) ≡ t → 3 * reach R F (suc w.a) + 1 < t
    fall_only t z = let a = (list_cell h.list.at h.some w e).lower.0 in omega arith

    module _ (z : w.b ≡ NONE) (ws₁ ss₁ : List ℕ) (x : Answer) (p : WalksTerm R n u m ws ss used F d w.a ws₁ ss₁ x) where
      is : elements ws l ≡ w.a ∷ []
      is = rw ((list_cell h.list.at h.some w e).list, elements_none ws w.b z)

      pub only_stops : (f : Failure) (y : Answer) → x ≡ Err f → y ≡ Err f → WalksList R n u m ws ss used F d l ws₁ ss₁ y
      only_stops = walk_only_stops R n u m ws ss used F d w.a l is (list_cell h.list.at h.some w e).lower.0 ws₁ ss₁ x p

      pub only_walked : (v : Written) (ws₂ : List ℕ) (y : Answer) → x ≡ Ok v → Does n (push R CE v.root NONE) ws₁ v.used ws₂ y → WalksList R n u m ws ss used F d l ws₂ ss₁ y
      only_walked = walk_only R n u m ws ss used F d w.a l is (list_cell h.list.at h.some w e).lower.0 ws₁ ss₁ x p
