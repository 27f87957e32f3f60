-- The walk's contracts.
use Rattle.std.specs.Prelude.{ℕ, ◌≤◌, ◌≡◌, List, eqb, Option, Some, None}
use Rattle.table.specs.declared.Hole.{Hole}
use Rattle.places.specs.declared.Map.{Map}
use Rattle.rules.specs.Map.{Map as Pairs}
use Rattle.rules.specs.Rewrite.{Writer, keep_hole, copy}
use Rattle.rules.specs.Walk.{walk_hole, walk}
use Rattle.invariants.specs.Rise.{reach}
use Rattle.store.specs.Said.{Answer, store, shown, Since}
use Rattle.places.specs.Maps.{map_of}
use Rattle.rewrite.specs.Writes.{WritesTerm, WritesList}

-- the walk for a hole, and for no hole a copy, with so much fuel
unfoldable pub writer : ℕ → Option Hole → ℕ → Writer
writer R (Some h) f = walk f R h.0
writer R None f = copy f R

-- what it does at an occurrence
unfoldable pub on_hole : ℕ → Option Hole → ℕ → Writer
on_hole R (Some h) f = walk_hole (walk f R h.0) R h.0
on_hole R None f = keep_hole R

-- the map on the side of a pair, under floor 0, and inside a solution
abbrev pub map_at : ℕ → Map → Pairs
map_at F m = map_of (eqb F 0) m

-- with fuel enough, the walk of a term, of a list and of an occurrence answers so
abbrev pub WalksTerm : ℕ → ℕ → Option Hole → Map → List ℕ → List ℕ → ℕ → ℕ → ℕ → ℕ → List ℕ → List ℕ → Answer → Type 0
WalksTerm R n u m ws ss used F d r ws₁ ss₁ x = WritesTerm (writer R u) R n F (map_at F m) d r (store ws ss used) ws₁ ss₁ x

abbrev pub WalksList : ℕ → ℕ → Option Hole → Map → List ℕ → List ℕ → ℕ → ℕ → ℕ → ℕ → List ℕ → List ℕ → Answer → Type 0
WalksList R n u m ws ss used F d l ws₁ ss₁ x = WritesList (writer R u) (λ s. s.words) R R n F (map_at F m) d l (store ws ss used) ws₁ ss₁ x

pub record WalksHole (R n : ℕ) (u : Option Hole) (m : Map) (ws ss : List ℕ) (used F d r : ℕ) (ws₁ ss₁ : List ℕ) (x : Answer) : Type 0 where
  pub run : (f : ℕ) → reach R F r ≤ f → on_hole R u f (map_at F m) d r (store ws ss used) ≡ shown ws₁ ss₁ x
  pub grown : Since n x
