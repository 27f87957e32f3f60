-- What the walk of a term, of a list and at an occurrence asks.
use Rattle.std.specs.Prelude.{ℕ, suc, ◌+◌, ◌<◌, ◌≤◌, ◌≡◌, List, false, Option, Some, None}
use Rattle.table.specs.declared.Hole.{Hole}
use Rattle.places.specs.declared.Map.{Map}
use Rattle.rules.specs.Words.{NONE, tag, LA, HA}
use Rattle.laws.specs.Lists.{size}
use Rattle.invariants.specs.Floor.{limit}
use Rattle.invariants.specs.Places.{Low}
use Rattle.invariants.specs.Rise.{reach}
use Rattle.invariants.specs.Keep.{highest}
use Rattle.promise.specs.CopyKnown.{Full}
use Rattle.places.specs.Maps.{map_of}
use Rattle.rewrite.specs.Terms.{TermAt, ListAt}
use Rattle.walk.specs.Walks.{map_at}

-- how far variables may be led from x on, at a measure k: a copy, in which every position has a place, leads by no more than the depth
pub data Led (R : ℕ) (u : Option Hole) (m : Map) (used F x k : ℕ) : Type 0 where
  copying : u ≡ None → (F ≡ 0 → ⊥) → Full (map_of false m) m.len → x + k ≤ limit used → Led R u m used F x k
  solving : (h : Hole) → u ≡ Some h → h.0 < used → x + reach R F k ≤ highest → Led R u m used F x k

-- the map, at a measure k
pub record On (R : ℕ) (u : Option Hole) (m : Map) (used F d k : ℕ) : Type 0 where
  pub top : ℕ
  pub low : Low (map_at F m) top
  pub led : Led R u m used F (top + d) k

-- a term; its scope is the number of variables outside its lambdas, and below a solved hole the map has a position for each of them
pub record ReadyTerm (R n : ℕ) (u : Option Hole) (m : Map) (ws ss : List ℕ) (used F d r : ℕ) : Type 0 where
  pub home : ℕ → ℕ
  pub scope : ℕ
  pub at : TermAt R n home ws ss used F scope d r
  pub on : On R u m used F d (suc r)
  pub within : (F ≡ 0 → ⊥) → scope ≤ m.len

-- a term that is no lambda
pub record ReadyBody (R n : ℕ) (u : Option Hole) (m : Map) (ws ss : List ℕ) (used F d r : ℕ) : Type 0 where
  pub on : ReadyTerm R n u m ws ss used F d r
  pub plain : tag ws r ≡ LA → ⊥

-- a list
pub record ReadyList (R n : ℕ) (u : Option Hole) (m : Map) (ws ss : List ℕ) (used F d l : ℕ) : Type 0 where
  pub home : ℕ → ℕ
  pub scope : ℕ
  pub at : ListAt R n home ws ss used F scope d l
  pub on : On R u m used F d (size l)
  pub within : (F ≡ 0 → ⊥) → scope ≤ m.len

-- a list that is not empty
pub record ReadyArgs (R n : ℕ) (u : Option Hole) (m : Map) (ws ss : List ℕ) (used F d l : ℕ) : Type 0 where
  pub list : ReadyList R n u m ws ss used F d l
  pub some : l ≡ NONE → ⊥

-- an occurrence
pub record ReadyHole (R n : ℕ) (u : Option Hole) (m : Map) (ws ss : List ℕ) (used F d r : ℕ) : Type 0 where
  pub on : ReadyTerm R n u m ws ss used F d r
  pub occ : tag ws r ≡ HA
