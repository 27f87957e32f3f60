-- What showing a term, a list or a hole asks.
use Rattle.std.specs.Prelude.{ℕ, suc, ◌+◌, ◌*◌, ◌<◌, ◌≤◌, ◌≡◌, List, false, length, get_or}
use Rattle.places.specs.declared.Map.{Map}
use Rattle.rules.specs.Words.{NONE, tag, LA}
use Rattle.laws.specs.Lists.{size}
use Rattle.invariants.specs.Floor.{Sub, Fine}
use Rattle.invariants.specs.Places.{Low}
use Rattle.invariants.specs.Rise.{reach}
use Rattle.promise.specs.CopyKnown.{Full}
use Rattle.promise.specs.ShowKnown.{HoleKnown}
use Rattle.store.specs.Said.{store}
use Rattle.places.specs.Maps.{map_of}
use Rattle.rewrite.specs.Terms.{TermAt, ListAt}

-- the table that is read: of a final store of the machine
pub record Final (ws ss : List ℕ) : Type 0 where
  pub R : ℕ
  pub n : ℕ
  pub used : ℕ
  pub home : ℕ → ℕ
  pub fine : Fine R n home (store ws ss used)

-- the output and the map, at a measure k under a floor that is in a solution
pub record On (O : ℕ) (m : Map) (os : List ℕ) (F d k : ℕ) : Type 0 where
  pub room : 4 * O ≤ length os
  pub top : ℕ
  pub low : Low (map_of false m) top
  pub fits : top + d + reach 4096 F k < 134217728
  pub floor : 1 ≤ F

-- a term; its scope is the number of variables outside its lambdas, and the map has a place for each of them
pub record ReadyTerm (O : ℕ) (m : Map) (ws ss os : List ℕ) (F d r : ℕ) : Type 0 where
  pub table : Final ws ss
  pub scope : ℕ
  pub at : TermAt table.R table.n table.home ws ss table.used F scope d r
  pub on : On O m os F d (suc r)
  pub full : Full (map_of false m) scope

-- a term that is no lambda
pub record ReadyBody (O : ℕ) (m : Map) (ws ss os : List ℕ) (F d r : ℕ) : Type 0 where
  pub on : ReadyTerm O m ws ss os F d r
  pub plain : tag ws r ≡ LA → ⊥

-- a list
pub record ReadyList (O : ℕ) (m : Map) (ws ss os : List ℕ) (F d l : ℕ) : Type 0 where
  pub table : Final ws ss
  pub scope : ℕ
  pub at : ListAt table.R table.n table.home ws ss table.used F scope d l
  pub on : On O m os F d (size l)
  pub full : Full (map_of false m) scope

-- a hole
pub record ReadyHole (O : ℕ) (m : Map) (ws ss os : List ℕ) (F h : ℕ) : Type 0 where
  pub table : Final ws ss
  pub held : h < length ss
  pub is : (get_or ss h NONE ≡ NONE → ⊥) → Sub ws table.home F table.used (get_or ss h NONE)
  pub on : On O m os F 0 4097
  pub known : HoleKnown table.R (store ws ss table.used) (map_of false m) h
