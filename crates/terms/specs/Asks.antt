-- What the functions of this crate ask and answer.
use Rattle.std.specs.Prelude.{ℕ, ◌+◌, ◌<◌, ◌≤◌, min, ◌≡◌, List, map, Bool, true, false, length, Option, Some, None}
use Rattle.rules.specs.Lists.{each, least, enough}
use Rattle.rules.specs.Words.{NONE, is_term, elements}
use Rattle.rules.specs.Typing.{domains, fills, checks}
use Rattle.rules.specs.Pattern.{offence}
use Rattle.laws.specs.Lists.{size}
use Rattle.laws.specs.Members.{Every}
use Rattle.laws.specs.Places.{TypeAt, TermAt, ListAt}
use Rattle.heads.specs.Stack.{binders}
use Rattle.terms.specs.declared.LastArgument.{LastArgument}

-- the lowest offending occurrence in a list of terms, or NONE
unfoldable pub among_terms : List ℕ → ℕ → ℕ
among_terms ws l = least NONE (map (λ x. offence enough ws x) (elements ws l))

-- a head of this type takes list l: as many arguments as it asks, and each checks
unfoldable pub takes : List ℕ → List ℕ → ℕ → ℕ → Bool
takes ws ctx l head = each (checks enough ws ctx) (elements ws l) (domains enough ws head)

-- list l fills a context
unfoldable pub filled : List ℕ → List ℕ → ℕ → ℕ → Bool
filled ws ctx l context = each (fills (checks enough ws) ws ctx) (elements ws l) (elements ws context)

-- a term and a type, room on the stack for as many binders as can follow, since each has a lower number, and the lowest offending
-- occurrence so far
pub record TermAsks (ws st : List ℕ) (low d r ty : ℕ) : Type 0 where
  pub term : TermAt ws r
  pub type : TypeAt ws ty
  pub bound : Every (TypeAt ws) (binders st d)
  pub room : d + r < length st
  pub few : low ≤ NONE

-- an argument list, and a record that says what it is held to: a head's type, or a context
pub record ArgsAsk (Held : ℕ → Type 0) (ws st : List ℕ) (low d l x : ℕ) : Type 0 where
  pub list : ListAt (is_term ws) ws l
  pub held : Held x
  pub bound : Every (TypeAt ws) (binders st d)
  pub room : d + size l ≤ length st
  pub few : low ≤ NONE

-- a list of at least one argument, and how many the head's type asks, which is at least one
pub record ListAsks (ws st : List ℕ) (low d l head count : ℕ) : Type 0 where
  pub asks : ArgsAsk (TypeAt ws) ws st low d l head
  pub some : l ≡ NONE → ⊥
  pub counted : count ≡ length (domains enough ws head)
  pub more : count ≡ 0 → ⊥

-- a check's answer b; the first d binders stay; if it passes, the lowest offending occurrence so far counts those within
pub record Told (d : ℕ) (so : Bool) (off : ℕ) (st : List ℕ) (low : ℕ) (st₁ : List ℕ) (low₁ : ℕ) (b : Bool) : Type 0 where
  pub says : b ≡ so
  pub keeps : binders st₁ d ≡ binders st d
  pub lowest : b ≡ true → low₁ ≡ min low off

-- of list l, after a head of this type, the last argument alone is left to check, at type t; its number is lower than the list's, the first d
-- binders stay, and the lowest offending occurrence so far counts those within the other arguments
pub record Remains (ws st : List ℕ) (low d l head : ℕ) (st₁ : List ℕ) (low₁ last t : ℕ) : Type 0 where
  pub asks : TermAsks ws st₁ low₁ d last t
  pub lower : last + 1 < size l
  pub keeps : binders st₁ d ≡ binders st d
  pub same : takes ws (binders st d) l head ≡ checks enough ws (binders st₁ d) last t
  pub lowest : min low (among_terms ws l) ≡ min low₁ (offence enough ws last)

-- what a check of list l after a head of this type leaves: the head does not take it, or the last argument decides
unfoldable pub Leaves : List ℕ → List ℕ → ℕ → ℕ → ℕ → ℕ → List ℕ → ℕ → Option LastArgument → Type 0
Leaves ws st low d l head st₁ low₁ None = (takes ws (binders st d) l head ≡ false) × (binders st₁ d ≡ binders st d)
Leaves ws st low d l head st₁ low₁ (Some left) = Remains ws st low d l head st₁ low₁ left.last left.ty
