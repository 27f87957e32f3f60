-- The contracts of the parts of a walk, over what they share.
use Rattle.std.specs.Prelude.{ℕ, List}
use Rattle.store.specs.Said.{Answer}
use Rattle.places.specs.declared.Map.{Map}
use Rattle.walk.specs.declared.Walk.{Walk}
use Rattle.walk.specs.Ready.{ReadyTerm, ReadyBody, ReadyArgs, ReadyHole}
use Rattle.walk.specs.Walks.{WalksTerm, WalksList, WalksHole}

-- what the walk asks of a term, of a term that is no lambda, of a list that is not empty, of an occurrence
abbrev pub AsksTerm : Walk → Map → List ℕ → List ℕ → ℕ → ℕ → ℕ → Type 0
AsksTerm k m ws ss used d r = ReadyTerm k.part.room k.part.n k.hole m ws ss used k.floor d r

abbrev pub AsksBody : Walk → Map → List ℕ → List ℕ → ℕ → ℕ → ℕ → Type 0
AsksBody k m ws ss used d r = ReadyBody k.part.room k.part.n k.hole m ws ss used k.floor d r

abbrev pub AsksArgs : Walk → Map → List ℕ → List ℕ → ℕ → ℕ → ℕ → Type 0
AsksArgs k m ws ss used d l = ReadyArgs k.part.room k.part.n k.hole m ws ss used k.floor d l

abbrev pub AsksHole : Walk → Map → List ℕ → List ℕ → ℕ → ℕ → ℕ → Type 0
AsksHole k m ws ss used d r = ReadyHole k.part.room k.part.n k.hole m ws ss used k.floor d r

-- what it says of a term, of a list, of an occurrence
abbrev pub SaysTerm : Walk → Map → List ℕ → List ℕ → ℕ → ℕ → ℕ → List ℕ → List ℕ → Answer → Type 0
SaysTerm k m ws ss used d r ws₁ ss₁ x = WalksTerm k.part.room k.part.n k.hole m ws ss used k.floor d r ws₁ ss₁ x

abbrev pub SaysList : Walk → Map → List ℕ → List ℕ → ℕ → ℕ → ℕ → List ℕ → List ℕ → Answer → Type 0
SaysList k m ws ss used d l ws₁ ss₁ x = WalksList k.part.room k.part.n k.hole m ws ss used k.floor d l ws₁ ss₁ x

abbrev pub SaysHole : Walk → Map → List ℕ → List ℕ → ℕ → ℕ → ℕ → List ℕ → List ℕ → Answer → Type 0
SaysHole k m ws ss used d r ws₁ ss₁ x = WalksHole k.part.room k.part.n k.hole m ws ss used k.floor d r ws₁ ss₁ x
