-- What is known of a hole that is shown: its solution, in a context whose every position has a place.
use Rattle.std.specs.Prelude.{ℕ, ◌≡◌, get_or}
use Rattle.rules.specs.Words.{NONE}
use Rattle.rules.specs.Store.{Store}
use Rattle.rules.specs.Map.{Map}
use Rattle.promise.specs.TermKnown.{TermKnown}
use Rattle.promise.specs.CopyKnown.{Full}

-- hole h
pub record HoleKnown (R : ℕ) (s : Store) (m : Map) (h : ℕ) : Type 0 where
  pub scope : ℕ
  pub full : Full m scope
  pub solution : (t : ℕ) → get_or s.solutions h NONE ≡ t → (t ≡ NONE → ⊥) → TermKnown R s scope 0 t
