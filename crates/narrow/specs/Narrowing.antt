-- Narrowing a hole, and keeping the arguments that have a place.
use Rattle.std.specs.Prelude.{ℕ, ◌+◌, ◌*◌, ◌<◌, ◌≤◌, ◌≡◌, List, length, Result, Ok, Err}
use Rattle.rules.specs.declared.Failure.{Failure}
use Rattle.narrow.specs.declared.Narrowed.{Narrowed}
use Rattle.places.specs.declared.Map.{Map}
use Rattle.rules.specs.Words.{field_a, elements}
use Rattle.laws.specs.Lists.{Listed}
use Rattle.store.specs.Said.{Answer, wrote}

-- what narrowing answers, as an answer whose record is the new hole
abbrev pub rooted : Result Narrowed Failure → Answer
rooted (Ok x) = wrote x.hole.0 x.used
rooted (Err e) = Err e

-- what narrowing asks
pub record Narrowing (ws ss : List ℕ) (n u R h : ℕ) (m : Map) : Type 0 where
  pub room : 4 * R ≤ length ws
  pub since : n ≤ u
  pub hole : 4 * h + 3 < length ws
  pub held : h < length ss
  pub context : Listed ws (field_a ws h)
  pub arity : length (elements ws (field_a ws h)) ≡ m.len
