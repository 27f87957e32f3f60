-- What step 4 asks and says.
use Rattle.std.specs.Prelude.{ℕ, ◌+◌, ◌*◌, ◌<◌, ◌≡◌, List, false, length, Result, Ok, Err}
use Rattle.places.specs.declared.Map.{Map}
use Rattle.rules.specs.declared.Failure.{Failure}
use Rattle.rules.specs.Words.{tag, field_a, field_b, elements, variables, HA}
use Rattle.rules.specs.Map.{sources}
use Rattle.rules.specs.Store.{Out, goes, fails}
use Rattle.rules.specs.Machine.{Pair as Waiting, Next, done, agreeing, same_hole}
use Rattle.invariants.specs.Floor.{Sub, Fine}
use Rattle.store.specs.Said.{store}
use Rattle.places.specs.Maps.{map_of}
use Rattle.places.specs.Lists.{Counts}

-- two occurrences whose arguments can be read
pub record Occurrences (ws : List ℕ) (l r : ℕ) : Type 0 where
  pub inside_left : 4 * l + 3 < length ws
  pub inside_right : 4 * r + 3 < length ws
  pub left : Counts ws (field_b ws l)
  pub right : Counts ws (field_b ws r)
  pub many : length (elements ws (field_b ws l)) ≡ length (elements ws (field_b ws r))

-- the map leads from the positions at which their arguments agree, and has a position for each argument
pub record Agreed (ws : List ℕ) (l r : ℕ) (m : Map) : Type 0 where
  pub run : sources (map_of false m) ≡ agreeing 0 (variables ws l) (variables ws r)
  pub len : m.len ≡ length (elements ws (field_b ws l))

-- what step 4 asks
pub record SameReady (R n : ℕ) (ws ss : List ℕ) (used l r : ℕ) : Type 0 where
  pub home : ℕ → ℕ
  pub fine : Fine R n home (store ws ss used)
  pub left : Sub ws home 0 used l
  pub right : Sub ws home 0 used r
  pub nine_left : tag ws l ≡ HA
  pub nine_right : tag ws r ≡ HA
  pub many : length (elements ws (field_b ws l)) ≡ length (elements ws (field_b ws r))
  pub arity : length (elements ws (field_a ws (field_a ws l))) ≡ length (elements ws (field_b ws l))

-- the records used, and q waits, or the failure
abbrev pub used_up : List Waiting → List ℕ → List ℕ → Result ℕ Failure → Out Next
used_up q ws ss (Ok u) = goes (store ws ss u) (done q)
used_up q ws ss (Err e) = fails ws ss e

-- step 4 answers so, whatever waits
pub record SameDone (R l r : ℕ) (ws ss : List ℕ) (used : ℕ) (ws₁ ss₁ : List ℕ) (x : Result ℕ Failure) : Type 0 where
  pub said : (q : List Waiting) → same_hole R q l r (store ws ss used) ≡ used_up q ws₁ ss₁ x
