-- What the run comes to.
use Rattle.std.specs.Prelude.{ℕ, ◌<◌, ◌≡◌, List, [], Result, Ok, Err}
use Rattle.rules.specs.declared.Failure.{Failure}
use Rattle.rules.specs.Store.{Out, goes, fails}
use Rattle.rules.specs.Machine.{Pair as Waiting, run}
use Rattle.invariants.specs.Running.{ahead}
use Rattle.store.specs.Said.{store}

-- what the run comes to: the records used, or the failure
abbrev pub Ran : Type 0
Ran = Result ℕ Failure

-- the words left and the answer, as the rules have them
abbrev pub ended : List ℕ → List ℕ → Ran → Out (List Waiting)
ended ws ss (Ok u) = goes (store ws ss u) []
ended ws ss (Err e) = fails ws ss e

-- with fuel enough, the run of these pairs answers so
pub record Runs (R C : ℕ) (q : List Waiting) (ws ss : List ℕ) (used : ℕ) (ws₁ ss₁ : List ℕ) (x : Ran) : Type 0 where
  pub run : (f : ℕ) → ahead R C used q < f → run f R C q (store ws ss used) ≡ ended ws₁ ss₁ x
