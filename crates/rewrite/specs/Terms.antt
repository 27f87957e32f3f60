-- What is known of a term, and of a list of terms, of a fine table that is read.
use Rattle.std.specs.Prelude.{ℕ, ◌≤◌, List, length}
use Rattle.rules.specs.Words.{elements}
use Rattle.invariants.specs.Floor.{Sub, Args, Fine}
use Rattle.promise.specs.TermKnown.{TermKnown, ListKnown}
use Rattle.store.specs.Said.{store}

-- a term under d lambdas in a context of c variables, whose home is at least F
pub record TermAt (R n : ℕ) (home : ℕ → ℕ) (ws ss : List ℕ) (used F c d r : ℕ) : Type 0 where
  pub fine : Fine R n home (store ws ss used)
  pub is : Sub ws home F used r
  pub known : TermKnown R (store ws ss used) c d r

-- a list of such terms
pub record ListAt (R n : ℕ) (home : ℕ → ℕ) (ws ss : List ℕ) (used F c d l : ℕ) : Type 0 where
  pub fine : Fine R n home (store ws ss used)
  pub is : Args ws home F used l
  pub few : length (elements ws l) ≤ 16
  pub known : ListKnown R (store ws ss used) c d l
