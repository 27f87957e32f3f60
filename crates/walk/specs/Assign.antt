-- What step 5 asks and says.
use Rattle.std.specs.Prelude.{ℕ, ◌≡◌, List}
use Rattle.rules.specs.Words.{tag, HA}
use Rattle.invariants.specs.Floor.{Sub, Fine}
use Rattle.store.specs.Said.{store}
use Rattle.promise.specs.TermKnown.{TermKnown}

-- what step 5 asks: an occurrence on the left, a term on the right
pub record Assigning (R n : ℕ) (ws ss : List ℕ) (used l r : ℕ) : Type 0 where
  pub home : ℕ → ℕ
  pub fine : Fine R n home (store ws ss used)
  pub left : Sub ws home 0 used l
  pub occ : tag ws l ≡ HA
  pub right : Sub ws home 0 used r
  pub scope : ℕ
  pub known : TermKnown R (store ws ss used) scope 0 r
