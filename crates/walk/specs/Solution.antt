-- What a copy of a solution asks and says.
use Rattle.std.specs.Prelude.{ℕ, suc, ◌<◌, ◌≡◌, List, length}
use Rattle.rules.specs.Words.{tag, variables, HA}
use Rattle.rules.specs.Map.{to_variables}
use Rattle.rules.specs.Rewrite.{copy}
use Rattle.invariants.specs.Floor.{Sub, Fine}
use Rattle.invariants.specs.Rise.{reach}
use Rattle.store.specs.Said.{Answer, store, shown, Since}
use Rattle.promise.specs.TermKnown.{TermKnown}

-- what copying a solution t asks, for the occurrence r
pub record Copying (R n : ℕ) (ws ss : List ℕ) (used r t : ℕ) : Type 0 where
  pub home : ℕ → ℕ
  pub fine : Fine R n home (store ws ss used)
  pub at : Sub ws home 0 used r
  pub nine : tag ws r ≡ HA
  pub is : Sub ws home 1 used t
  pub known : TermKnown R (store ws ss used) (length (variables ws r)) 0 t

-- with fuel enough, the copy answers so
pub record CopiesSolution (R n : ℕ) (ws ss : List ℕ) (used r t : ℕ) (ws₁ ss₁ : List ℕ) (x : Answer) : Type 0 where
  pub run : (f : ℕ) → reach R 1 (suc t) < f → copy f R (to_variables 0 (variables ws r)) 0 t (store ws ss used) ≡ shown ws₁ ss₁ x
  pub grown : Since n x
