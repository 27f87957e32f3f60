-- What step 1 asks and says.
use Rattle.std.specs.Prelude.{ℕ, ◌+◌, ◌-◌, ◌*◌, ◌<◌, ◌≡◌, List, true, false, length, Option, None}
use Rattle.rules.specs.Words.{HA, tag, field_a, has}
use Rattle.rules.specs.Rewrite.{expand}
use Rattle.invariants.specs.Floor.{Sub, Fine}
use Rattle.promise.specs.SideKnown.{SideKnown}
use Rattle.store.specs.Said.{Answer, store, shown, Since}
use Rattle.store.specs.Solutions.{solution_in}

-- the record of the solution of a side's head, if the head is a solved hole
unfoldable pub head_solution : List ℕ → List ℕ → ℕ → Option ℕ
head_solution ws ss r = elim (has ws r HA) [ true ↦ solution_in ss (field_a ws r) | false ↦ None ]

-- what looking at a side's head asks
pub record Heading (ws ss : List ℕ) (r : ℕ) : Type 0 where
  pub inside : 4 * r + 3 < length ws
  pub held : tag ws r ≡ HA → field_a ws r < length ss

-- what expanding asks of a side
pub record Expanding (R n : ℕ) (ws ss : List ℕ) (used r : ℕ) : Type 0 where
  pub home : ℕ → ℕ
  pub fine : Fine R n home (store ws ss used)
  pub is : Sub ws home 0 used r
  pub known : SideKnown R (store ws ss used) r

-- with fuel enough, expanding answers so
pub record Expands (R n : ℕ) (ws ss : List ℕ) (used r : ℕ) (ws₁ ss₁ : List ℕ) (x : Answer) : Type 0 where
  pub run : (f : ℕ) → R - used < f → expand f R r (store ws ss used) ≡ shown ws₁ ss₁ x
  pub grown : Since n x
