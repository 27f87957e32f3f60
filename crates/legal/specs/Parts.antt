-- What is said of a term that was written anew, and of a list of such terms.
use Rattle.std.specs.Prelude.{ℕ, ◌+◌, ◌-◌, ◌≤◌, ◌≡◌, length}
use mathlib.Core.List.{List}
use Rattle.rules.specs.Store.{Store}
use Rattle.invariants.specs.Floor.{All}
use Rattle.legal.specs.Cells.{some_terms}
use Rattle.legal.specs.Scope.{Part}
use Rattle.legal.specs.Sane.{Kept}
use Rattle.legal.specs.Added.{Root, Chain}

-- a term written under B variables: no hole in it stands under more than these and the records written
pub record Wrote (R B : ℕ) (s s₁ : Store) (x : ℕ) : Type 0 where
  pub kept : Kept R s s₁
  pub root : Root s s₁ x
  pub part : Part s₁ (B + (s₁.used - s.used)) B x

-- a list of such terms
pub record WroteList (R B k : ℕ) (s s₁ : Store) (l : ℕ) : Type 0 where
  pub kept : Kept R s s₁
  pub records : List ℕ
  pub chain : Chain some_terms s s₁ l records
  pub parts : All (Part s₁ (B + (s₁.used - s.used)) B) records
  pub count : length records ≡ k

-- variables below B and as many more as records were written are below 4,096. While a term is written, a variable under lambdas that are
-- still to be written can be higher than there are records; where the whole of it is written, this holds
abbrev pub Small : ℕ → Store → Store → Type 0
Small B s s₁ = B + (s₁.used - s.used) ≤ 4096
