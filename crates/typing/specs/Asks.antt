-- What the functions of this crate ask, and what is said of one equation.
use Rattle.std.specs.Prelude.{ℕ, ◌<◌, ◌≤◌, min, ◌≡◌, List, Bool, false, not, length}
use Rattle.rules.specs.Lists.{those, below, enough}
use Rattle.rules.specs.Words.{NONE, EQ, tag, field_a, field_b, has}
use Rattle.rules.specs.Typing.{typed}
use Rattle.rules.specs.Pattern.{offence}
use Rattle.laws.specs.Members.{Legal}

-- the lowest offending occurrence in an equation's sides, or NONE
unfoldable pub sides : List ℕ → ℕ → ℕ
sides ws e = min (offence enough ws (field_a ws e)) (offence enough ws (field_b ws e))

-- an equation of a legal table, and room for the binders of each term
pub record EquationAsks (ws st : List ℕ) (low e : ℕ) : Type 0 where
  pub top : ℕ
  pub legal : Legal ws top
  pub within : e < top
  pub is : tag ws e ≡ EQ
  pub room : top ≤ length st
  pub few : low ≤ NONE

-- a legal table, its equations noted, and room for the binders of each term
pub record JudgeAsks (ws st es : List ℕ) : Type 0 where
  pub top : ℕ
  pub legal : Legal ws top
  pub room : top ≤ length st
  pub noted : es ≡ those (λ e. has ws e EQ) (below top)

-- the answer b of equation e, which fails if a side does not check; if it passes, the lowest offending occurrence so far counts those within
pub record Offends (ws : List ℕ) (e low low₁ : ℕ) (b : Bool) : Type 0 where
  pub says : b ≡ not (typed ws e)
  pub lowest : b ≡ false → low₁ ≡ min low (sides ws e)
