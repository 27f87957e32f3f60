-- Which of the steps 2 to 5 two sides ask for.
use Rattle.std.specs.Prelude.{ℕ, ◌+◌, ◌*◌, ◌<◌, ◌≤◌, ◌≡◌, List, length}
use Rattle.rules.specs.declared.Failure.TheVariants.{Clash as Clashes}
use Rattle.step.specs.declared.Meeting.{Meeting}
use Rattle.step.specs.declared.Meeting.TheVariants.{Bodies, Arguments, SameHole, Solve, Clash}
use Rattle.rules.specs.Words.{tag, field_a, field_b, elements, HA}
use Rattle.rules.specs.Store.{Store, Out, goes, fail, ◌>>=◌}
use Rattle.rules.specs.Walk.{assign}
use Rattle.rules.specs.Machine.{Pair as Waiting, Next, on, done, zip, join, same_hole, meet}
use Rattle.invariants.specs.Floor.{Term}
use Rattle.store.specs.Said.{store}
use Rattle.step.specs.Said.{finish}

-- both sides are terms that can be read
pub record Terms (ws : List ℕ) (l r : ℕ) : Type 0 where
  pub inside_left : 4 * l + 3 < length ws
  pub inside_right : 4 * r + 3 < length ws
  pub left : Term ws l
  pub right : Term ws r

-- two sides, in order or turned round
pub data Sides (l r a b : ℕ) : Type 0 where
  in_order : a ≡ l → b ≡ r → Sides l r a b
  turned : a ≡ r → b ≡ l → Sides l r a b

-- what is done where two sides meet so
abbrev pub meet_as : Meeting → ℕ → ℕ → List Waiting → ℕ → ℕ → Store → Out Next
meet_as (Bodies p) R C q l r s = goes s (on p.left p.right)
meet_as (Arguments p) R C q l r s = join C q (zip (elements s.words p.left) (elements s.words p.right)) s >>= (λ p. goes p.0 (done p.1))
meet_as SameHole R C q l r s = same_hole R q l r s
meet_as (Solve a b) R C q l r s = assign R a b s >>= finish q
meet_as Clash R C q l r s = fail Clashes s

-- what is known of two sides that meet so
abbrev pub FactOf : List ℕ → ℕ → ℕ → Meeting → Type 0
FactOf ws l r (Bodies p) = Unit {0}
FactOf ws l r (Arguments p) = (7 ≤ tag ws l) × (tag ws l ≤ 8) × (tag ws r ≡ tag ws l) × (field_a ws l ≡ field_a ws r) × (p.left ≡ field_b ws l) × (p.right ≡ field_b ws r)
FactOf ws l r SameHole = (tag ws l ≡ HA) × (tag ws r ≡ HA) × (field_a ws l ≡ field_a ws r)
FactOf ws l r (Solve a b) = (tag ws a ≡ HA) × Sides l r a b
FactOf ws l r Clash = Unit {0}

pub record MeetsAs (ws : List ℕ) (l r : ℕ) (k : Meeting) : Type 0 where
  pub run : (R C : ℕ) (q : List Waiting) (ss : List ℕ) (u : ℕ) → meet R C q l r (store ws ss u) ≡ meet_as k R C q l r (store ws ss u)
  pub fact : FactOf ws l r k
