-- What entering the equations asks and says.
use Rattle.std.specs.Prelude.{ℕ, ◌+◌, ◌*◌, ◌<◌, ◌≤◌, ◌≡◌, List, map, length, get_or, Result, Ok, Err}
use Rattle.rules.specs.declared.Failure.{Failure}
use Rattle.rules.specs.declared.Failure.TheVariants.{QueueFull}
use Rattle.rules.specs.Words.{field_a, field_b}
use Rattle.rules.specs.Machine.{Pair as Waiting}
use Rattle.queue.specs.declared.Ring.{Ring}
use Rattle.queue.specs.Ring.{Fine, view}

-- both sides of an equation
abbrev pub sides : List ℕ → ℕ → Waiting
sides ws e = (field_a ws e, field_b ws e)

-- those of each of these equations
unfoldable pub sides_of : List ℕ → List ℕ → List Waiting
sides_of ws es = map (sides ws) es

-- what entering asks: these numbers are those of records
pub record Entering (ws q : List ℕ) (cap : ℕ) (es : List ℕ) : Type 0 where
  pub room : 2 * cap ≤ length q
  pub few : cap ≤ 1024
  pub inside : (i : ℕ) → i < length es → 4 * get_or es i 0 + 3 < length ws

-- these pairs wait alone in a ring of cap places
pub record Alone (cap : ℕ) (new : List Waiting) (q₁ : List ℕ) (g : Ring) : Type 0 where
  pub same : g.cap ≡ cap
  pub fine : Fine q₁ g
  pub counted : g.count ≡ length new
  pub seen : view q₁ g ≡ new

-- these pairs were to enter: they exceed cap, or they wait alone
pub record Enters (cap : ℕ) (new : List Waiting) (q₁ : List ℕ) (x : Result Ring Failure) : Type 0 where
  pub full : (e : Failure) → x ≡ Err e → (e ≡ QueueFull) × (cap < length new)
  pub to : (g : Ring) → x ≡ Ok g → Alone cap new q₁ g
