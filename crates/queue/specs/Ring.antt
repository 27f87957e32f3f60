-- A ring of pairs in a list of words, and what waits in it.
use Rattle.std.specs.Prelude.{ℕ, zero, suc, ◌+◌, ◌-◌, ◌*◌, ◌<◌, ◌≤◌, ◌≡◌, List, [], ◌∷◌, ◌++◌, true, false, length, get_or, ltb, Result, Ok, Err}
use Rattle.rules.specs.declared.Failure.{Failure}
use Rattle.rules.specs.declared.Failure.TheVariants.{QueueFull}
use Rattle.rules.specs.Machine.{Pair as Waiting}
use Rattle.queue.specs.declared.Ring.{Ring}
use Rattle.queue.specs.declared.Pair.{Pair}

-- a number below twice cap, within the ring
unfoldable pub wrap : ℕ → ℕ → ℕ
wrap cap x = elim (ltb x cap) [ true ↦ x | false ↦ x - cap ]

-- the k pairs from place h on
unfoldable pub from : List ℕ → ℕ → ℕ → ℕ → List Waiting
from q cap h zero = []
from q cap h (suc k) = (get_or q (2 * h) 0, get_or q (2 * h + 1) 0) ∷ from q cap (wrap cap (h + 1)) k

-- the pairs that wait
unfoldable pub view : List ℕ → Ring → List Waiting
view q g = from q g.cap g.head g.count

-- the ring lies in the slice
abbrev pub Fine : List ℕ → Ring → Type 0
Fine q g = 2 * g.cap ≤ length q

-- a place, round the ring
pub record Wraps (cap x r : ℕ) : Type 0 where
  pub is : wrap cap x ≡ r
  pub low : r < cap

-- room for so many more
pub record Roomy (q : List ℕ) (g : Ring) (k : ℕ) : Type 0 where
  pub fine : Fine q g
  pub room : g.count + k ≤ g.cap

-- these pairs have joined
pub record Joins (q : List ℕ) (g : Ring) (new : List Waiting) (q₁ : List ℕ) (g₁ : Ring) : Type 0 where
  pub same : g₁.cap ≡ g.cap
  pub fine : Fine q₁ g₁
  pub counted : g₁.count ≡ g.count + length new
  pub seen : view q₁ g₁ ≡ view q g ++ new

-- these pairs were to join: waiting pairs plus new ones exceed cap, or they have joined
pub record Queued (q : List ℕ) (g : Ring) (new : List Waiting) (q₁ : List ℕ) (x : Result Ring Failure) : Type 0 where
  pub full : (e : Failure) → x ≡ Err e → (e ≡ QueueFull) × (g.cap < g.count + length new)
  pub to : (g₁ : Ring) → x ≡ Ok g₁ → Joins q g new q₁ g₁

-- the place of the first pair lies in the slice
pub record Front (q : List ℕ) (g : Ring) : Type 0 where
  pub inside : 2 * g.head + 1 < length q

-- the first pair has left
pub record Leaves (g g₁ : Ring) : Type 0 where
  pub same : g₁.cap ≡ g.cap
  pub head : g₁.head ≡ wrap g.cap (g.head + 1)
  pub count : g.count ≡ suc g₁.count

-- the pair as the rules have it
abbrev pub waiting : Pair → Waiting
waiting p = (p.left, p.right)

abbrev pub front_of : List ℕ → Ring → Pair
front_of q g = record { left = get_or q (2 * g.head) 0; right = get_or q (2 * g.head + 1) 0 }
