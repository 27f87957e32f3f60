-- What waits after a pair has left a ring.
use Rattle.std.specs.Prelude.{ℕ, zero, suc, ◌+◌, ◌-◌, ◌<◌, ◌≤◌, ◌≡◌, refl, List, [], ◌∷◌, ◌⊎◌, length}
use Rattle.std.proofs.Common.{ap, subst, inl, inr, arith, lt-ltb, le-ltb}
use Rattle.std.proofs.Math.Decide.{dec_lt}
use Rattle.queue.specs.declared.Ring.{Ring}
use Rattle.queue.specs.declared.Pair.{Pair}
use Rattle.queue.specs.Ring.{wrap, from, view, Fine, Front, Leaves, waiting, front_of}

pub wrap_in : (cap x : ℕ) → x < cap → wrap cap x ≡ x
unfolding wrap
wrap_in cap x h = rw (lt-ltb _ _ h, wrap)

pub wrap_out : (cap x : ℕ) → cap ≤ x → wrap cap x ≡ x - cap
unfolding wrap
wrap_out cap x h = rw (le-ltb _ _ h, wrap)

pub wrap_after : (cap x : ℕ) → x < cap + cap → (wrap cap x < cap) × ((x ≡ wrap cap x) ⊎ (x ≡ wrap cap x + cap))
wrap_after cap x h = go (dec_lt x cap)
  where
    go : Dec (x < cap) → (wrap cap x < cap) × ((x ≡ wrap cap x) ⊎ (x ≡ wrap cap x + cap))
    go (yes lt) = rw (wrap_in cap x lt) (lt, inl refl)
    go (no n) = rw (wrap_out cap x (omega arith)) (omega arith, inr (omega arith))

-- a ring in which a pair waits has a place for it
pub ring_head : (g : Ring) → 1 ≤ g.count → g.head < g.cap
ring_head g c = let i = g.inside in let f = g.fits in omega arith

module _ (q : List ℕ) (g : Ring) (h : Fine q g) (z : g.count ≡ 0 → ⊥) where
  pub fine_front : Front q g
  fine_front = let k = ring_head g (omega arith) in record { inside = omega arith }

pub left-view : (q : List ℕ) (g g₁ : Ring) (f : Pair) → Leaves g g₁ → front_of q g ≡ f → view q g ≡ waiting f ∷ view q g₁
unfolding view from
left-view q g g₁ f v e = subst (λ (f : Pair). view q g ≡ waiting f ∷ view q g₁) e (rw (v.count, v.head, v.same))

pub left_fine : (q : List ℕ) (g g₁ : Ring) → Fine q g → Leaves g g₁ → Fine q g₁
left_fine q g g₁ f v = rw v.same f

pub view_none : (q : List ℕ) (g : Ring) → g.count ≡ 0 → view q g ≡ []
unfolding view from
view_none q g e = rw e

from-length : (q : List ℕ) (cap h k : ℕ) → length (from q cap h k) ≡ k
unfolding from
from-length q cap h zero = refl
from-length q cap h (suc k) = ap suc (from-length q cap (wrap cap (h + 1)) k)

pub view-length : (q : List ℕ) (g : Ring) → length (view q g) ≡ g.count
unfolding view
view-length q g = from-length q g.cap g.head g.count
