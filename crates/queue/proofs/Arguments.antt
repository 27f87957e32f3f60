-- The argument pairs of two lists, joined to the queue in order.
use Prim.Native.Nat.{ℕ, suc}
use mathlib.Core.Path.{◌≡◌, refl, ap}
use mathlib.Core.List.{List, [], ◌∷◌}
use native.Mathlib.Omega.{arith}
use lib.ListN.{length}
use Rattle.std.specs.Prelude.{Result, Ok, Err, ◌⊎◌}
use Rattle.std.proofs.Common.{inl, inr}
use Rattle.rules.specs.declared.Failure.{Failure}
use Rattle.rules.specs.declared.Failure.TheVariants.{QueueFull}
use Rattle.rules.specs.Machine.{Pair as Waiting, zip}
use Rattle.queue.specs.declared.Ring.{Ring}
use Rattle.queue.specs.Ring.{Fine, Roomy, Joins, Queued}
use Rattle.queue.proofs.Joining.{joins_none, joins_more, queued_full, queued_to}

pairs_none : (xs ys : List ℕ) → (xs ≡ []) ⊎ (ys ≡ []) → zip xs ys ≡ []
unfolding zip
pairs_none [] ys e = refl
pairs_none (x ∷ xs) [] e = refl
pairs_none (x ∷ xs) (y ∷ ys) e = elim e [ inl p ↦ none x xs p | inr p ↦ none y ys p ]
  where
    none : (z : ℕ) (zs : List ℕ) → z ∷ zs ≡ [] → zip (x ∷ xs) (y ∷ ys) ≡ []
    none z zs p = let n : suc (length zs) ≡ 0 = ap length p in absurd (omega arith)

-- a turn of the loop: what was asked at its start follows from what is asked of the elements that are left
pub record Turn (q₀ : List ℕ) (g₀ : Ring) (new : List Waiting) (q : List ℕ) (g : Ring) (xs ys : List ℕ) : Type 0 where
  pub fine : Fine q g
  pub leads : (q₁ : List ℕ) (x : Result Ring Failure) → Queued q g (zip xs ys) q₁ x → Queued q₀ g₀ new q₁ x

module _ (q₀ : List ℕ) (g₀ : Ring) where
  pub turn_first : (xs ys : List ℕ) → Fine q₀ g₀ → Turn q₀ g₀ (zip xs ys) q₀ g₀ xs ys
  turn_first xs ys h = record { fine = h; leads = λ q₁ x k. k }

  module _ (new : List Waiting) (q : List ℕ) (g : Ring) (xs ys : List ℕ) (t : Turn q₀ g₀ new q g xs ys) where
    pub turn_ends : (xs ≡ []) ⊎ (ys ≡ []) → Queued q₀ g₀ new q (Ok g)
    turn_ends e = t.leads q (Ok g) (queued_to q g (zip xs ys) q g (rw (pairs_none xs ys e) (joins_none q g t.fine)))

    pub turn_room : (g.count ≡ g.cap → ⊥) → Roomy q g 1
    turn_room e = let c = g.fits in record { fine = t.fine; room = omega arith }

    module _ (x y : ℕ) (xs₁ ys₁ : List ℕ) (e : xs ≡ x ∷ xs₁) (f : ys ≡ y ∷ ys₁) where
      pairs-more : zip xs ys ≡ (x, y) ∷ zip xs₁ ys₁
      unfolding zip
      pairs-more = rw (e, f)

      pub turn_full : g.count ≡ g.cap → Queued q₀ g₀ new q (Err QueueFull)
      turn_full z =
          let n : length (zip xs ys) ≡ suc (length (zip xs₁ ys₁)) = ap length pairs-more in
          t.leads q (Err QueueFull) (queued_full q g (zip xs ys) q (omega arith))

      pub turn_next : (q₁ : List ℕ) (g₁ : Ring) → Joins q g ((x, y) ∷ []) q₁ g₁ → Turn q₀ g₀ new q₁ g₁ xs₁ ys₁
      turn_next q₁ g₁ j = record { fine = j.fine; leads = λ q₂ z p. t.leads q₂ z (rw pairs-more (on q₂ z p)) }
        where
          on : (q₂ : List ℕ) (z : Result Ring Failure) → Queued q₁ g₁ (zip xs₁ ys₁) q₂ z → Queued q g ((x, y) ∷ zip xs₁ ys₁) q₂ z
          on q₂ z p =
              record {
                full = λ e₁ w. let f₁ = p.full e₁ w in let m = j.counted in let s = j.same in (f₁.0, omega arith);
                to = λ g₂ w. joins_more q g (x, y) (zip xs₁ ys₁) q₁ g₁ q₂ g₂ j (p.to g₂ w);
              }
