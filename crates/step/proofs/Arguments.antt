-- Step 3: the argument pairs join the queue, unless waiting pairs plus new ones exceed cap.
use Prim.Native.Nat.{ℕ, ◌+◌, ◌<◌, ◌≤◌}
use mathlib.Core.Path.{◌≡◌, refl}
use mathlib.Core.List.{List}
use native.Mathlib.Omega.{arith}
use lib.ListN.{length}
use borrow.Author.Tests.{le-leb, lt-leb}
use Rattle.std.specs.Prelude.{Result, Ok, Err, ◌⊎◌}
use Rattle.std.proofs.Common.{inl, inr}
use Rattle.rules.specs.declared.Failure.{Failure}
use Rattle.rules.specs.declared.Failure.TheVariants.{QueueFull}
use Rattle.queue.specs.declared.Ring.{Ring}
use Rattle.step.specs.declared.Step.TheVariants.{Done}
use Rattle.rules.specs.Store.{goes, fail, ◌>>=◌}
use Rattle.rules.specs.Machine.{Pair as Waiting, done, join}
use Rattle.store.specs.Said.{store}
use Rattle.queue.specs.Ring.{view, Queued}
use Rattle.queue.specs.RingLaws.{view-length}
use Rattle.step.specs.Said.{Answer, stepped, Rings}
use Rattle.step.proofs.Said.{failed_rings, done_rings}

-- the queue was full, or the pairs have joined
pub full-or-joined : (q : List ℕ) (g : Ring) (new : List Waiting) (q₁ : List ℕ) (x : Result Ring Failure) → Queued q g new q₁ x → (x ≡ Err QueueFull) ⊎ ((g₁ : Ring) × (x ≡ Ok g₁))
full-or-joined q g new q₁ (Ok g₁) h = inr (g₁, refl)
full-or-joined q g new q₁ (Err e) h = let z = (h.full e refl).0 in inl (rw z refl)

-- these pairs were to join, and this is the step's answer
pub record Argues (q : List ℕ) (g : Ring) (new : List Waiting) (used : ℕ) (q₁ : List ℕ) (x : Answer) : Type 0 where
  pub said : (ws ss : List ℕ) → (join g.cap (view q g) new (store ws ss used) >>= (λ p. goes p.0 (done p.1))) ≡ stepped ws ss q₁ x
  pub rings : Rings g.cap q q₁ x

module _ (q : List ℕ) (g : Ring) (new : List Waiting) (used : ℕ) (q₁ : List ℕ) (x : Result Ring Failure) (h : Queued q g new q₁ x) where
  pub argues_full : (e : Failure) → x ≡ Err e → Argues q g new used q₁ (Err e)
  unfolding join fail ◌>>=◌
  argues_full e z =
      let c = h.full e z in
      let f = c.0 in
      let k = c.1 in
      let v = view-length q g in
      let o : g.cap < length (view q g) + length new = omega arith in
      record { said = λ ws ss. rw (f, lt-leb _ _ o, join); rings = failed_rings g.cap q q₁ e }

  pub argues_joins : (g₁ : Ring) → x ≡ Ok g₁ → Argues q g new used q₁ (Ok (Done g₁ used))
  unfolding join ◌>>=◌
  argues_joins g₁ z =
      let j = h.to g₁ z in
      let c = j.counted in
      let s = j.same in
      let f = g₁.fits in
      let v = view-length q g in
      let o : length (view q g) + length new ≤ g.cap = omega arith in
      record { said = λ ws ss. rw (le-leb _ _ o, join, j.seen); rings = done_rings g.cap q q₁ g₁ used j.fine s }
