-- An admitted input where the machine starts, cleared, with the first C pairs of the queue.
use Prim.Native.Nat.{ℕ, zero, suc, ◌+◌, ◌-◌, ◌*◌, ◌<◌}
use mathlib.Core.Path.{◌≡◌, refl, ap, ◌∙◌}
use mathlib.Core.List.{List, ◌∷◌}
use mathlib.Core.Bool.{Bool, true, false}
use native.Mathlib.Omega.{arith}
use lib.ListN.{length, take}
use Rattle.rules.specs.Words.{EQ, has}
use Rattle.rules.specs.Lists.{those, from, below}
use Rattle.rules.specs.Answers.{pairs}
use Rattle.rules.specs.Solve.{start}
use Rattle.invariants.specs.Start.{records_few, records_room, filled-below, start_running}
use Rattle.promise.proofs.Known.{known_start}
use Rattle.store.specs.Said.{store}
use Rattle.store.specs.Clearing.{Clearing, Cleared}
use Rattle.store.specs.ClearingLaws.{clearing_on}
use Rattle.machine.specs.Start.{Noted, Started}
use Rattle.machine.specs.Leaving.{Admits}
use Rattle.machine.proofs.Pairs.{lent_length}

-- as many records are given as before, with the same tags: the same equations
those_same : (ok ok₁ : ℕ → Bool) (i k : ℕ) → ((e : ℕ) → e < i + k → ok e ≡ ok₁ e) → those ok (from i k) ≡ those ok₁ (from i k)
unfolding those from
those_same ok ok₁ i zero h = refl
those_same ok ok₁ i (suc k) h = go (ok₁ i) refl (h i (omega arith)) (those_same ok ok₁ (i + 1) k (λ e l. h e (omega arith)))
  where
    go : (b : Bool) → ok₁ i ≡ b → ok i ≡ ok₁ i → those ok (from (i + 1) k) ≡ those ok₁ (from (i + 1) k) → those ok (i ∷ from (i + 1) k) ≡ those ok₁ (i ∷ from (i + 1) k)
    go true e q ih = rw (q, e, those) (ap (i ∷◌) ih)
    go false e q ih = rw (q, e, those) ih

noted_cleared : (n R : ℕ) (ws ss ws₀ ss₀ es : List ℕ) → Clearing n R ws ss → Cleared n R ws ss ws₀ ss₀ → Noted ws n es → Noted ws₀ n es
unfolding has below
noted_cleared n R ws ss ws₀ ss₀ es h c d =
    let t = h.in_table in
    let r = h.room in
    let same : (e : ℕ) → e < 0 + n → has ws e EQ ≡ has ws₀ e EQ = λ e l. rw (← c.table, filled-below (4 * n) (4 * (R - n)) 0 (4 * e) ws (omega arith) (omega arith)) in
    d ∙ those_same (λ e. has ws e EQ) (λ e. has ws₀ e EQ) 0 n same

module _ (R n : ℕ) (ws ss es : List ℕ) (a : Admits R n ws ss es) where
  pub admits_clearing : Clearing n R ws ss
  admits_clearing =
      let z = a.room in
      let f = records_few ws in
      let r = records_room ws in
      let i = a.input.in_table in
      let h = a.input.held in
      record { in_table = omega arith; few = omega arith; room = omega arith; held = omega arith }

  pub start_is : (ws₀ ss₀ : List ℕ) → Cleared n R ws ss ws₀ ss₀ → start ws ss n ≡ store ws₀ ss₀ n
  unfolding start
  start_is ws₀ ss₀ c = rw (a.room, c.table, c.solutions)

  pub admits_started : (C : ℕ) (qs ws₀ ss₀ : List ℕ) → Cleared n R ws ss ws₀ ss₀ → length ws₀ ≡ length ws → pairs qs ≡ C → Started R n ws₀ ss₀ (take (2 * C) qs) C es
  unfolding pairs
  admits_started C qs ws₀ ss₀ c l p =
      let h = admits_clearing in
      let t = h.in_table in
      let f = h.few in
      let r = h.room in
      let i = a.input in
      record {
        inside = omega arith;
        room = let l = lent_length qs C p in omega arith;
        few = omega arith;
        home = λ i. 0;
        running = rw (a.room, start_is ws₀ ss₀ c) at (start_running ws ss n i.sound i.in_table i.held C);
        known = rw (a.room, start_is ws₀ ss₀ c) at (known_start ws ss n a.typed);
        noted = noted_cleared n R ws ss ws₀ ss₀ es admits_clearing c a.noted;
      }

  pub admits_clearing_on : (ws₀ ss₀ ws₁ ss₁ : List ℕ) → length ws₀ ≡ length ws → length ss₀ ≡ length ss → length ws₁ ≡ length ws₀ → length ss₁ ≡ length ss₀ → Clearing n R ws₁ ss₁
  admits_clearing_on ws₀ ss₀ ws₁ ss₁ e f e₁ f₁ = clearing_on n R ws ss admits_clearing ws₁ ss₁ (e₁ ∙ e) (f₁ ∙ f)
