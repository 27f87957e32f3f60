-- The equations enter the queue, and the first is taken in hand.
use Prim.Native.Nat.{ℕ, ◌+◌, ◌*◌, ◌<◌, ◌≤◌}
use mathlib.Core.Path.{◌≡◌, sym, subst, ◌∙◌}
use mathlib.Core.List.{List, ◌∷◌}
use native.Mathlib.Omega.{arith}
use native.Mathlib.Nat.{le_refl}
use lib.ListN.{length, get_or}
use lib.Seq.{take-length}
use borrow.Author.Tests.{le-leb, lt-leb}
use Rattle.std.specs.Prelude.{Result, Ok, Err}
use Rattle.rules.specs.declared.Failure.{Failure}
use Rattle.queue.specs.declared.Ring.{Ring}
use Rattle.queue.specs.declared.Pair.{Pair}
use Rattle.rules.specs.Words.{EQ, has}
use Rattle.rules.specs.Store.{fail, ◌>>=◌}
use Rattle.rules.specs.Machine.{join, steps, equations, machine}
use Rattle.laws.specs.Noted.{noted_member}
use Rattle.invariants.proofs.Falls.{steps-more}
use Rattle.invariants.proofs.Turn.{lefts_low}
use Rattle.invariants.specs.Running.{Running}
use Rattle.store.specs.Said.{store}
use Rattle.queue.specs.Ring.{view, Front, Leaves, waiting, front_of}
use Rattle.queue.specs.RingLaws.{view_none, fine_front, left-view, left_fine}
use Rattle.queue.specs.Equations.{sides_of, Entering, Alone, Enters}
use Rattle.step.specs.Stand.{Stood}
use Rattle.machine.specs.Run.{Ran, ended, Runs}
use Rattle.machine.specs.Start.{Started}
use Rattle.machine.proofs.Turning.{runs_none}

module _ (R n : ℕ) (ws ss q : List ℕ) (C : ℕ) (es : List ℕ) (h : Started R n ws ss q C es) where
  noted_inside : (i : ℕ) → i < length es → 4 * get_or es i 0 + 3 < length ws
  noted_inside i lt =
      let z = (noted_member (λ e. has ws e EQ) es (length es) n i (take-length es ∙ h.noted) (le_refl _) lt).0 in
      let a = h.inside in
      omega arith

  pub started_enters : Entering ws q C es
  started_enters = record { room = h.room; few = h.few; inside = noted_inside }

  module _ (q₁ : List ℕ) (x : Result Ring Failure) (entered : Enters C (sides_of ws es) q₁ x) where
    p : Enters C (equations ws n) q₁ x
    unfolding equations sides_of
    p = rw h.noted at entered

    pub started_full : (e : Failure) → x ≡ Err e → machine R C n (store ws ss n) ≡ ended ws ss (Err e)
    unfolding machine join fail ◌>>=◌
    started_full e z = let f = p.full e z in let k = f.1 in let o : C < 0 + length (equations ws n) = omega arith in rw (f.0, lt-leb _ _ o, join)

    module _ (g : Ring) (e : x ≡ Ok g) where
      alone : Alone C (equations ws n) q₁ g
      alone = p.to g e

      fits : length (equations ws n) ≤ C
      fits = let c = alone.counted in let s = alone.same in let f = g.fits in omega arith

      pub started_front : (g.count ≡ 0 → ⊥) → Front q₁ g
      started_front z = fine_front q₁ g alone.fine z

      all-run : (ws₁ ss₁ : List ℕ) (y : Ran) → Runs R C (view q₁ g) ws ss n ws₁ ss₁ y → machine R C n (store ws ss n) ≡ ended ws₁ ss₁ y
      unfolding machine join ◌>>=◌
      all-run ws₁ ss₁ y r =
          let f = fits in
          let o : 0 + length (equations ws n) ≤ C = omega arith in
          let ru = h.running f in
          let r₁ : Runs R C (equations ws n) ws ss n ws₁ ss₁ y = rw alone.seen at r in
          rw (le-leb _ _ o, join) (r₁.run (steps R C) (steps-more R C n (equations ws n) ru.few (lefts_low R C n h.home (store ws ss n) (equations ws n) ru)))

      pub started_none : g.count ≡ 0 → machine R C n (store ws ss n) ≡ ended ws ss (Ok n)
      started_none z = all-run ws ss (Ok n) (runs_none R C ws ss n (view q₁ g) (view_none q₁ g z))

      module _ (g₁ : Ring) (f : Pair) (v : Leaves g g₁) (is : front_of q₁ g ≡ f) where
        same : g₁.cap ≡ C
        same = v.same ∙ alone.same

        first : view q₁ g ≡ waiting f ∷ view q₁ g₁
        first = left-view q₁ g g₁ f v is

        pub started_stood : Stood R n ws ss n q₁ g₁ f.left f.right
        started_stood =
            let q : equations ws n ≡ waiting f ∷ view q₁ g₁ = sym alone.seen ∙ first in
            record {
              home = h.home;
              running = subst (λ (k : ℕ). Running R k n h.home (store ws ss n) (waiting f ∷ view q₁ g₁)) (sym same) (rw q at (h.running fits));
              known = rw q at h.known;
              ring = left_fine q₁ g g₁ alone.fine v;
            }

        pub started_runs : (ws₁ ss₁ : List ℕ) (y : Ran) → Runs R g₁.cap (waiting f ∷ view q₁ g₁) ws ss n ws₁ ss₁ y → machine R C n (store ws ss n) ≡ ended ws₁ ss₁ y
        started_runs ws₁ ss₁ y r = all-run ws₁ ss₁ y (rw first (subst (λ (k : ℕ). Runs R k (waiting f ∷ view q₁ g₁) ws ss n ws₁ ss₁ y) same r))
