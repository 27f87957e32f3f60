-- The whole step: step 1 for the left side, then for the right side likewise, then steps 2 to 5.
use Prim.Native.Nat.{ℕ, suc, ◌-◌, ◌<◌}
use mathlib.Core.Path.{◌≡◌, ap, ◌∙◌}
use mathlib.Core.List.{List, ◌∷◌}
use native.Mathlib.Omega.{arith}
use Rattle.std.specs.Prelude.{Ok, Err}
use Rattle.rules.specs.declared.Failure.{Failure}
use Rattle.store.specs.declared.Written.{Written}
use Rattle.queue.specs.declared.Ring.{Ring}
use Rattle.rules.specs.Lists.{enough}
use Rattle.rules.specs.Store.{goes, ◌>>=◌}
use Rattle.rules.specs.Rewrite.{expand}
use Rattle.rules.specs.Machine.{meet, step}
use Rattle.invariants.specs.Floor.{Sub, Fine, Grown}
use Rattle.invariants.specs.Copy.{Nobody, Expanded}
use Rattle.invariants.proofs.Copy.{expand_grows}
use Rattle.invariants.specs.Pairs.{sides-kept}
use Rattle.promise.proofs.Known.{known-left, known_right, known_swap, known-expanded}
use Rattle.store.specs.Said.{Answer as Written_answer, store, shown}
use Rattle.step.specs.Expand.{Expanding, Expands}
use Rattle.queue.specs.Ring.{view}
use Rattle.step.specs.Said.{Answer, Steps}
use Rattle.step.proofs.Said.{failed_rings}
use Rattle.step.specs.Stand.{Stood}
use Rattle.step.proofs.Stand.{fine_of}

module _ (R n : ℕ) (ws ss : List ℕ) (used : ℕ) (q : List ℕ) (g : Ring) (l r : ℕ) (h : Stood R n ws ss used q g l r) where
  fine : Fine R n h.home (store ws ss used)
  fine = fine_of R n ws ss used q g l r h

  pub expands_left : Expanding R n ws ss used l
  expands_left = record { home = h.home; fine = fine; is = h.running.sides.0.left; known = known-left h.known }

  pub expands_right : Expanding R n ws ss used r
  expands_right = record { home = h.home; fine = fine; is = h.running.sides.0.right; known = known_right h.known }

  little : R - used < enough
  little = let w = fine.within in let f = fine.few in omega arith

  -- a side x after step 1
  module _ (x : ℕ) (ws₁ ss₁ : List ℕ) (y : Written_answer) (p : Expands R n ws ss used x ws₁ ss₁ y) (w : Written) (e : y ≡ Ok w) where
    expanded : expand (suc (R - used)) R x (store ws ss used) ≡ goes (store ws₁ ss₁ w.used) w.root
    expanded = p.run (suc (R - used)) (omega arith) ∙ ap (shown ws₁ ss₁) e

    grows : Sub ws h.home 0 used x → Grown Nobody (Expanded (store ws ss used) x) R n h.home (store ws ss used) (store ws₁ ss₁ w.used) w.root
    grows sub = let i = fine.within in rw expanded at (expand_grows R n (suc (R - used)) x (store ws ss used) h.home fine sub (omega arith))

  left_expanded : (ws₁ ss₁ : List ℕ) (y : Written_answer) → Expands R n ws ss used l ws₁ ss₁ y → (w : Written) → y ≡ Ok w → Stood R n ws₁ ss₁ w.used q g w.root r
  left_expanded ws₁ ss₁ y p w e =
      let gr = grows l ws₁ ss₁ y p w e h.running.sides.0.left in
      let si = sides-kept R n h.home (store ws ss used) gr.home₁ (store ws₁ ss₁ w.used) ((l, r) ∷ view q g) gr.ext h.running.sides in
      record {
        home = gr.home₁;
        running = record { some = h.running.some; fine = λ k. gr.fine; sides = (record { left = gr.root.sub; right = si.0.right }, si.1); few = h.running.few };
        known = known-expanded h.known (suc (R - used)) (expanded l ws₁ ss₁ y p w e);
        ring = h.ring;
      }

  right_expanded : (ws₁ ss₁ : List ℕ) (y : Written_answer) → Expands R n ws ss used r ws₁ ss₁ y → (w : Written) → y ≡ Ok w → Stood R n ws₁ ss₁ w.used q g l w.root
  right_expanded ws₁ ss₁ y p w e =
      let gr = grows r ws₁ ss₁ y p w e h.running.sides.0.right in
      let si = sides-kept R n h.home (store ws ss used) gr.home₁ (store ws₁ ss₁ w.used) ((l, r) ∷ view q g) gr.ext h.running.sides in
      record {
        home = gr.home₁;
        running = record { some = h.running.some; fine = λ k. gr.fine; sides = (record { left = si.0.left; right = gr.root.sub }, si.1); few = h.running.few };
        known = known_swap (known-expanded (known_swap h.known) (suc (R - used)) (expanded r ws₁ ss₁ y p w e));
        ring = h.ring;
      }

-- step 1 for the left side answered y, and then for the right side z
module _ (R n : ℕ) (ws ss : List ℕ) (used : ℕ) (q : List ℕ) (g : Ring) (l r : ℕ) (h : Stood R n ws ss used q g l r) where
  abbrev Takes : List ℕ → List ℕ → List ℕ → Answer → Type 0
  Takes ws₁ ss₁ q₁ x = Steps g.cap (step R g.cap (view q g) l r) ws ss used q ws₁ ss₁ q₁ x

  module _ (ws₁ ss₁ : List ℕ) (y : Written_answer) (p : Expands R n ws ss used l ws₁ ss₁ y) where
    pub left_fails : (e : Failure) → y ≡ Err e → Takes ws₁ ss₁ q (Err e)
    unfolding step ◌>>=◌
    left_fails e k = record { said = rw (p.run enough (little R n ws ss used q g l r h), k); rings = failed_rings g.cap q q e }

    module _ (w : Written) (k : y ≡ Ok w) where
      stood : Stood R n ws₁ ss₁ w.used q g w.root r
      stood = left_expanded R n ws ss used q g l r h ws₁ ss₁ y p w k

      pub right_expands : Expanding R n ws₁ ss₁ w.used r
      right_expands = expands_right R n ws₁ ss₁ w.used q g w.root r stood

      module _ (ws₂ ss₂ : List ℕ) (z : Written_answer) (p₁ : Expands R n ws₁ ss₁ w.used r ws₂ ss₂ z) where
        pub right_fails : (e : Failure) → z ≡ Err e → Takes ws₂ ss₂ q (Err e)
        unfolding step ◌>>=◌
        right_fails e k₁ =
            record { said = rw (p.run enough (little R n ws ss used q g l r h), k, p₁.run enough (little R n ws₁ ss₁ w.used q g w.root r stood), k₁); rings = failed_rings g.cap q q e }

        module _ (v : Written) (k₁ : z ≡ Ok v) where
          pub sides_stood : Stood R n ws₂ ss₂ v.used q g w.root v.root
          sides_stood = right_expanded R n ws₁ ss₁ w.used q g w.root r stood ws₂ ss₂ z p₁ v k₁

          pub taken : (ws₃ ss₃ q₃ : List ℕ) (x : Answer) → Steps g.cap (meet R g.cap (view q g) w.root v.root) ws₂ ss₂ v.used q ws₃ ss₃ q₃ x → Takes ws₃ ss₃ q₃ x
          unfolding step ◌>>=◌
          taken ws₃ ss₃ q₃ x s =
              record { said = rw (p.run enough (little R n ws ss used q g l r h), k, p₁.run enough (little R n ws₁ ss₁ w.used q g w.root r stood), k₁) s.said; rings = s.rings }
