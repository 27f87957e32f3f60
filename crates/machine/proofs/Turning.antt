-- What a turn of the run's loop keeps.
use Prim.Native.Nat.{ℕ, suc, ◌<◌}
use mathlib.Core.Path.{◌≡◌, refl, sym, ap, subst, ◌∙◌}
use mathlib.Core.List.{List, [], ◌∷◌}
use native.Mathlib.Omega.{arith}
use lib.ListN.{length}
use Rattle.std.specs.Prelude.{Ok, Err}
use Rattle.rules.specs.declared.Failure.{Failure}
use Rattle.queue.specs.declared.Ring.{Ring}
use Rattle.queue.specs.declared.Pair.{Pair}
use Rattle.step.specs.declared.Step.TheVariants.{On, Done}
use Rattle.rules.specs.Store.{goes, ◌>>=◌}
use Rattle.rules.specs.Machine.{Pair as Waiting, Next, on, done, step, upcoming, run}
use Rattle.invariants.specs.Floor.{Grown}
use Rattle.invariants.specs.Copy.{Nobody}
use Rattle.invariants.specs.Running.{Running, Stepped, ahead}
use Rattle.invariants.proofs.Turn.{step_grows}
use Rattle.promise.specs.Known.{Known}
use Rattle.promise.proofs.Known.{known_step}
use Rattle.rewrite.specs.LevelsLaws.{fuel}
use Rattle.store.specs.Said.{store}
use Rattle.queue.specs.Ring.{Fine, view, Leaves, waiting, front_of}
use Rattle.queue.specs.RingLaws.{view_none, left-view, left_fine}
use Rattle.step.specs.Said.{Answer, stepped, Steps}
use Rattle.step.specs.Stand.{Stood}
use Rattle.machine.specs.Run.{Ran, Runs}

-- no pair is left
pub runs_none : (R C : ℕ) (ws ss : List ℕ) (used : ℕ) (q : List Waiting) → q ≡ [] → Runs R C q ws ss used ws ss (Ok used)
unfolding run
runs_none R C ws ss used q e = record { run = λ f hf. let k = fuel f _ hf in rw (e, k.1) }

-- in the loop: the pairs p are in hand or wait, and what was asked of the pairs p₀ at its start follows from what is asked of them
pub record Turn (R n C : ℕ) (p₀ : List Waiting) (ws₀ ss₀ : List ℕ) (used₀ : ℕ) (q₀ : List ℕ) (p : List Waiting) (ws ss : List ℕ) (used : ℕ) (q : List ℕ) (g : Ring) : Type 0 where
  pub same_table : length ws ≡ length ws₀
  pub same_solutions : length ss ≡ length ss₀
  pub same_queue : length q ≡ length q₀
  pub home : ℕ → ℕ
  pub running : Running R C n home (store ws ss used) p
  pub known : Known R (store ws ss used) p
  pub ring : Fine q g
  pub sized : g.cap ≡ C
  pub leads : (ws₁ ss₁ : List ℕ) (x : Ran) → Runs R C p ws ss used ws₁ ss₁ x → Runs R C p₀ ws₀ ss₀ used₀ ws₁ ss₁ x

pub turn_first : (R n : ℕ) (ws ss : List ℕ) (used : ℕ) (q : List ℕ) (g : Ring) (p : Pair)
    → Stood R n ws ss used q g p.left p.right → Turn R n g.cap (waiting p ∷ view q g) ws ss used q (waiting p ∷ view q g) ws ss used q g
turn_first R n ws ss used q g p h =
    record { same_table = refl; same_solutions = refl; same_queue = refl; home = h.home; running = h.running; known = h.known; ring = h.ring; sized = refl; leads = λ ws₁ ss₁ x k. k }

module _ (R n C : ℕ) (p₀ : List Waiting) (ws₀ ss₀ : List ℕ) (used₀ : ℕ) (q₀ : List ℕ) where
  abbrev Loop : List Waiting → List ℕ → List ℕ → ℕ → List ℕ → Ring → Type 0
  Loop = Turn R n C p₀ ws₀ ss₀ used₀ q₀

  module _ (ws ss : List ℕ) (used : ℕ) (q : List ℕ) (g : Ring) (p : Pair) (t : Loop (waiting p ∷ view q g) ws ss used q g) where
    pub turn_stood : Stood R n ws ss used q g p.left p.right
    turn_stood = record { home = t.home; running = subst (λ (k : ℕ). Running R k n t.home (store ws ss used) (waiting p ∷ view q g)) (sym t.sized) t.running; known = t.known; ring = t.ring }

    module _ (ws₁ ss₁ q₁ : List ℕ) (x : Answer) (took : Steps g.cap (step R g.cap (view q g) p.left p.right) ws ss used q ws₁ ss₁ q₁ x) where
      s : Steps C (step R C (view q g) p.left p.right) ws ss used q ws₁ ss₁ q₁ x
      s = subst (λ (k : ℕ). Steps k (step R k (view q g) p.left p.right) ws ss used q ws₁ ss₁ q₁ x) t.sized took

      abbrev Ends : Ran → Type 0
      Ends y = Runs R C p₀ ws₀ ss₀ used₀ ws₁ ss₁ y

      abbrev now : ℕ
      now = ahead R C used (waiting p ∷ view q g)

      -- one turn of the rule
      turn : (k : ℕ) → run (suc k) R C (waiting p ∷ view q g) (store ws ss used) ≡ (stepped ws₁ ss₁ q₁ x >>= (λ (s₁, next). run k R C (upcoming (view q g) next) s₁))
      unfolding run
      turn k = rw s.said

      pub turn_fails : (e : Failure) (y : Ran) → x ≡ Err e → y ≡ Err e → Ends y
      unfolding ◌>>=◌
      turn_fails e y z o = rw o (t.leads ws₁ ss₁ (Err e) (record { run = λ f hf. let k = fuel f _ hf in rw (k.1, turn k.0, z) }))

      module _ (u : ℕ) (next : Next) (e : stepped ws₁ ss₁ q₁ x ≡ goes (store ws₁ ss₁ u) next) where
        -- what the step comes to keeps the state of the run
        came : Grown Nobody (Stepped R C n used p.left p.right (view q g)) R n t.home (store ws ss used) (store ws₁ ss₁ u) next
        came = rw (s.said, e) at (step_grows R C n p.left p.right (view q g) t.home (store ws ss used) t.running)

        -- the run goes on
        onward : (ws₂ ss₂ : List ℕ) (y : Ran) → Runs R C (upcoming (view q g) next) ws₁ ss₁ u ws₂ ss₂ y → Runs R C p₀ ws₀ ss₀ used₀ ws₂ ss₂ y
        unfolding ◌>>=◌
        onward ws₂ ss₂ y h =
            let lt = came.root.falls in
            t.leads ws₂ ss₂ y (record { run = λ f hf. let k = fuel f _ hf in let k₂ = k.2 in rw (k.1, turn k.0, e) (h.run k.0 (omega arith)) })

        turned : (q₂ : List ℕ) (g₂ : Ring) → length ws₁ ≡ length ws → length ss₁ ≡ length ss → length q₂ ≡ length q → Fine q₂ g₂ → g₂.cap ≡ C
            → Loop (upcoming (view q g) next) ws₁ ss₁ u q₂ g₂
        turned q₂ g₂ lw ls lq f c =
            record {
              same_table = lw ∙ t.same_table;
              same_solutions = ls ∙ t.same_solutions;
              same_queue = lq ∙ t.same_queue;
              home = came.home₁;
              running = came.root.running;
              known = known_step t.known C (s.said ∙ e);
              ring = f;
              sized = c;
              leads = onward;
            }

      module _ (p₁ : Pair) (u₁ : ℕ) (z : x ≡ Ok (On p₁ u₁)) where
        on_is : stepped ws₁ ss₁ q₁ x ≡ goes (store ws₁ ss₁ u₁) (on p₁.left p₁.right)
        on_is = ap (stepped ws₁ ss₁ q₁) z

        pub on_less : ahead R C u₁ (waiting p₁ ∷ view q₁ g) < now
        unfolding upcoming
        on_less = rw (s.rings.still p₁ u₁ z) (came u₁ (on p₁.left p₁.right) on_is).root.falls

        pub turn_on : length ws₁ ≡ length ws → length ss₁ ≡ length ss → Loop (waiting p₁ ∷ view q₁ g) ws₁ ss₁ u₁ q₁ g
        unfolding upcoming
        turn_on lw ls = rw (s.rings.still p₁ u₁ z) (turned u₁ (on p₁.left p₁.right) on_is q g lw ls refl t.ring t.sized)

      module _ (g₁ : Ring) (u₁ : ℕ) (z : x ≡ Ok (Done g₁ u₁)) where
        done_is : stepped ws₁ ss₁ q₁ x ≡ goes (store ws₁ ss₁ u₁) (done (view q₁ g₁))
        done_is = ap (stepped ws₁ ss₁ q₁) z

        pub turn_ends : g₁.count ≡ 0 → Ends (Ok u₁)
        unfolding upcoming
        turn_ends none = onward u₁ (done (view q₁ g₁)) done_is ws₁ ss₁ (Ok u₁) (runs_none R C ws₁ ss₁ u₁ (view q₁ g₁) (view_none q₁ g₁ none))

        waits : length ws₁ ≡ length ws → length ss₁ ≡ length ss → length q₁ ≡ length q → Loop (view q₁ g₁) ws₁ ss₁ u₁ q₁ g₁
        unfolding upcoming
        waits lw ls lq = turned u₁ (done (view q₁ g₁)) done_is q₁ g₁ lw ls lq (s.rings.fine g₁ u₁ z) (s.rings.same g₁ u₁ z)

        -- the first of the pairs that wait is taken in hand
        module _ (g₂ : Ring) (f : Pair) (v : Leaves g₁ g₂) (is : front_of q₁ g₁ ≡ f) where
          first : view q₁ g₁ ≡ waiting f ∷ view q₁ g₂
          first = left-view q₁ g₁ g₂ f v is

          pub takes_less : ahead R C u₁ (waiting f ∷ view q₁ g₂) < now
          unfolding upcoming
          takes_less = rw first at (came u₁ (done (view q₁ g₁)) done_is).root.falls

          pub turn_takes : length ws₁ ≡ length ws → length ss₁ ≡ length ss → length q₁ ≡ length q → Loop (waiting f ∷ view q₁ g₂) ws₁ ss₁ u₁ q₁ g₂
          turn_takes lw ls lq =
              let w = waits lw ls lq in
              record {
                same_table = w.same_table;
                same_solutions = w.same_solutions;
                same_queue = w.same_queue;
                home = w.home;
                running = rw first at w.running;
                known = rw first at w.known;
                ring = left_fine q₁ g₁ g₂ w.ring v;
                sized = v.same ∙ w.sized;
                leads = λ ws₂ ss₂ y h. w.leads ws₂ ss₂ y (rw first h);
              }
