-- What each of the steps 2 to 5 asks holds of the pair in hand.
use Prim.Native.Nat.{ℕ}
use mathlib.Core.Path.{◌≡◌, refl, sym, ap, ◌∙◌}
use mathlib.Core.List.{List}
use native.Mathlib.Omega.{arith}
use lib.ListN.{length-map}
use Rattle.rules.specs.declared.Failure.TheVariants.{Clash as Clashes}
use Rattle.std.specs.Prelude.{Result, Ok, Err}
use Rattle.rules.specs.declared.Failure.{Failure}
use Rattle.store.specs.declared.Written.{Written}
use Rattle.queue.specs.declared.Pair.{Pair}
use Rattle.queue.specs.declared.Ring.{Ring}
use Rattle.step.specs.declared.Step.TheVariants.{On, Done}
use Rattle.step.specs.declared.Meeting.{Meeting}
use Rattle.step.specs.declared.Meeting.TheVariants.{Bodies, Arguments, SameHole, Solve, Clash}
use Rattle.rules.specs.Words.{tag, arguments, variables, HA}
use Rattle.rules.specs.Store.{fail, ◌>>=◌}
use Rattle.rules.specs.Walk.{assign}
use Rattle.rules.specs.Machine.{meet}
use Rattle.invariants.specs.Floor.{Sub, Fine}
use Rattle.store.specs.Said.{Answer as Written_answer, store, Does²}
use Rattle.rewrite.specs.PartsLaws.{term_read, counts_of}
use Rattle.walk.specs.Assign.{Assigning}
use Rattle.promise.proofs.TermKnown.{known-arity}
use Rattle.promise.proofs.SideKnown.{side_walks}
use Rattle.promise.proofs.Known.{known-left, known_right, same_arguments, same_holes}
use Rattle.queue.specs.Ring.{view, Queued}
use Rattle.queue.specs.Arguments.{pairs_of, Joining}
use Rattle.step.specs.Said.{Answer, Steps}
use Rattle.step.proofs.Said.{failed_rings, done_rings, on_rings}
use Rattle.step.proofs.Arguments.{Argues, argues_full, argues_joins}
use Rattle.step.specs.Meets.{Terms, MeetsAs, Sides, in_order, turned, FactOf, meet_as}
use Rattle.step.specs.Same.{SameReady, SameDone}
use Rattle.step.specs.Stand.{Stood}

pub fine_of : (R n : ℕ) (ws ss : List ℕ) (used : ℕ) (q : List ℕ) (g : Ring) (l r : ℕ) (h : Stood R n ws ss used q g l r) → Fine R n h.home (store ws ss used)
fine_of R n ws ss used q g l r h = h.running.fine (h.running.some (omega arith))

module _ (R n : ℕ) (ws ss : List ℕ) (used : ℕ) (q : List ℕ) (g : Ring) (l r : ℕ) (h : Stood R n ws ss used q g l r) where
  fine : Fine R n h.home (store ws ss used)
  fine = fine_of R n ws ss used q g l r h

  left : Sub ws h.home 0 used l
  left = h.running.sides.0.left

  right : Sub ws h.home 0 used r
  right = h.running.sides.0.right

  pub stood_terms : Terms ws l r
  stood_terms =
      record { inside_left = term_read R n h.home ws ss used 0 l fine left; inside_right = term_read R n h.home ws ss used 0 r fine right; left = left.term; right = right.term }

  module _ (k : Meeting) (m : MeetsAs ws l r k) where
    abbrev Met : List ℕ → List ℕ → List ℕ → Answer → Type 0
    Met ws₁ ss₁ q₁ x = Steps g.cap (meet R g.cap (view q g) l r) ws ss used q ws₁ ss₁ q₁ x

    meets_so : (k₁ : Meeting) → k ≡ k₁ → meet R g.cap (view q g) l r (store ws ss used) ≡ meet_as k₁ R g.cap (view q g) l r (store ws ss used)
    meets_so k₁ e = m.run R g.cap (view q g) ss used ∙ ap (λ (j : Meeting). meet_as j R g.cap (view q g) l r (store ws ss used)) e

    known : (k₁ : Meeting) → k ≡ k₁ → FactOf ws l r k₁
    known k₁ e = rw e at m.fact

    -- 2
    pub met_bodies : (p : Pair) → k ≡ Bodies p → Met ws ss q (Ok (On p used))
    met_bodies p e = record { said = meets_so (Bodies p) e; rings = on_rings g.cap q p used }

    -- 3
    pub stood_argues : (p : Pair) → k ≡ Arguments p → Joining ws q g p.left p.right
    unfolding arguments
    stood_argues p e =
        let f : FactOf ws l r (Arguments p) = known (Arguments p) e in
        let z = f.2 in
        let lo = f.0 in
        rw (f.4, f.5)
        (record {
          both = record {
            left = (counts_of R n h.home ws ss used 0 l fine left f.0).list;
            right = (counts_of R n h.home ws ss used 0 r fine right (omega arith)).list;
            same = same_arguments h.known f.3 f.0 f.1 f.2;
          };
          fine = h.ring;
        })

    met-argues : (p : Pair) (q₁ : List ℕ) (x : Answer) → k ≡ Arguments p → Argues q g (pairs_of ws p.left p.right) used q₁ x → Met ws ss q₁ x
    met-argues p q₁ x e a = record { said = meets_so (Arguments p) e ∙ a.said ws ss; rings = a.rings }

    module _ (p : Pair) (q₁ : List ℕ) (y : Result Ring Failure) (e : k ≡ Arguments p) (j : Queued q g (pairs_of ws p.left p.right) q₁ y) where
      pub met_full : (f : Failure) → y ≡ Err f → Met ws ss q₁ (Err f)
      met_full f z = met-argues p q₁ (Err f) e (argues_full q g (pairs_of ws p.left p.right) used q₁ y j f z)

      pub met_joins : (g₁ : Ring) → y ≡ Ok g₁ → Met ws ss q₁ (Ok (Done g₁ used))
      met_joins g₁ z = met-argues p q₁ (Ok (Done g₁ used)) e (argues_joins q g (pairs_of ws p.left p.right) used q₁ y j g₁ z)

    -- 4
    pub stood_same : k ≡ SameHole → SameReady R n ws ss used l r
    unfolding variables arguments
    stood_same e =
        let f : FactOf ws l r SameHole = known SameHole e in
        record {
          home = h.home;
          fine = fine;
          left = left;
          right = right;
          nine_left = f.0;
          nine_right = f.1;
          many = simp length-map at (same_holes h.known f.2 f.0 f.1);
          arity = sym (simp length-map at (known-arity (side_walks (known-left h.known)) f.0));
        }

    module _ (ws₁ ss₁ : List ℕ) (y : Result ℕ Failure) (e : k ≡ SameHole) (d : SameDone R l r ws ss used ws₁ ss₁ y) where
      pub met_lost : (f : Failure) → y ≡ Err f → Met ws₁ ss₁ q (Err f)
      met_lost f z = record { said = meets_so SameHole e ∙ rw (d.said (view q g), z); rings = failed_rings g.cap q q f }

      pub met_same : (u : ℕ) → y ≡ Ok u → Met ws₁ ss₁ q (Ok (Done g u))
      met_same u z = record { said = meets_so SameHole e ∙ rw (d.said (view q g), z); rings = done_rings g.cap q q g u h.ring refl }

    -- 5
    pub stood_solve : (a b : ℕ) → k ≡ Solve a b → Assigning R n ws ss used a b
    stood_solve a b e = let f : FactOf ws l r (Solve a b) = known (Solve a b) e in go f.0 f.1
      where
        go : tag ws a ≡ HA → Sides l r a b → Assigning R n ws ss used a b
        go t (in_order p o) =
            rw (p, o) (record { home = h.home; fine = fine; left = left; occ = rw p at t; right = right; scope = _; known = side_walks (known_right h.known) })
        go t (turned p o) =
            rw (p, o) (record { home = h.home; fine = fine; left = right; occ = rw p at t; right = left; scope = _; known = side_walks (known-left h.known) })

    module _ (a b : ℕ) (ws₁ ss₁ : List ℕ) (y : Written_answer) (e : k ≡ Solve a b) (d : Does² n (assign R a b) ws ss used ws₁ ss₁ y) where
      pub met_unsolved : (f : Failure) → y ≡ Err f → Met ws₁ ss₁ q (Err f)
      unfolding ◌>>=◌
      met_unsolved f z = record { said = meets_so (Solve a b) e ∙ rw (d.run, z); rings = failed_rings g.cap q q f }

      pub met_solve : (w : Written) → y ≡ Ok w → Met ws₁ ss₁ q (Ok (Done g w.used))
      unfolding ◌>>=◌
      met_solve w z = record { said = meets_so (Solve a b) e ∙ rw (d.run, z); rings = done_rings g.cap q q g w.used h.ring refl }

    pub met_clash : k ≡ Clash → Met ws ss q (Err Clashes)
    unfolding fail
    met_clash e = record { said = meets_so Clash e; rings = failed_rings g.cap q q Clashes }
