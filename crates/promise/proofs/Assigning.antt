-- Steps 4 and 5: narrowing the same hole and solving a hole by the walk of the other side are moves of the trees.
use Prim.Native.Nat.{ℕ, ◌<◌}
use Rattle.std.specs.Prelude.{◌≡◌, Bool, true, false, length, eqb}
use Rattle.std.proofs.Math.Path.{refl}
use Rattle.std.proofs.Common.{sym, ap, ap₂, ◌∙◌, arith, eqb-true}
use mathlib.Core.List.{List, ◌∷◌}
use Rattle.std.proofs.Math.Option.{Option, none, some}
use Rattle.rules.specs.declared.Failure.{Failure}
use Rattle.rules.specs.declared.Failure.TheVariants.{Clash, Escape, Occurs, QueueFull, TableFull}
use Rattle.rules.specs.Lists.{enough}
use Rattle.rules.specs.Words.{field_a, variables}
use Rattle.rules.specs.Store.{Store, Out, goes, ◌>>=◌, settle}
use Rattle.rules.specs.Map.{to_positions}
use Rattle.rules.specs.Walk.{assign}
use Rattle.rules.specs.Machine.{Pair, done, agreeing, same_hole, upcoming}
use Rattle.trees.specs.Tree.{Ty, Tree, hol, inst, AllL, Sig, Pairs}
use Rattle.trees.specs.Moves.{Solutions, Good, Adds, Inverts, fails-walk, NoneFrozen, move_drop, move_swap}
use Rattle.trees.specs.Free.{AllL-map}
use Rattle.trees.specs.Typing.{Declared, typed-holes}
use Rattle.trees.specs.Places.{part, vars_part}
use Rattle.trees.specs.Update.{update, adds_update}
use Rattle.trees.proofs.Leads.{run_same, declared_once}
use Rattle.trees.proofs.Walk.{solve_by_walk, walk_spares}
use Rattle.promise.specs.Reading.{one, Reads}
use Rattle.promise.specs.Outcomes.{Ends, ended, bind_ends, map_ends}
use Rattle.promise.specs.Maps.{place, place_inverts}
use Rattle.promise.specs.State.{Later, Holds, holds-settle}
use Rattle.promise.specs.Narrowing.{Narrowed, narrow_ends}
use Rattle.promise.specs.Walked.{Walked, LostBy, Starts}
use Rattle.promise.proofs.Walking.{walk_ends}
use Rattle.promise.specs.Agreeing.{agreeing-below, agreeing-distinct, agreeing-all, agreeing_covers, agreeing_full}
use Rattle.promise.specs.Waiting.{PairsRead, pairs_later, Runs, move, then, run_good, FailsBy, fails-here, fails_full, fails_after, Stepped, Steps, quiet}

module _ (S : ℕ → Option Ty) (R : ℕ) where
  fails_lost : (u : ℕ) (D : Sig) (σ : Solutions) (ps : Pairs) (xs : List ℕ) (p : ℕ → Option ℕ) (t : Tree) → Inverts p xs → (e : Failure) → LostBy u 0 D σ p t e
      → FailsBy S D σ ((hol u xs, t) ∷ ps) e
  fails_lost u D σ ps xs p t i Clash x = absurd x
  fails_lost u D σ ps xs p t i Escape x = fails-here S (fails-walk i x)
  fails_lost u D σ ps xs p t i Occurs x = fails-here S (fails-walk i x)
  fails_lost u D σ ps xs p t i QueueFull x = tt
  fails_lost u D σ ps xs p t i TableFull x = tt

  -- STEP 5: the first of the pairs ps was solved
  pub record Assigned (D : Sig) (σ : Solutions) (ps qs : Pairs) (s s₁ : Store) (t : ℕ) : Type 0 where
    pub sig : Sig
    pub sols : Solutions
    pub run : Runs S D σ ps sig sols qs
    pub holds : Holds R s₁ sig sols
    pub later : Later s s₁

  -- the hole u at l, applied to xs, is solved by the other side
  pub assign_ends : (D : Sig) (σ : Solutions) (ps : Pairs) (u : ℕ) (xs : List ℕ) (t : Tree) (l r : ℕ) (s : Store) → Holds R s D σ → Good S D σ ((hol u xs, t) ∷ ps)
      → field_a s.words l ≡ u → variables s.words l ≡ xs → Reads s.words s.used (one r) t → σ u ≡ none → Starts u 0 σ t
      → Ends (Assigned D σ ((hol u xs, t) ∷ ps) ps s) (FailsBy S D σ ((hol u xs, t) ∷ ps)) (assign R l r s)
  unfolding assign settle
  assign_ends D σ ps u xs t l r s i g x y q n z =
      rw (x, y)
      (bind_ends _ (walk_ends R u enough 0 (to_positions 0 xs) 0 r s D σ t i q (typed-holes S D g.1.0.3) z)
      (fails_lost u D σ ps xs p t inv) λ s₁ r₁ w. ended (solved' s₁ r₁ w))
    where
      here : Declared D u xs
      here = typed-holes S D g.1.0.2

      p : ℕ → Option ℕ
      p = place (to_positions 0 xs) 0

      inv : Inverts p xs
      inv = place_inverts xs here.4

      solved' : (s₁ : Store) (r₁ : ℕ) → Walked R u D σ p t s s₁ r₁ → Assigned D σ ((hol u xs, t) ∷ ps) ps s (settle u r₁ s₁) r₁
      solved' s₁ r₁ w =
          let a : Adds w.sols u w.tree (update w.sols u (some w.tree)) = adds_update w.sols u w.tree (walk_spares NoneFrozen u w.walk n) in
          let m = solve_by_walk S NoneFrozen u D w.sig σ w.sols (update w.sols u (some w.tree)) ps xs p t w.tree g (λ e. e) inv w.walk a in
          let k = (i.declared u here.0 here.1 here.2).low in
          let v = (run_good S g m).0 u w.tree a.new in
          record {
            sig = w.sig;
            sols = update w.sols u (some w.tree);
            run = m;
            holds = holds-settle w.holds (omega (arith, w.later.grown)) w.reads (typed-holes S w.sig v.3) a;
            later = record { same = w.later.same; grown = w.later.grown };
          }

  pub then_done : (D : Sig) (σ : Solutions) (ps qs : Pairs) (q : List Pair) (s : Store) (o : Out ℕ) → PairsRead s.words s.used q qs
      → Ends (Assigned D σ ps qs s) (FailsBy S D σ ps) o → Steps S R D σ ps q s (o >>= λ (s₁, t). goes s₁ (done q))
  unfolding upcoming
  then_done D σ ps qs q s o r h = bind_ends _ h (λ _ x. x) λ s₁ t a. ended (record {
    sig = a.sig;
    sols = a.sols;
    pairs = qs;
    run = a.run;
    holds = a.holds;
    reads = pairs_later a.later r;
  })

  -- the other way round
  pub swapped : (D : Sig) (σ : Solutions) (a b : Tree) (ps qs : Pairs) (s : Store) (o : Out ℕ) → Good S D σ ((a, b) ∷ ps)
      → (Good S D σ ((b, a) ∷ ps) → Ends (Assigned D σ ((b, a) ∷ ps) qs s) (FailsBy S D σ ((b, a) ∷ ps)) o)
      → Ends (Assigned D σ ((a, b) ∷ ps) qs s) (FailsBy S D σ ((a, b) ∷ ps)) o
  swapped D σ a b ps qs s o g h =
      let m : Runs S D σ ((a, b) ∷ ps) D σ ((b, a) ∷ ps) = move S move_swap in
      map_ends (fails_after S m)
      (λ s₁ t x. record { sig = x.sig; sols = x.sols; run = then S m x.run; holds = x.holds; later = x.later }) (h (run_good S g m))

  -- STEP 4: the same hole twice
  pub same_ends : (D : Sig) (σ : Solutions) (ps : Pairs) (q : List Pair) (v : ℕ) (xs ys : List ℕ) (l r : ℕ) (s : Store) → Holds R s D σ
      → Good S D σ ((hol v xs, hol v ys) ∷ ps) → field_a s.words l ≡ v → variables s.words l ≡ xs → variables s.words r ≡ ys → σ v ≡ none
      → PairsRead s.words s.used q ps → Steps S R D σ ((hol v xs, hol v ys) ∷ ps) q s (same_hole R q l r s)
  unfolding same_hole upcoming
  same_ends D σ ps q v xs ys l r s i g x y z n a = go (eqb (length K) (length xs)) refl
    where
      K : List ℕ
      K = agreeing 0 xs ys

      d : Declared D v xs
      d = typed-holes S D g.1.0.2

      e : Declared D v ys
      e = typed-holes S D g.1.0.3

      len : length xs ≡ length ys
      len = d.3 ∙ ap length (declared_once (sym d.2 ∙ e.2)).0 ∙ sym e.3

      below : AllL (λ k. k < length d.0) K
      below = AllL-map (λ k h. omega (arith, d.3)) K (agreeing-below xs ys)

      test : {b : Bool} → eqb (length K) (length xs) ≡ b → eqb (length (agreeing 0 (variables s.words l) (variables s.words r))) (length (variables s.words l)) ≡ b
      test t = ap₂ (λ us vs. eqb (length (agreeing 0 us vs)) (length us)) y z ∙ t

      narrowed : (s₁ : Store) (new : ℕ) → Narrowed R D σ v d.0 d.1 K s s₁ new → Stepped S R D σ ((hol v xs, hol v ys) ∷ ps) q s s₁ (done q)
      narrowed s₁ new w = record {
        sig = w.sig;
        sols = w.sols;
        pairs = ps;
        run = run_same S NoneFrozen D σ ps v new xs ys K d.0 (part d.0 K) d.1 w.sig w.sols g (λ j. j) d.2 (agreeing_covers xs ys len) (agreeing-all xs ys)
            (vars_part d.0 K below) (agreeing-distinct xs ys) w.declares w.solves;
        holds = w.holds;
        reads = pairs_later w.later a;
      }

      go : (b : Bool) → eqb (length K) (length xs) ≡ b → Steps S R D σ ((hol v xs, hol v ys) ∷ ps) q s (same_hole R q l r s)
      go true t =
          let k : hol v xs ≡ hol v ys = ap (hol v) (agreeing_full xs ys len (eqb-true _ _ t)) in
          rw (test t, same_hole) (quiet S D σ ((hol v xs, hol v ys) ∷ ps) ps q s (done q) i (move S (move_drop (λ X θ _ _. ap (inst θ) k))) a)
      go false t =
          rw (test t, same_hole, x, y, z)
          (bind_ends _ (narrow_ends R s D σ v d.0 d.1 K i d.2 n below (agreeing-distinct xs ys)) (fails_full S D σ ((hol v xs, hol v ys) ∷ ps)) λ s₁ new w.
          ended (narrowed s₁ new w))
