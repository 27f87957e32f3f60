-- The machine runs: along the run moves lead from the equations to what waits.
use Prim.Native.Nat.{ℕ, zero, suc}
use mathlib.Core.List.{List, [], ◌∷◌}
use Rattle.std.proofs.Math.Option.{Option}
use Rattle.rules.specs.Lists.{enough}
use Rattle.rules.specs.Store.{Store}
use Rattle.rules.specs.Machine.{Pair, upcoming, meet, step, run}
use Rattle.trees.specs.Tree.{Ty, Tree, Sig, Pairs}
use Rattle.trees.specs.Moves.{Solutions, Good, move_swap, run_done}
use Rattle.promise.specs.Reading.{one, Reads, reads_later}
use Rattle.promise.specs.Outcomes.{Ends, ended, bind_ends, map_ends, unsaid}
use Rattle.promise.specs.State.{grew_later, Holds, holds_appends}
use Rattle.promise.specs.Waiting.{PairsRead, p_nil, p_cons, pairs_later, Runs, move, then, run_good, FailsBy, fails_full, fails_after, Steps}
use Rattle.promise.proofs.Expanding.{Expanded, expand_ends}
use Rattle.promise.proofs.Meeting.{meet_ends}

module _ (S : ℕ → Option Ty) (R C : ℕ) where
  pub step_ends : (D : Sig) (σ : Solutions) (a b : Tree) (ps : Pairs) (q : List Pair) (l r : ℕ) (s : Store) → Holds R s D σ → Good S D σ ((a, b) ∷ ps)
      → Reads s.words s.used (one l) a → Reads s.words s.used (one r) b → PairsRead s.words s.used q ps
      → Steps S R D σ ((a, b) ∷ ps) q s (step R C q l r s)
  unfolding step
  step_ends D σ a b ps q l r s i g x y w =
      bind_ends _ (expand_ends S R D σ enough a b ps l s i g x) (fails_full S D σ ((a, b) ∷ ps)) λ s₁ l₁ e.
      bind_ends _
      (expand_ends S R D σ enough b e.tree ps r s₁ (holds_appends i e.appends) (swap_good e)
      (reads_later e.appends.grew.same e.appends.grew.grown y))
      (fails_full S D σ ((a, b) ∷ ps)) λ s₂ r₁ f. after s₁ l₁ e s₂ r₁ f
    where
      swap_good : {s₁ : Store} {l₁ : ℕ} (e : Expanded S R D σ a b ps s s₁ l₁) → Good S D σ ((b, e.tree) ∷ ps)
      swap_good e = run_good S g (then S e.run (move S move_swap))

      after : (s₁ : Store) (l₁ : ℕ) (e : Expanded S R D σ a b ps s s₁ l₁) (s₂ : Store) (r₁ : ℕ) → Expanded S R D σ b e.tree ps s₁ s₂ r₁
          → Steps S R D σ ((a, b) ∷ ps) q s (meet R C q l₁ r₁ s₂)
      after s₁ l₁ e s₂ r₁ f =
          let m : Runs S D σ ((a, b) ∷ ps) D σ ((e.tree, f.tree) ∷ ps) = then S e.run (then S (move S move_swap) (then S f.run (move S move_swap))) in
          let k₁ = grew_later e.appends.grew in
          let k₂ = grew_later f.appends.grew in
          map_ends (fails_after S m)
          (λ s₃ n d. record { sig = d.sig; sols = d.sols; pairs = d.pairs; run = then S m d.run; holds = d.holds; reads = d.reads })
          (meet_ends S R C D σ ps q l₁ r₁ s₂ (holds_appends (holds_appends i e.appends) f.appends) (pairs_later k₂ (pairs_later k₁ w)) e.tree f.tree
          (run_good S g m) (reads_later k₂.same k₂.grown e.reads) f.reads e.unsolved f.unsolved)

  -- the run came to an end: nothing waits
  pub record Solved (D : Sig) (σ : Solutions) (ps : Pairs) (s₁ : Store) (q : List Pair) : Type 0 where
    pub sig : Sig
    pub sols : Solutions
    pub run : Runs S D σ ps sig sols []
    pub holds : Holds R s₁ sig sols

  pub run_ends : (f : ℕ) (D : Sig) (σ : Solutions) (ps : Pairs) (q : List Pair) (s : Store) → Holds R s D σ → Good S D σ ps → PairsRead s.words s.used q ps
      → Ends (Solved D σ ps) (FailsBy S D σ ps) (run f R C q s)
  unfolding run
  run_ends zero D σ ps q s i g w = unsaid
  run_ends (suc f) D σ [] [] s i g p_nil = ended (record { sig = D; sols = σ; run = run_done; holds = i })
  run_ends (suc f) D σ [] (p ∷ q) s i g w = elim w [ ]
  run_ends (suc f) D σ (c ∷ ps) [] s i g w = elim w [ ]
  run_ends (suc f) D σ (c ∷ ps) (p ∷ q) s i g (p_cons x y w) =
      bind_ends _ (step_ends D σ c.0 c.1 ps q p.0 p.1 s i g x y w) (λ _ e. e) λ s₁ next d.
      map_ends (fails_after S d.run)
      (λ s₂ r k. record { sig = k.sig; sols = k.sols; run = then S d.run k.run; holds = k.holds })
      (run_ends f d.sig d.sols d.pairs (upcoming q next) s₁ d.holds (run_good S g d.run) d.reads)
