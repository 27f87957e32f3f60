-- Pairs of records that wait, read as pairs of trees, and what one step of the machine comes to: moves of the trees, or a pair that fails.
use Rattle.std.specs.Prelude.{ℕ, ◌≡◌, refl, List, [], ◌∷◌, ◌++◌, length}
use Rattle.std.proofs.Math.Option.{Option}
use Rattle.std.proofs.Common.{arith}
use Rattle.rules.specs.declared.Failure.{Failure}
use Rattle.rules.specs.declared.Failure.TheVariants.{Clash, Escape, Occurs, QueueFull, TableFull}
use Rattle.rules.specs.Store.{Store, Out, goes}
use Rattle.rules.specs.Machine.{Pair, Next, zip, upcoming}
use Rattle.trees.specs.Tree.{Ty, Tree, Sig, args, HasTy, t_nil, t_cons, Pairs}
use Rattle.trees.specs.Moves.{Solutions, Good, Spreads, spread_nil, spread_cons, Move, Run, Fails, NoneFrozen, run_step, run_done}
use Rattle.trees.proofs.Leads.{run-leads, run_trans}
use Rattle.promise.specs.Reading.{one, many, Reads, r_nil, r_cons, reads_later}
use Rattle.promise.specs.Outcomes.{Ends, ended, OnlyFull}
use Rattle.promise.specs.State.{Later, Holds}

-- the waiting pairs of records read as pairs of trees
pub data PairsRead (ws : List ℕ) (n : ℕ) : List Pair → Pairs → Type 0 where
  p_nil : PairsRead ws n [] []
  p_cons : {p : Pair} {c : Tree × Tree} {q : List Pair} {ps : Pairs} → Reads ws n (one p.0) c.0 → Reads ws n (one p.1) c.1 → PairsRead ws n q ps
      → PairsRead ws n (p ∷ q) (c ∷ ps)

pub pairs_later : {s s₁ : Store} {q : List Pair} {ps : Pairs} → Later s s₁ → PairsRead s.words s.used q ps → PairsRead s₁.words s₁.used q ps
pairs_later l p_nil = p_nil
pairs_later l (p_cons a b r) = p_cons (reads_later l.same l.grown a) (reads_later l.same l.grown b) (pairs_later l r)

pub pairs-append : {ws : List ℕ} {n : ℕ} {q r : List Pair} {ps qs : Pairs} → PairsRead ws n q ps → PairsRead ws n r qs → PairsRead ws n (q ++ r) (ps ++ qs)
pairs-append p_nil d = d
pairs-append (p_cons a b r) d = p_cons a b (pairs-append r d)

-- two argument lists of one type, as pairs
pub spread : {S : ℕ → Option Ty} {D : Sig} {G : List Ty} {A : Ty} {b c : ℕ} {x y : Tree} {ws : List ℕ} {n : ℕ} {xs ys : List ℕ} → HasTy S D G x (args A b)
    → HasTy S D G y (args A c) → Reads ws n (many xs) x → Reads ws n (many ys) y → (qs : Pairs) × Spreads x y qs × PairsRead ws n (zip xs ys) qs
unfolding zip
spread t_nil t_nil r_nil r_nil = ([], spread_nil, p_nil)
spread (t_cons d e) (t_cons f g) (r_cons {t = t} p q) (r_cons {t = u} r s) =
    let z = spread e g q s in ((t, u) ∷ z.0, spread_cons z.1, p_cons p r z.2)

-- they have equally many arguments
pub equally_many : {S : ℕ → Option Ty} {D : Sig} {G : List Ty} {A : Ty} {b c : ℕ} {x y : Tree} {ws : List ℕ} {n : ℕ} {xs ys : List ℕ} → HasTy S D G x (args A b)
    → HasTy S D G y (args A c) → Reads ws n (many xs) x → Reads ws n (many ys) y → length xs ≡ length ys
equally_many t_nil t_nil r_nil r_nil = refl
equally_many (t_cons d e) (t_cons f g) (r_cons p q) (r_cons r s) = let z = equally_many e g q s in omega arith

module _ (S : ℕ → Option Ty) where
  -- runs of moves of the trees, nothing frozen
  abbrev pub Runs : Sig → Solutions → Pairs → Sig → Solutions → Pairs → Type 0
  Runs D σ ps E τ qs = Run S NoneFrozen D σ ps E τ qs

  pub move : {D : Sig} {σ : Solutions} {ps : Pairs} {E : Sig} {τ : Solutions} {qs : Pairs} → Move S NoneFrozen D σ ps E τ qs → Runs D σ ps E τ qs
  move m = run_step m run_done

  pub then : {D E H : Sig} {σ τ υ : Solutions} {ps qs rs : Pairs} → Runs D σ ps E τ qs → Runs E τ qs H υ rs → Runs D σ ps H υ rs
  then m n = run_trans S NoneFrozen m n

  -- a run keeps the state typed and its solutions in order
  pub run_good : {D : Sig} {σ : Solutions} {ps : Pairs} {E : Sig} {τ : Solutions} {qs : Pairs} → Good S D σ ps → Runs D σ ps E τ qs → Good S E τ qs
  run_good g m = (run-leads S NoneFrozen g m).good

  -- a run to a state whose first pair fails
  pub record RunFails (D : Sig) (σ : Solutions) (ps : Pairs) : Type 0 where
    pub sig : Sig
    pub sols : Solutions
    pub pairs : Pairs
    pub run : Runs D σ ps sig sols pairs
    pub fails : Fails NoneFrozen sig sols pairs

  -- by clash, escape or occurs a pair fails; a full queue or table says nothing
  abbrev pub FailsBy : Sig → Solutions → Pairs → Failure → Type 0
  FailsBy D σ ps Clash = RunFails D σ ps
  FailsBy D σ ps Escape = RunFails D σ ps
  FailsBy D σ ps Occurs = RunFails D σ ps
  FailsBy D σ ps QueueFull = Unit {0}
  FailsBy D σ ps TableFull = Unit {0}

  pub fails-here : {D : Sig} {σ : Solutions} {ps : Pairs} → Fails NoneFrozen D σ ps → RunFails D σ ps
  fails-here {D} {σ} {ps} x = record { sig = D; sols = σ; pairs = ps; run = run_done; fails = x }

  pub fails_full : (D : Sig) (σ : Solutions) (ps : Pairs) (e : Failure) → OnlyFull e → FailsBy D σ ps e
  fails_full D σ ps Clash x = absurd x
  fails_full D σ ps Escape x = absurd x
  fails_full D σ ps Occurs x = absurd x
  fails_full D σ ps QueueFull x = tt
  fails_full D σ ps TableFull x = tt

  fails_later : {D E : Sig} {σ τ : Solutions} {ps qs : Pairs} → Runs D σ ps E τ qs → RunFails E τ qs → RunFails D σ ps
  fails_later m x = record { sig = x.sig; sols = x.sols; pairs = x.pairs; run = then m x.run; fails = x.fails }

  pub fails_after : {D E : Sig} {σ τ : Solutions} {ps qs : Pairs} → Runs D σ ps E τ qs → (e : Failure) → FailsBy E τ qs e → FailsBy D σ ps e
  fails_after m Clash x = fails_later m x
  fails_after m Escape x = fails_later m x
  fails_after m Occurs x = fails_later m x
  fails_after m QueueFull x = tt
  fails_after m TableFull x = tt

  -- a step was made: what waits next reads as what the moves lead to
  pub record Stepped (R : ℕ) (D : Sig) (σ : Solutions) (ps : Pairs) (q : List Pair) (s s₁ : Store) (next : Next) : Type 0 where
    pub sig : Sig
    pub sols : Solutions
    pub pairs : Pairs
    pub run : Runs D σ ps sig sols pairs
    pub holds : Holds R s₁ sig sols
    pub reads : PairsRead s₁.words s₁.used (upcoming q next) pairs

  abbrev pub Steps : ℕ → Sig → Solutions → Pairs → List Pair → Store → Out Next → Type 0
  Steps R D σ ps q s o = Ends (Stepped R D σ ps q s) (FailsBy D σ ps) o

  -- moves that write nothing
  pub quiet : {R : ℕ} (D : Sig) (σ : Solutions) (ps qs : Pairs) (q : List Pair) (s : Store) (next : Next) → Holds R s D σ → Runs D σ ps D σ qs
      → PairsRead s.words s.used (upcoming q next) qs → Steps R D σ ps q s (goes s next)
  quiet D σ ps qs q s next i m r = ended (record { sig = D; sols = σ; pairs = qs; run = m; holds = i; reads = r })
