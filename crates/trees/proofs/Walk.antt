-- The walk, as a derivation, is a run of narrowings and a solving; a walk that fails leaves no filling.
use Rattle.std.specs.Prelude.{◌≡◌, refl, List, ◌∷◌, ◌≢◌, ℕ, suc, ◌<◌, length}
use Rattle.std.proofs.Common.{sym, ◌∙◌, ap, arith}
use Rattle.std.proofs.Math.Option.{Option, none, some, none-ne-some}
use Rattle.trees.specs.Tree.{Ty, Tree, hol, Holes, Sig, Pairs}
use Rattle.trees.specs.Moves.{Solutions, Climbs, Stamped, Good, Grows, Adds, Run, run_done, run_step, Inverts, Walk, w_lam, w_con, w_var, w_nil, w_cons, w_solved, w_kept, w_narrowed, Lost, l_escape, l_occurs, l_frozen, l_lam, l_con, l_var, l_first, l_rest, l_solved, Fails, fails_clash, fails-walk, FrozenIn}
use Rattle.trees.specs.Statements.{WalkSolves}
use Rattle.trees.specs.Filling.{Holes-map}
use Rattle.trees.specs.Typing.{Declared, typed-holes}
use Rattle.trees.specs.Update.{update, adds_other}
use Rattle.trees.specs.Order.{climbs_adds, SolIn, unsolved_before, climbs_more, Later, later_refl, later_trans}
use Rattle.trees.proofs.Order.{later_narrow}
use Rattle.trees.proofs.Leads.{declared_once, sol_in, run-leads, run_trans}
use Rattle.trees.proofs.Read.{Owes, owes_start, owes_later, owes_lam, owes_con, owes_var, owes_first, owes_rest, owes_solved, Reads, reads_later, reads_lam, reads_con, reads_var, reads_nil, reads_cons, reads_kept, reads_solved, reads_narrowed, reads_solves}
use Rattle.trees.proofs.Stuck.{Stuck, stuck_before, stuck_clash, stuck_escape, stuck_occurs, stuck_frozen}

pub declared_later : (D E : Sig) → Grows D E → (t : Tree) → Holes (Declared D) t → Holes (Declared E) t
declared_later D E g t h = Holes-map (λ i _ d. (d.0, d.1, g i (d.0, d.1) d.2, d.3, d.4)) t h

module _ (Frozen : ℕ → Type 0) (u : ℕ) where
  -- what the walk writes was unsolved before it
  walk_later : {D E : Sig} {σ τ : Solutions} {p : ℕ → Option ℕ} {t s : Tree} → Walk Frozen u D σ p t E τ s → (lo : ℕ → ℕ) (m : ℕ) → SolIn D σ
      → Climbs lo m σ → (c : List Ty × ℕ) → D u ≡ some c → Later u D σ lo m E τ × Holes (λ g _. (σ g ≡ none) × (g ≢ u)) s
  walk_later (w_lam x) lo m i l c e = walk_later x lo m i l c e
  walk_later (w_con x) lo m i l c e = walk_later x lo m i l c e
  walk_later (w_var q x) lo m i l c e = walk_later x lo m i l c e
  walk_later {D} {σ = σ} w_nil lo m i l c e = (later_refl u D σ lo m i l, tt)
  walk_later {D} {E = H} {σ} {τ = υ} (w_cons {E = E} {τ = τ} {b = b} x y) lo m i l c e =
      let a = walk_later x lo m i l c e in
      let k = a.0 in
      let z = walk_later y k.stamp k.top k.inside k.climbs c (k.declares u c e) in
      (later_trans u D E H σ τ υ lo m k z.0, (a.1, Holes-map (λ g _ n. (unsolved_before σ τ k.solves g n.0, n.1)) b z.1))
  walk_later (w_solved q a x) lo m i l c e = walk_later x lo m i l c e
  walk_later {D} {σ = σ} (w_kept n d q) lo m i l c e = (later_refl u D σ lo m i l, (n, d))
  walk_later {D} {E} {σ} {τ} (w_narrowed {v = v} {w = w} {K = K} {C = C} {B = B} {b = b} _ n q k vs dk z ae aσ) lo m i l c e =
      let other : w ≢ u = λ x. none-ne-some c (sym ae.before ∙ ap D x ∙ e) in
      (later_narrow u D E σ τ lo m v w K (C, b) (B, b) i l q other ae aσ, (fresh (σ w) refl, other))
    where
      fresh : (o : Option Tree) → σ w ≡ o → σ w ≡ none
      fresh none x = x
      fresh (some t) x = let y = i w t x in absurd (none-ne-some y.0 (sym ae.before ∙ y.1))

  -- the walk does not solve u
  pub walk_spares : {D E : Sig} {σ τ : Solutions} {p : ℕ → Option ℕ} {t s : Tree} → Walk Frozen u D σ p t E τ s → σ u ≡ none → τ u ≡ none
  walk_spares (w_lam x) n = walk_spares x n
  walk_spares (w_con x) n = walk_spares x n
  walk_spares (w_var e x) n = walk_spares x n
  walk_spares w_nil n = n
  walk_spares (w_cons x y) n = walk_spares y (walk_spares x n)
  walk_spares (w_solved e a x) n = walk_spares x n
  walk_spares (w_kept i d e) n = n
  walk_spares {σ = σ} {τ} (w_narrowed {v = v} {w = w} {K = K} z d e c vs dk m ae aσ) n = adds_other σ v (hol w K) τ aσ u (λ x. d (sym x)) n

  stamped_walk : (D E : Sig) (σ τ υ : Solutions) (p : ℕ → Option ℕ) (t s : Tree) (c : List Ty × ℕ) → SolIn D σ → D u ≡ some c → Stamped σ
      → Walk Frozen u D σ p t E τ s → Adds τ u s υ → Stamped υ
  stamped_walk D E σ τ υ p t s c i e (lo, m, l) x a =
      let y = walk_later x lo (suc m) i (climbs_more lo m (suc m) σ (omega arith) l) c e in
      let k = y.0 in (
        update k.stamp u (suc m),
        k.top,
        climbs_adds k.stamp k.top τ u (suc m) s υ k.climbs a (omega (arith, k.up))
            (Holes-map (λ g _ n. (n.1, λ r q. (k.new g r q n.0).0)) s y.1)
            (λ h r q. before k h r q (σ h) refl),
      )
    where
      before : (k : Later u D σ lo (suc m) E τ) (h : ℕ) (r : Tree) → τ h ≡ some r → (o : Option Tree) → σ h ≡ o
          → Holes (λ g _. g ≡ u → k.stamp h < suc m) r
      before k h r q none z = Holes-map (λ g _ n w. absurd (n w)) r (k.new h r q z).1
      before k h r q (some b) z = let w = (l h b z).0 in Holes-map (λ g _ _ _. omega (arith, k.old h b z)) r (k.climbs h r q).1

module _ (S : ℕ → Option Ty) (Frozen : ℕ → Type 0) (u : ℕ) where
  walk-run : {D E : Sig} {σ τ : Solutions} {p : ℕ → Option ℕ} {t s : Tree} → Walk Frozen u D σ p t E τ s → (ps : Pairs) (k : ℕ) → Good S D σ ps
      → Holes (Declared D) t → Owes S D σ ps u k p t → Run S Frozen D σ ps E τ ps × Reads S E τ p t s
  walk-run {D} {E} {σ} {τ} {p} (w_lam {t = t} {s = s} x) ps k g d o =
      let y = walk-run x ps 1 g d (owes_lam S D σ ps u k p t o) in (y.0, reads_lam S E τ p t s y.1)
  walk-run {D} {E} {σ} {τ} {p} (w_con {c = c} {a = a} {b = b} x) ps k g d o =
      let y = walk-run x ps 1 g d (owes_con S D σ ps u k p c a o) in (y.0, reads_con S E τ p c a b y.1)
  walk-run {D} {E} {σ} {τ} {p} (w_var {v = v} {w = w} {a = a} {b = b} e x) ps k g d o =
      let y = walk-run x ps 1 g d (owes_var S D σ ps u k p v a o) in (y.0, reads_var S E τ p v w a b e y.1)
  walk-run {D} {E} {σ} {τ} {p} w_nil ps k g d o = (run_done, reads_nil S D σ p)
  walk-run {D} {E = H} {σ} {τ = υ} {p} (w_cons {E = E} {τ = τ} {t = t} {s = s} {a = a} {b = b} x z) ps k g d o =
      let y = walk-run x ps 1 g d.0 (owes_first S D σ ps u k p t a o) in
      let m = run-leads S Frozen g y.0 in
      let v = walk-run z ps 1 m.good (declared_later D E m.declares a d.1) (owes_later S m u 1 p a (owes_rest S D σ ps u k p t a o)) in
      let n = run-leads S Frozen m.good v.0 in
      (run_trans S Frozen y.0 v.0, reads_cons S H υ p t a s b (reads_later S E τ H υ p t s n.declares n.solves y.1) v.1)
  walk-run {D} {E} {σ} {τ} {p} (w_solved {q = q} {v = v} {ys = ys} {s = s} {r = r} e a x) ps k g d o =
      let y = walk-run x ps k g (typed-holes S D (g.0 v s e).3) (owes_solved S D σ ps u k p q v ys s d e a o) in
      let m = run-leads S Frozen g y.0 in
      (y.0, reads_solved S E τ p q v ys s r m.good.0 (declared_later D E m.declares (hol v ys) d) (m.solves v s e) a y.1)
  walk-run {D} {E} {σ} {τ} {p} (w_kept {v = v} {ys = ys} {zs = zs} n i e) ps k g d o = (run_done, reads_kept S D σ p v ys zs d e)
  walk-run {D} {E} {σ} {τ} {p} (w_narrowed {v = v} {w = w} {ys = ys} {K = K} {zs = zs} {C = C} {B = B} {b = b} z i e c vs dk m ae aσ) ps k g d o =
      let n = declared_once (sym d.2 ∙ e) in
      let y = reads_narrowed S Frozen D σ ps u k p v w ys K zs C B b E τ g o z e (d.3 ∙ ap length n.0) d.4 c vs dk m ae aσ in
      (run_step y.0 run_done, y.1)

  -- what the walk of the other side of the pair U xs = t begins with
  starts : (D : Sig) (σ : Solutions) (ps : Pairs) (xs : List ℕ) (p : ℕ → Option ℕ) (t : Tree) → Good S D σ ((hol u xs, t) ∷ ps) → Inverts p xs
      → Holes (Declared D) t × Owes S D σ ((hol u xs, t) ∷ ps) u 0 p t
  starts D σ ps xs p t g i = (typed-holes S D g.1.0.3, owes_start S D σ ps u xs p t (typed-holes S D g.1.0.2) i)

  -- A WALK THAT FAILS leaves no filling
  lost_stuck : {k : ℕ} {D : Sig} {σ : Solutions} {p : ℕ → Option ℕ} {t : Tree} → Lost Frozen u k D σ p t → (ps : Pairs) → FrozenIn Frozen D
      → Good S D σ ps → Holes (Declared D) t → Owes S D σ ps u k p t → Stuck S Frozen D σ ps
  lost_stuck {k} {D} {σ} {p} (l_escape {v = v} {a = a} e) ps z g d o = stuck_escape S Frozen D σ ps u k p v a o e
  lost_stuck {D = D} {σ} {p} (l_occurs {k} {xs = xs}) ps z g d o = stuck_occurs S Frozen D σ ps u k p xs o
  lost_stuck {k} {D} {σ} {p} (l_frozen {v = v} {ys = ys} j f l e) ps z g d o = stuck_frozen S Frozen D σ ps u k p v ys j o d f l e
  lost_stuck {k} {D} {σ} {p} (l_lam {t = t} x) ps z g d o = lost_stuck x ps z g d (owes_lam S D σ ps u k p t o)
  lost_stuck {k} {D} {σ} {p} (l_con {c = c} {a = a} x) ps z g d o = lost_stuck x ps z g d (owes_con S D σ ps u k p c a o)
  lost_stuck {k} {D} {σ} {p} (l_var {v = v} {a = a} x) ps z g d o = lost_stuck x ps z g d (owes_var S D σ ps u k p v a o)
  lost_stuck {k} {D} {σ} {p} (l_first {t = t} {a = a} x) ps z g d o = lost_stuck x ps z g d.0 (owes_first S D σ ps u k p t a o)
  lost_stuck {k} {D} {σ} {p} (l_rest {E = E} {t = t} {a = a} y x) ps z g d o =
      let m = run-leads S Frozen g (walk-run y ps 1 g d.0 (owes_first S D σ ps u k p t a o)).0 in
      stuck_before S Frozen z m
      (lost_stuck x ps (λ h f. let c = z h f in (c.0, m.declares h c.0 c.1)) m.good (declared_later D E m.declares a d.1)
      (owes_later S m u 1 p a (owes_rest S D σ ps u k p t a o)))
  lost_stuck {k} {D} {σ} {p} (l_solved {q = q} {v = v} {ys = ys} {s = s} e a x) ps z g d o =
      lost_stuck x ps z g (typed-holes S D (g.0 v s e).3) (owes_solved S D σ ps u k p q v ys s d e a o)

module _ (S : ℕ → Option Ty) (Frozen : ℕ → Type 0) where
  -- THE WALK SOLVES
  pub walk_solves : WalkSolves S Frozen
  walk_solves u D σ ps xs p t s E τ g i x =
      let b = starts S Frozen u D σ ps xs p t g i in
      let y = walk-run S Frozen u x ((hol u xs, t) ∷ ps) 0 g b.0 b.1 in
      let c = typed-holes S D g.1.0.2 in (
        y.0,
        y.1.equal,
        λ υ z a.
            reads_solves S Frozen E τ ps u xs p t s υ (run-leads S Frozen g y.0).good i y.1 z a
            (stamped_walk Frozen u D E σ τ υ p t s (c.0, c.1) (sol_in S D σ g.0) c.2 g.2 x a),
      )

  pub solve_by_walk : (u : ℕ) (D E : Sig) (σ τ υ : Solutions) (ps : Pairs) (xs : List ℕ) (p : ℕ → Option ℕ) (t s : Tree)
      → Good S D σ ((hol u xs, t) ∷ ps) → (Frozen u → ⊥) → Inverts p xs → Walk Frozen u D σ p t E τ s → Adds τ u s υ
      → Run S Frozen D σ ((hol u xs, t) ∷ ps) E υ ps
  solve_by_walk u D E σ τ υ ps xs p t s g z i x a =
      let y = walk_solves u D σ ps xs p t s E τ g i x in run_trans S Frozen y.0 (run_step (y.2 υ z a) run_done)

  -- A STATE THAT FAILS is stuck
  pub fails_stuck : {D : Sig} {σ : Solutions} {ps : Pairs} → FrozenIn Frozen D → Good S D σ ps → Fails Frozen D σ ps → Stuck S Frozen D σ ps
  fails_stuck {D} {σ} z g (fails_clash {a} {b} {ps} x y n) = stuck_clash S Frozen D σ ps a b g x y n
  fails_stuck {D} {σ} z g (fails-walk {u} {xs} {p} {t} {ps} i x) =
      let b = starts S Frozen u D σ ps xs p t g i in lost_stuck S Frozen u x ((hol u xs, t) ∷ ps) z g b.0 b.1
