-- Each move, and so each run, leads on: it keeps exactly the unifiers.
use Rattle.std.specs.Prelude.{◌≡◌, refl, List, ◌∷◌, ◌++◌, ◌↔◌, ◌⊎◌, ℕ, ◌<◌, length}
use Rattle.std.proofs.Common.{sym, ◌∙◌, ap, inl, inr}
use Rattle.std.proofs.Math.Option.{Option, none, some, none-ne-some, some-injective}
use Rattle.trees.specs.Tree.{Ty, base, Tree, lam, con, var, hol, ren, nth, inst, AllL, Holes, Distinct, Sig, Vars, Kind, at, HasTy, t_lam, t_con, t_var, t_hol, t_cons, Pairs, Equates, Both, PairsTyped, Fills}
use Rattle.trees.specs.Moves.{Solutions, Keeps, Unifier, Stamped, SolTyped, Good, Grows, Adds, Agree, Leads, Spreads, spread_nil, spread_cons, Needs, Says, Move, move_lam, move_con, move_var, move_swap, move_drop, move_expand, move_narrow, move_solve, Run, run_done, run_step, Covers}
use Rattle.trees.specs.Free.{unren}
use Rattle.trees.specs.Filling.{Holes-map, inst-ren, inst_agree}
use Rattle.trees.specs.Narrow.{narrow_same, narrow_same_back}
use Rattle.trees.specs.Typing.{vars_nth, vars_length, renames_reflects, vars_embed, Declared, ren-typed, strengthen, typed-more, typed-holes, fills_scoped, fills_suits}
use Rattle.trees.specs.Pairs.{each_map, each_both, each_append, spreads_equates}
use Rattle.trees.specs.Update.{update, update_same, update_other, adds_other}
use Rattle.trees.specs.Order.{SolIn}
use Rattle.trees.proofs.Order.{stamped_narrow}

pub declared_once : {C B : List Ty} {b c : ℕ} → ◌≡◌ {A = Option (List Ty × ℕ)} (some (C, b)) (some (B, c)) → (C ≡ B) × (b ≡ c)
declared_once {C} {B} {b} {c} e = let z = some-injective (C, b) (B, c) e in (ap (λ x. x.0) z, ap (λ x. x.1) z)

pub keeps_less : (θ : ℕ → Tree) (σ τ : Solutions) → Grows σ τ → Keeps θ τ → Keeps θ σ
keeps_less θ σ τ g k h s e = k h s (g h s e)

-- fillings that agree on the holes declared have the same instances
agree_inst : (D : Sig) (θ ρ : ℕ → Tree) → Agree D θ ρ → (t : Tree) → Holes (Declared D) t → inst ρ t ≡ inst θ t
agree_inst D θ ρ a t k = inst_agree ρ θ t (Holes-map (λ h _ d. a h (d.0, d.1) d.2) t k)

keeps_adds : (σ : Solutions) (v : ℕ) (s : Tree) (τ : Solutions) (θ : ℕ → Tree) → Adds σ v s τ → Keeps θ σ → θ v ≡ inst θ s → Keeps θ τ
keeps_adds σ v s τ θ a k e h r q = go (a.only h r q)
  where
    go : ((h ≡ v) × (r ≡ s)) ⊎ (σ h ≡ some r) → θ h ≡ inst θ r
    go (inl x) = rw (x.0, x.1) e
    go (inr x) = k h r x

module _ (S : ℕ → Option Ty) where
  pub fills_less : (D E X : Sig) (θ : ℕ → Tree) → Grows D E → Fills S E X θ → Fills S D X θ
  fills_less D E X θ g f h C b e = f h C b (g h (C, b) e)

  -- what keeps the solutions, or unifies the pairs, does so still when it is extended
  agree_keeps : (D : Sig) (σ : Solutions) (θ ρ : ℕ → Tree) → SolTyped S D σ → Agree D θ ρ → Keeps θ σ → Keeps ρ σ
  agree_keeps D σ θ ρ g a k h s e =
      let t = g h s e in a h (t.0, t.1) t.2 ∙ k h s e ∙ sym (agree_inst D θ ρ a s (typed-holes S D t.3))

  agree_equates : (D : Sig) (ps : Pairs) (θ ρ : ℕ → Tree) → PairsTyped S D ps → Agree D θ ρ → Equates θ ps → Equates ρ ps
  agree_equates D ps θ ρ g a e =
      each_map
      (λ x y p. agree_inst D θ ρ a x (typed-holes S D p.0.2) ∙ p.1 ∙ sym (agree_inst D θ ρ a y (typed-holes S D p.0.3)))
      ps (each_both (Both S D) (λ x y. inst θ x ≡ inst θ y) ps g e)

  pub sol_in : (D : Sig) (σ : Solutions) → SolTyped S D σ → SolIn D σ
  sol_in D σ g h s e = let z = g h s e in ((z.0, z.1), z.2)

  sol_adds : (D : Sig) (σ : Solutions) (v : ℕ) (s : Tree) (τ : Solutions) (C : List Ty) (b : ℕ) → SolTyped S D σ → Adds σ v s τ → D v ≡ some (C, b)
      → HasTy S D C s (at (base b)) → SolTyped S D τ
  sol_adds D σ v s τ C b g a e d h r q = go (a.only h r q)
    where
      go : ((h ≡ v) × (r ≡ s)) ⊎ (σ h ≡ some r) → (C : List Ty) × (b : ℕ) × (D h ≡ some (C, b)) × HasTy S D C r (at (base b))
      go (inl x) = rw (x.0, x.1) (C, b, e, d)
      go (inr x) = g h r x

  both_lam : (D : Sig) {G : List Ty} {k : Kind} {a b : Tree} → HasTy S D G (lam a) k → HasTy S D G (lam b) k → Both S D a b
  both_lam D {G} (t_lam {A = A} {B = B} x) (t_lam y) = (A ∷ G, at B, x, y)

  spreads_typed : (D : Sig) {a b : Tree} {qs : Pairs} → Spreads a b qs → {G : List Ty} {k : Kind} → HasTy S D G a k → HasTy S D G b k → PairsTyped S D qs
  spreads_typed D spread_nil x y = tt
  spreads_typed D (spread_cons s) {G} (t_cons {A = A} x p) (t_cons y q) = ((G, at A, x, y), spreads_typed D s p q)

  both_con : (D : Sig) {G : List Ty} {k : Kind} {c : ℕ} {a b : Tree} {qs : Pairs} → Spreads a b qs → HasTy S D G (con c a) k → HasTy S D G (con c b) k
      → PairsTyped S D qs
  both_con D s (t_con {A = A} e x) (t_con {A = B} f y) = let z : B ≡ A = cc in spreads_typed D s x (rw z at y)

  both_var : (D : Sig) {G : List Ty} {k : Kind} {v : ℕ} {a b : Tree} {qs : Pairs} → Spreads a b qs → HasTy S D G (var v a) k → HasTy S D G (var v b) k
      → PairsTyped S D qs
  both_var D s (t_var {A = A} e x) (t_var {A = B} f y) = let z : B ≡ A = cc in spreads_typed D s x (rw z at y)

  -- a copy of a solution, renamed to the arguments, is typed, and has the instances of the solved hole
  hol_ren : (D : Sig) {G : List Ty} {k : Kind} {h : ℕ} {xs : List ℕ} → HasTy S D G (hol h xs) k → (s : Tree) (C : List Ty) (b : ℕ) → D h ≡ some (C, b)
      → HasTy S D C s (at (base b)) → HasTy S D G (ren (nth xs) s) k
  hol_ren D {G} (t_hol {xs = xs} {C = B} {b = c} e v d) s C b q t =
      let z = declared_once (sym q ∙ e) in ren-typed S D (nth xs) (vars_embed v d) (rw (z.0, z.1) at t)

  solved-inst : (D X : Sig) (σ : Solutions) (θ : ℕ → Tree) → SolTyped S D σ → Fills S D X θ → Keeps θ σ → (h : ℕ) (xs : List ℕ) (s : Tree)
      → σ h ≡ some s → inst θ (hol h xs) ≡ inst θ (ren (nth xs) s)
  solved-inst D X σ θ g f k h xs s e =
      ap (ren (nth xs)) (k h s e) ∙ sym (inst-ren θ (nth xs) s (fills_suits S D X θ f s (typed-holes S D (g h s e).3)))

module _ (S : ℕ → Option Ty) (Frozen : ℕ → Type 0) where
  pub leads_refl : (D : Sig) (σ : Solutions) (ps : Pairs) → Good S D σ ps → Leads S Frozen D σ ps D σ ps
  leads_refl D σ ps g = record {
    good = g;
    declares = λ _ _ e. e;
    solves = λ _ _ e. e;
    spares = λ _ _ e. e;
    back = λ _ _ _ _ e. e;
    forth = λ _ θ f u. (θ, f, u, λ _ _ _. refl);
  }

  pub leads_trans : {D : Sig} {σ : Solutions} {ps : Pairs} {E : Sig} {τ : Solutions} {qs : Pairs} {H : Sig} {υ : Solutions} {rs : Pairs}
      → Leads S Frozen D σ ps E τ qs → Leads S Frozen E τ qs H υ rs → Leads S Frozen D σ ps H υ rs
  leads_trans {D} {σ} {ps} {E} {τ} {qs} {H} {υ} {rs} a b = record {
    good = b.good;
    declares = λ h c e. b.declares h c (a.declares h c e);
    solves = λ h s e. b.solves h s (a.solves h s e);
    spares = λ h z e. b.spares h z (a.spares h z e);
    back = λ X θ f k e. a.back X θ (fills_less S E H X θ b.declares f) (keeps_less θ τ υ b.solves k) (b.back X θ f k e);
    forth = λ X θ f u.
        let x = a.forth X θ f u in
        let y = b.forth X x.0 x.1 x.2 in
        (y.0, y.1, y.2, λ h c e. y.3 h c (a.declares h c e) ∙ x.3 h c e);
  }

  -- other pairs, with the same unifiers
  pub pairs_lead : (D : Sig) (σ : Solutions) (ps qs : Pairs) → Good S D σ ps → PairsTyped S D qs
      → ((X : Sig) (θ : ℕ → Tree) → Fills S D X θ → Keeps θ σ → Equates θ ps ↔ Equates θ qs) → Leads S Frozen D σ ps D σ qs
  pairs_lead D σ ps qs g w k = record {
    good = (g.0, w, g.2);
    declares = λ _ _ e. e;
    solves = λ _ _ e. e;
    spares = λ _ _ e. e;
    back = λ X θ f u e. (k X θ f u).1 e;
    forth = λ X θ f u. (θ, f, (u.0, (k X θ f u.0).0 u.1), λ _ _ _. refl);
  }

  -- equal heads: the pairs of arguments go last
  spread_leads : (D : Sig) (σ : Solutions) (ps qs : Pairs) (l r a b : Tree) → Good S D σ ((l, r) ∷ ps) → Spreads a b qs → PairsTyped S D qs
      → ((θ : ℕ → Tree) → (inst θ l ≡ inst θ r) ↔ (inst θ a ≡ inst θ b)) → Leads S Frozen D σ ((l, r) ∷ ps) D σ (ps ++ qs)
  spread_leads D σ ps qs l r a b g s w k =
      pairs_lead D σ ((l, r) ∷ ps) (ps ++ qs) g ((each_append (Both S D) ps qs).1 (g.1.1, w))
      (λ X θ f u. let h = each_append (λ x y. inst θ x ≡ inst θ y) ps qs in (
        λ e. h.1 (e.1, (spreads_equates θ s).0 ((k θ).0 e.0)),
        λ e. let z = h.0 e in ((k θ).1 ((spreads_equates θ s).1 z.1), z.0),
      ))

  -- a new hole w, for which each unifier has something to put
  pub new_leads : (D : Sig) (σ : Solutions) (ps : Pairs) (w : ℕ) (B : List Ty) (b : ℕ) (E : Sig) (τ : Solutions) (qs : Pairs) → Good S E τ qs
      → Adds D w (B, b) E → Grows σ τ → ((h : ℕ) → Frozen h → σ h ≡ none → τ h ≡ none)
      → ((X : Sig) (θ : ℕ → Tree) → Fills S E X θ → Keeps θ τ → Equates θ qs → Equates θ ps)
      → ((X : Sig) (θ : ℕ → Tree) → Fills S D X θ → Unifier θ σ ps
      → (s : Tree) × HasTy S X B s (at (base b)) × (Agree D θ (update θ w s) → Unifier (update θ w s) τ qs))
      → Leads S Frozen D σ ps E τ qs
  new_leads D σ ps w B b E τ qs g a i z back' n = record {
    good = g;
    declares = a.grows;
    solves = i;
    spares = z;
    back = back';
    forth = λ X θ f u. let x = n X θ f u in (
      update θ w x.0,
      λ h A c q. fills X θ f x.0 x.1 h A c (a.only h (A, c) q),
      x.2 (agree θ x.0),
      agree θ x.0,
    );
  }
    where
      agree : (θ : ℕ → Tree) (s : Tree) → Agree D θ (update θ w s)
      agree θ s h c q = update_other θ w s h (λ x. none-ne-some c (sym a.before ∙ ap D (sym x) ∙ q))

      fills : (X : Sig) (θ : ℕ → Tree) → Fills S D X θ → (s : Tree) → HasTy S X B s (at (base b)) → (h : ℕ) (A : List Ty) (c : ℕ)
          → ((h ≡ w) × (◌≡◌ {A = List Ty × ℕ} (A, c) (B, b))) ⊎ (D h ≡ some (A, c)) → HasTy S X A (update θ w s h) (at (base c))
      fills X θ f s d h A c (inl x) =
          let y : A ≡ B = ap (λ z. z.0) x.1 in
          let z : c ≡ b = ap (λ z. z.1) x.1 in
          rw (x.0, y, z) (rw (update_same θ w s) d)
      fills X θ f s d h A c (inr x) = rw (agree θ s h (A, c) x) (f h A c x)

  narrow-leads : (D : Sig) (σ : Solutions) (ps : Pairs) (v w : ℕ) (K : List ℕ) (C B : List Ty) (b : ℕ) (E : Sig) (τ : Solutions) → Good S D σ ps
      → (Frozen v → ⊥) → D v ≡ some (C, b) → Vars C K B → Distinct K → Adds D w (B, b) E → Adds σ v (hol w K) τ → Needs S D σ ps v K
      → Leads S Frozen D σ ps E τ ps
  narrow-leads D σ ps v w K C B b E τ (g, p, st) z e vs d ae aσ n =
      new_leads D σ ps w B b E τ ps (
        sol_adds S E σ v (hol w K) τ C b more aσ (ae.grows v (C, b) e) (t_hol ae.new vs d),
        each_map (λ x y r. (r.0, r.1, typed-more S D E ae.grows r.2, typed-more S D E ae.grows r.3)) ps p,
        stamped_narrow D E σ τ v w K (C, b) (B, b) (sol_in S D σ g) e ae aσ st,
      )
      ae aσ.grows (λ h y q. adds_other σ v (hol w K) τ aσ h (λ x. z (rw (← x) y)) q) (λ _ _ _ _ q. q)
      (λ X θ f u. let x = unren (λ k. k < length K) (nth K) (θ v) (n X θ f u) in (
        x.0,
        strengthen S X (λ j. j < length B) (nth K) B C (renames_reflects (nth K) B C (vars_nth vs)) x.0
            (rw (← (vars_length vs)) x.1) (rw x.2 (f v C b e)),
        λ a. (
          keeps_adds σ v (hol w K) τ (update θ w x.0) aσ (agree_keeps S D σ θ (update θ w x.0) g a u.0)
              (a v (C, b) e ∙ sym x.2 ∙ ap (ren (nth K)) (sym (update_same θ w x.0))),
          agree_equates S D ps θ (update θ w x.0) p a u.1,
        ),
      ))
    where
      more : SolTyped S E σ
      more h s q = let r = g h s q in (r.0, r.1, ae.grows h (r.0, r.1) r.2, typed-more S D E ae.grows r.3)

  solve-leads : (D : Sig) (σ : Solutions) (ps : Pairs) (u : ℕ) (s l r : Tree) (C : List Ty) (b : ℕ) (τ : Solutions) → Good S D σ ((l, r) ∷ ps)
      → (Frozen u → ⊥) → D u ≡ some (C, b) → HasTy S D C s (at (base b)) → Adds σ u s τ → Stamped τ → Says S D σ l r u s
      → Leads S Frozen D σ ((l, r) ∷ ps) D τ ps
  solve-leads D σ ps u s l r C b τ (g, (p, ws), _) z e d a st k = record {
    good = (sol_adds S D σ u s τ C b g a e d, ws, st);
    declares = λ _ _ q. q;
    solves = a.grows;
    spares = λ h y q. adds_other σ u s τ a h (λ x. z (rw (← x) y)) q;
    back = λ X θ f w q. ((k X θ f (keeps_less θ σ τ a.grows w)).1 (w u s a.new), q);
    forth = λ X θ f w. (θ, f, (keeps_adds σ u s τ θ a w.0 ((k X θ f w.0).0 w.1.0), w.1.1), λ _ _ _. refl);
  }

  -- EACH MOVE keeps exactly the unifiers
  pub move_leads : {D : Sig} {σ : Solutions} {ps : Pairs} {E : Sig} {τ : Solutions} {qs : Pairs} → Good S D σ ps → Move S Frozen D σ ps E τ qs
      → Leads S Frozen D σ ps E τ qs
  move_leads {D} {σ} g (move_lam {a} {b} {ps}) =
      pairs_lead D σ ((lam a, lam b) ∷ ps) ((a, b) ∷ ps) g (both_lam S D g.1.0.2 g.1.0.3, g.1.1)
      (λ X θ f k. (λ e. let z : lam (inst θ a) ≡ lam (inst θ b) = e.0 in (cc, e.1), λ e. (ap lam e.0, e.1)))
  move_leads {D} {σ} g (move_con {c} {a} {b} {ps} {qs} s) =
      spread_leads D σ ps qs (con c a) (con c b) a b g s (both_con S D s g.1.0.2 g.1.0.3)
      (λ θ. (λ e. let z : con c (inst θ a) ≡ con c (inst θ b) = e in cc, ap (con c)))
  move_leads {D} {σ} g (move_var {v} {a} {b} {ps} {qs} s) =
      spread_leads D σ ps qs (var v a) (var v b) a b g s (both_var S D s g.1.0.2 g.1.0.3)
      (λ θ. (λ e. let z : var v (inst θ a) ≡ var v (inst θ b) = e in cc, ap (var v)))
  move_leads {D} {σ} g (move_swap {a} {b} {ps}) =
      let p = g.1.0 in
      pairs_lead D σ ((a, b) ∷ ps) ((b, a) ∷ ps) g ((p.0, p.1, p.3, p.2), g.1.1)
      (λ X θ f k. (λ e. (sym e.0, e.1), λ e. (sym e.0, e.1)))
  move_leads {D} {σ} g (move_drop {a} {b} {ps} h) = pairs_lead D σ ((a, b) ∷ ps) ps g g.1.1 (λ X θ f k. (λ e. e.1, λ e. (h X θ f k, e)))
  move_leads {D} {σ} g (move_expand {h} {xs} {s} {t} {ps} e) =
      let y = g.0 h s e in
      let p = g.1.0 in
      pairs_lead D σ ((hol h xs, t) ∷ ps) ((ren (nth xs) s, t) ∷ ps) g ((p.0, p.1, hol_ren S D p.2 s y.0 y.1 y.2 y.3, p.3), g.1.1)
      (λ X θ f k. let z = solved-inst S D X σ θ g.0 f k h xs s e in (λ u. (sym z ∙ u.0, u.1), λ u. (z ∙ u.0, u.1)))
  move_leads {D} {σ} g (move_narrow {ps} {v} {w} {K} {C} {B} {b} {E} {τ} z e vs d ae aσ n) = narrow-leads D σ ps v w K C B b E τ g z e vs d ae aσ n
  move_leads {D} {σ} g (move_solve {a} {b} {ps} {u} {s} {C} {c} {τ} z e d n st k) = solve-leads D σ ps u s a b C c τ g z e d n st k

  -- EACH RUN keeps exactly the unifiers
  pub run-leads : {D : Sig} {σ : Solutions} {ps : Pairs} {E : Sig} {τ : Solutions} {qs : Pairs} → Good S D σ ps → Run S Frozen D σ ps E τ qs
      → Leads S Frozen D σ ps E τ qs
  run-leads {D} {σ} {ps} g run_done = leads_refl D σ ps g
  run-leads g (run_step m r) = let l = move_leads g m in leads_trans l (run-leads l.good r)

  pub run_trans : {D E H : Sig} {σ τ υ : Solutions} {ps qs rs : Pairs} → Run S Frozen D σ ps E τ qs → Run S Frozen E τ qs H υ rs
      → Run S Frozen D σ ps H υ rs
  run_trans run_done q = q
  run_trans (run_step m r) q = run_step m (run_trans r q)

  -- the same hole twice: it is narrowed to positions where the arguments agree, all of them, and the pair is dropped
  pub run_same : (D : Sig) (σ : Solutions) (ps : Pairs) (v w : ℕ) (xs ys K : List ℕ) (C B : List Ty) (b : ℕ) (E : Sig) (τ : Solutions)
      → Good S D σ ((hol v xs, hol v ys) ∷ ps) → (Frozen v → ⊥) → D v ≡ some (C, b) → Covers (λ j. nth xs j ≡ nth ys j) (length xs) K
      → AllL (λ j. nth xs j ≡ nth ys j) K → Vars C K B → Distinct K → Adds D w (B, b) E → Adds σ v (hol w K) τ
      → Run S Frozen D σ ((hol v xs, hol v ys) ∷ ps) E τ ps
  run_same D σ ps v w xs ys K C B b E τ g z e c a vs d ae aσ =
      run_step
      (move_narrow {ps = (hol v xs, hol v ys) ∷ ps} z e vs d ae aσ
      (λ X θ f u. narrow_same xs ys (length xs) K c (θ v) (fills_scoped S D X θ f v xs (typed-holes S D g.1.0.2)) u.1.0))
      (run_step
      (move_drop (λ X θ f k.
      let q = k v (hol w K) aσ.new in
      let sc = fills_scoped S E X θ f w K (B, b, ae.new, vars_length vs, d) in
      ap (ren (nth xs)) q ∙ narrow_same_back xs ys K a (θ w) sc ∙ sym (ap (ren (nth ys)) q)))
      run_done)
