-- Step 1: replacing a side by copies of solutions is moves of the trees, and its head is then no solved hole.
use Prim.Native.Nat.{ℕ, zero, suc}
use Rattle.std.specs.Prelude.{◌≡◌, List, ◌∷◌, Bool, length, eqb}
use Rattle.std.proofs.Math.Path.{refl, ap₂}
use Rattle.std.proofs.Common.{sym, ap, ◌∙◌}
use Rattle.std.proofs.Math.Bool.{true, false}
use Rattle.std.proofs.Math.Option.{Option, none, some}
use Rattle.rules.specs.Lists.{both}
use Rattle.rules.specs.Words.{tag, field_a, LA, CA, VA, HA, has}
use Rattle.rules.specs.Store.{Store, goes, solved, solution}
use Rattle.rules.specs.Rewrite.{expand}
use Rattle.trees.specs.Tree.{Ty, base, Tree, lam, con, var, hol, nil, cons, ren, nth, Sig, Kind, at, HasTy, Pairs}
use Rattle.trees.specs.Moves.{Solutions, Good, move_expand, run_done}
use Rattle.trees.specs.Free.{Scoped}
use Rattle.trees.specs.Typing.{typed_scoped, typed-holes}
use Rattle.trees.proofs.Leads.{declared_once}
use Rattle.promise.specs.Reading.{one, Reads, r_lam, r_con, r_var, r_hol, listed-variables}
use Rattle.promise.specs.Outcomes.{Ends, ended, bind_ends, map_ends, unsaid, OnlyFull, Appends, appends_refl, appends_trans}
use Rattle.promise.proofs.Copying.{copy-solution}
use Rattle.promise.specs.State.{Holds, solved_some, solved_none, declared_low, holds_appends}
use Rattle.promise.specs.Waiting.{Runs, move, then, run_good}

-- record r has tag j: the test for tag k
has_is : (ws : List ℕ) (r j k : ℕ) → tag ws r ≡ j → has ws r k ≡ eqb j k
unfolding has
has_is ws r j k e = ap (λ z. eqb z k) e

-- the head is no solved hole
abbrev pub Unsolved : Solutions → Tree → Type 0
Unsolved σ (lam t) = Unit {0}
Unsolved σ (con c a) = Unit {0}
Unsolved σ (var v a) = Unit {0}
Unsolved σ (hol h xs) = σ h ≡ none
Unsolved σ nil = Unit {0}
Unsolved σ (cons t a) = Unit {0}

module _ (S : ℕ → Option Ty) (R : ℕ) (D : Sig) (σ : Solutions) where
  -- the left side t was expanded
  pub record Expanded (t b : Tree) (ps : Pairs) (s s₁ : Store) (r : ℕ) : Type 0 where
    pub appends : Appends R s s₁
    pub tree : Tree
    pub reads : Reads s₁.words s₁.used (one r) tree
    pub run : Runs S D σ ((t, b) ∷ ps) D σ ((tree, b) ∷ ps)
    pub unsolved : Unsolved σ tree

  stays : (t b : Tree) (ps : Pairs) (r : ℕ) (s : Store) → Holds R s D σ → Reads s.words s.used (one r) t → Unsolved σ t
      → Ends (Expanded t b ps s) OnlyFull (goes s r)
  stays t b ps r s i q n = ended (record { appends = appends_refl i.fits; tree = t; reads = q; run = run_done; unsolved = n })

  not_hole : (ws : List ℕ) (r j : ℕ) (x : Bool) → tag ws r ≡ j → eqb j HA ≡ false → both (has ws r HA) x ≡ false
  unfolding both
  not_hole ws r j x e f = rw (has_is ws r j HA e ∙ f)

  -- a solution in the scope of an occurrence's arguments
  pub in_scope : {G : List Ty} {k : Kind} {h : ℕ} {xs : List ℕ} {u : Tree} {C : List Ty} {b : ℕ} → HasTy S D G (hol h xs) k → D h ≡ some (C, b) → HasTy S D C u (at (base b))
      → Scoped (length xs) u
  in_scope {xs = xs} {u} {C} d e t =
      let z = typed-holes S D d in
      let l : length C ≡ length xs = ap length (declared_once (sym e ∙ z.2)).0 ∙ sym z.3 in
      rw l at (typed_scoped S D t)

  pub expand_ends : (f : ℕ) (t b : Tree) (ps : Pairs) (r : ℕ) (s : Store) → Holds R s D σ → Good S D σ ((t, b) ∷ ps) → Reads s.words s.used (one r) t
      → Ends (Expanded t b ps s) OnlyFull (expand f R r s)
  unfolding expand
  expand_ends zero t b ps r s i g q = unsaid
  expand_ends (suc f) (lam t) b ps r s i g (r_lam h e x q) =
      rw (not_hole s.words r LA (solved s (field_a s.words r)) e refl, expand) (stays (lam t) b ps r s i (r_lam h e x q) tt)
  expand_ends (suc f) (con c a) b ps r s i g (r_con h e x y l q) =
      rw (not_hole s.words r CA (solved s (field_a s.words r)) e refl, expand) (stays (con c a) b ps r s i (r_con h e x y l q) tt)
  expand_ends (suc f) (var v a) b ps r s i g (r_var h e x y l q) =
      rw (not_hole s.words r VA (solved s (field_a s.words r)) e refl, expand) (stays (var v a) b ps r s i (r_var h e x y l q) tt)
  expand_ends (suc f) nil b ps r s i g q = elim q [ ]
  expand_ends (suc f) (cons _ _) b ps r s i g q = elim q [ ]
  expand_ends (suc f) (hol v xs) b ps r s i g (r_hol h e x y l q) = go (solved s v) refl (λ t' r' s'. expand_ends f t' b ps r' s')
    where
      test : (z : Bool) → solved s v ≡ z → both (has s.words r HA) (solved s (field_a s.words r)) ≡ z
      test true z = ap₂ both (has_is s.words r HA HA e) (ap (solved s) x ∙ z) ∙ unfold both in refl
      test false z = ap₂ both (has_is s.words r HA HA e) (ap (solved s) x ∙ z) ∙ unfold both in refl

      go : (z : Bool) → solved s v ≡ z
          → ((t' : Tree) (r' : ℕ) (s' : Store) → Holds R s' D σ → Good S D σ ((t', b) ∷ ps) → Reads s'.words s'.used (one r') t'
          → Ends (Expanded t' b ps s') OnlyFull (expand f R r' s'))
          → Ends (Expanded (hol v xs) b ps s) OnlyFull (expand (suc f) R r s)
      go false z ih = rw (test false z, expand) (stays (hol v xs) b ps r s i (r_hol h e x y l q) (solved_none i v z))
      go true z ih =
          let j = typed-holes S D g.1.0.2 in
          let u = solved_some i v (declared_low i v (j.0, j.1) j.2) z in
          let w = g.0 v u.0 u.1 in
          let m : Runs S D σ ((hol v xs, b) ∷ ps) D σ ((ren (nth xs) u.0, b) ∷ ps) = move S (move_expand u.1) in
          rw (test true z, expand, listed-variables r y l q, x)
          (bind_ends _ (copy-solution R xs (solution s v) s u.0 i.fits u.2 (in_scope g.1.0.2 w.2 w.3)) (λ _ n. n) λ s₁ r₁ c.
          map_ends (λ _ n. n) (λ s₂ r₂ k. record {
            appends = appends_trans c.appends k.appends;
            tree = k.tree;
            reads = k.reads;
            run = then S m k.run;
            unsolved = k.unsolved;
          }) (ih (ren (nth xs) u.0) r₁ s₁ (holds_appends i c.appends) (run_good S g m) c.reads))
