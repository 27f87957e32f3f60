-- The walk over records is a walk over trees: it follows solved holes, keeps or narrows unsolved ones, and fails where a tree's walk is lost.
use Prim.Native.Nat.{ℕ, zero, suc, ◌+◌, ◌<◌}
use Rattle.std.specs.Prelude.{◌≡◌, Bool, true, false, ◌≢◌, length, eqb, Option, ℕ, Some, None}
use Rattle.std.proofs.Math.Path.{refl}
use Rattle.std.proofs.Common.{sym, ap, ◌∙◌, subst, arith, eqb-true}
use mathlib.Core.List.{List}
use Rattle.std.proofs.Math.Option.{none, some, none-ne-some}
use Rattle.std.proofs.lemmas.Bool.{eqb-false}
use Rattle.rules.specs.declared.Failure.{Failure}
use Rattle.rules.specs.declared.Failure.TheVariants.{Escape, Occurs}
use Rattle.rules.specs.Words.{field_a, LA, CA, VA, variables}
use Rattle.rules.specs.Store.{Store, solved, solution}
use Rattle.rules.specs.Map.{Map, sources, targets, place_of, follow}
use Rattle.rules.specs.Rewrite.{Writer, write_all, write_term}
use Rattle.rules.specs.Walk.{keep_placed, walk_hole, walk}
use Rattle.trees.specs.Tree.{Tree, lam, con, var, hol, nil, cons, AllL, Sig}
use Rattle.trees.specs.Moves.{Solutions, NoneFrozen, w_lam, w_con, w_var, w_solved, w_kept, w_narrowed, Lost, l_escape, l_occurs, l_lam, l_con, l_var, l_solved}
use Rattle.trees.specs.Free.{AllL-map}
use Rattle.trees.specs.Typing.{Declared}
use Rattle.trees.specs.Places.{vars_part}
use Rattle.promise.specs.Reading.{one, Reads, r_lam, r_con, r_var, r_hol, same_refl, lower, reads_later, listed-arguments, listed-variables}
use Rattle.promise.specs.Outcomes.{Ends, bind_ends, map_ends, unsaid, OnlyFull, fail_ends}
use Rattle.promise.specs.Writing.{pushed_appends, pushed_lambda, pushed_constant, pushed_variable, push_ends, Wrote, occurrence_ends}
use Rattle.promise.specs.Maps.{option, place, place-lift}
use Rattle.promise.specs.Following.{follow_after, follow-all, kept_covers, kept-distinct, kept-written, kept-below}
use Rattle.promise.specs.Rewriting.{form_lam, form_con, form_var, form_hol}
use Rattle.promise.specs.State.{later_trans, grew_later, Holds, solved_some, solved_none, declared_low, holds_appends}
use Rattle.promise.specs.Narrowing.{Narrowed, narrow_ends}
use Rattle.promise.specs.Walked.{Walked, WalkedAll, LostBy, lost_map, lost_full, Starts, Walks, all_walked}

module _ (R u : ℕ) where
  -- an unsolved hole
  kept_walked : (k : ℕ) (m : Map) (d : ℕ) (s : Store) (D : Sig) (σ : Solutions) (v : ℕ) (ys : List ℕ) → Holds R s D σ → Declared D v ys → v ≢ u
      → σ v ≡ none
      → Ends (Walked R u D σ (place m d) (hol v ys) s) (LostBy u k D σ (place m d) (hol v ys)) (keep_placed R v (length ys) (follow m d 0 ys) s)
  unfolding keep_placed
  kept_walked k m d s D σ v ys i (C, b, e, l, q) n o = go (eqb (length (follow m d 0 ys)) (length ys)) refl
    where
      K : List ℕ
      K = sources (follow m d 0 ys)

      zs : List ℕ
      zs = targets (follow m d 0 ys)

      whole : length (follow m d 0 ys) ≡ length ys → (s₁ : Store) (r : ℕ) → Wrote R (hol v zs) s s₁ r → Walked R u D σ (place m d) (hol v ys) s s₁ r
      whole x s₁ r w = record {
        sig = D;
        sols = σ;
        tree = hol v zs;
        walk = w_kept o n (follow-all m d 0 ys x);
        holds = holds_appends i w.appends;
        reads = w.reads;
        later = grew_later w.appends.grew;
        declares = λ _ _ z. z;
      }

      below : AllL (λ j. j < length C) K
      below = AllL-map (λ j h. omega (arith, l)) K (kept-below m d ys)

      part' : (s₁ : Store) (new : ℕ) → Narrowed R D σ v C b K s s₁ new → (s₂ : Store) (r : ℕ) → Wrote R (hol new zs) s₁ s₂ r
          → Walked R u D σ (place m d) (hol v ys) s s₂ r
      part' s₁ new x s₂ r w = record {
        sig = x.sig;
        sols = x.sols;
        tree = hol new zs;
        walk = w_narrowed (λ z. z) n e (kept_covers m d ys) (vars_part C K below) (kept-distinct m d 0 ys) (kept-written m d ys) x.declares x.solves;
        holds = holds_appends x.holds w.appends;
        reads = w.reads;
        later = later_trans x.later (grew_later w.appends.grew);
        declares = x.declares.grows;
      }

      full : (f : Failure) → OnlyFull f → LostBy u k D σ (place m d) (hol v ys) f
      full = lost_full u k D σ (place m d) (hol v ys)

      go : (x : Bool) → eqb (length (follow m d 0 ys)) (length ys) ≡ x
          → Ends (Walked R u D σ (place m d) (hol v ys) s) (LostBy u k D σ (place m d) (hol v ys)) (keep_placed R v (length ys) (follow m d 0 ys) s)
      go true x = rw (x, keep_placed) (map_ends full (whole (eqb-true _ _ x)) (occurrence_ends R v zs s i.fits))
      go false x =
          rw (x, keep_placed)
          (bind_ends _ (narrow_ends R s D σ v C b K i e o below (kept-distinct m d 0 ys)) full λ s₁ new y.
          map_ends full (part' s₁ new y) (occurrence_ends R new zs s₁ y.holds.fits))

  -- a hole
  hole_walked : (go : Writer) → Walks R u go → (k : ℕ) (m : Map) (d r : ℕ) (s : Store) (D : Sig) (σ : Solutions) (v : ℕ) (ys : List ℕ) → Holds R s D σ
      → field_a s.words r ≡ v → variables s.words r ≡ ys → Declared D v ys → Starts u k σ (hol v ys)
      → Ends (Walked R u D σ (place m d) (hol v ys) s) (LostBy u k D σ (place m d) (hol v ys)) (walk_hole go R u m d r s)
  unfolding walk_hole
  hole_walked write c k m d r s D σ v ys i x y n z = go (eqb v u) refl (solved s v) refl
    where
      followed : (k : ℕ) → Starts u k σ (hol v ys) → (t : Tree) → σ v ≡ some t → Reads s.words s.used (one (solution s v)) t
          → Ends (Walked R u D σ (place m d) (hol v ys) s) (LostBy u k D σ (place m d) (hol v ys)) (write (follow m d 0 ys) 0 (solution s v) s)
      followed zero z t e q = absurd (none-ne-some t (sym z.1 ∙ e))
      followed (suc k) z t e q =
          map_ends (lost_map u (suc k) (suc k) (l_solved e (follow_after m d ys))) (λ s₁ r w. record {
            sig = w.sig;
            sols = w.sols;
            tree = w.tree;
            walk = w_solved e (follow_after m d ys) w.walk;
            holds = w.holds;
            reads = w.reads;
            later = w.later;
            declares = w.declares;
          })
          (c (suc k) (follow m d 0 ys) 0 (solution s v) s D σ t i q (i.inside v t e) tt)

      itself : (k : ℕ) → Starts u k σ (hol v ys) → v ≡ u → Lost NoneFrozen u k D σ (place m d) (hol v ys)
      itself zero z e = absurd (z.0 e)
      itself (suc k) z e = rw e l_occurs

      here : {b : Bool} → eqb v u ≡ b → eqb (field_a s.words r) u ≡ b
      here e = ap (λ w. eqb w u) x ∙ e

      go : (a : Bool) → eqb v u ≡ a → (b : Bool) → solved s v ≡ b
          → Ends (Walked R u D σ (place m d) (hol v ys) s) (LostBy u k D σ (place m d) (hol v ys)) (walk_hole write R u m d r s)
      go true e b f = rw (here e, walk_hole) (fail_ends s Occurs (itself k z (eqb-true v u e)))
      go false e true f = let t = solved_some i v (declared_low i v (n.0, n.1) n.2) f in rw (here e, walk_hole, x, f, x, y) (followed k z t.0 t.1 t.2)
      go false e false f = rw (here e, walk_hole, x, f, x, y) (kept_walked k m d s D σ v ys i n (eqb-false v u e) (solved_none i v f))

  pub walk_ends : (n : ℕ) → Walks R u (walk n R u)
  unfolding walk write_term
  walk_ends zero k m d r s D σ t i q h z = unsaid
  walk_ends (suc n) k m d r s D σ (lam t) i (r_lam {a = a} l e x q) h z =
      rw (form_lam s.words r e, write_term, x)
      (bind_ends _ (subst (λ p. Ends (Walked R u D σ p t s) (LostBy u 1 D σ p t) (walk n R u m (d + 1) a s)) (place-lift m d)
      (walk_ends n 1 m (d + 1) a s D σ t i (reads_later same_refl (lower l) q) h tt)) (lost_map u 1 k l_lam) λ s₁ b w.
      map_ends (lost_full u k D σ (place m d) (lam t)) (λ s₂ o v. record {
        sig = w.sig;
        sols = w.sols;
        tree = lam w.tree;
        walk = w_lam w.walk;
        holds = holds_appends w.holds (pushed_appends v tt);
        reads = pushed_lambda v w.reads;
        later = later_trans w.later (grew_later v.grew);
        declares = w.declares;
      }) (push_ends R LA b 0 s₁ w.holds.fits))
  walk_ends (suc n) k m d r s D σ (con c a) i (r_con {xs = xs} l e x y g q) h z =
      rw (form_con s.words r e, write_term, x, listed-arguments r y g)
      (bind_ends _ (all_walked R u _ (walk_ends n) m d xs s D σ a i (reads_later same_refl (lower l) q) h) (lost_map u 1 k l_con) λ s₁ b w.
      map_ends (lost_full u k D σ (place m d) (con c a)) (λ s₂ o v. record {
        sig = w.sig;
        sols = w.sols;
        tree = con c w.tree;
        walk = w_con w.walk;
        holds = holds_appends w.holds (pushed_appends v tt);
        reads = pushed_constant v w.listed w.reads;
        later = later_trans w.later (grew_later v.grew);
        declares = w.declares;
      }) (push_ends R CA c b s₁ w.holds.fits))
  walk_ends (suc n) k m d r s D σ (var v a) i (r_var {xs = xs} l e x y g q) h z =
      go (place_of m d v) refl (all_walked R u _ (walk_ends n) m d xs s D σ a i (reads_later same_refl (lower l) q) h)
    where
      go : (o : Option ℕ) → place_of m d v ≡ o
          → Ends (WalkedAll R u D σ (place m d) a s) (LostBy u 1 D σ (place m d) a) (write_all (λ m' d' r' s'. walk n R u m' d' r' s') R m d xs s)
          → Ends (Walked R u D σ (place m d) (var v a) s) (LostBy u k D σ (place m d) (var v a)) (walk (suc n) R u m d r s)
      go None o ih = rw (form_var s.words r e, write_term, x, o) (fail_ends s Escape (l_escape (ap option o)))
      go (Some p) o ih =
          rw (form_var s.words r e, write_term, x, o, listed-arguments r y g)
          (bind_ends _ ih (lost_map u 1 k l_var) λ s₁ b w.
          map_ends (lost_full u k D σ (place m d) (var v a)) (λ s₂ j f. record {
            sig = w.sig;
            sols = w.sols;
            tree = var p w.tree;
            walk = w_var (ap option o) w.walk;
            holds = holds_appends w.holds (pushed_appends f tt);
            reads = pushed_variable f w.listed w.reads;
            later = later_trans w.later (grew_later f.grew);
            declares = w.declares;
          }) (push_ends R VA p b s₁ w.holds.fits))
  walk_ends (suc n) k m d r s D σ (hol v ys) i (r_hol l e x y g q) h z =
      rw (form_hol s.words r e, write_term) (hole_walked _ (walk_ends n) k m d r s D σ v ys i x (listed-variables r y g q) h z)
  walk_ends (suc n) k m d r s D σ nil i q h z = elim q [ ]
  walk_ends (suc n) k m d r s D σ (cons _ _) i q h z = elim q [ ]
