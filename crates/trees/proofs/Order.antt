-- Solutions with stamps are ranked, and a narrowing takes the next stamp.
use Rattle.std.specs.Prelude.{◌≡◌, refl, List, ◌≢◌, ◌⊎◌, ℕ, suc, ◌-◌, ◌<◌}
use Rattle.std.proofs.Common.{sym, ◌∙◌, ap, inl, inr, arith}
use Rattle.std.proofs.Math.Option.{Option, none, some, none-ne-some}
use Rattle.trees.specs.Tree.{Ty, Tree, hol, Holes, Sig}
use Rattle.trees.specs.Moves.{Solutions, Climbs, Stamped, Adds}
use Rattle.trees.specs.Filling.{Holes-map}
use Rattle.trees.specs.Update.{update, update_same, update_other}
use Rattle.trees.specs.Order.{Ranked, depth, SolIn, climbs_more, climbs_adds, Later}

climbs_ranked : (lo : ℕ → ℕ) (m : ℕ) (σ : Solutions) → Climbs lo m σ → Ranked (λ h. depth (σ h) (m - lo h)) σ
climbs_ranked lo m σ c h s e = Holes-map (λ g _ k. rw e (go g (σ g) refl k)) s (c h s e).1
  where
    go : (g : ℕ) (o : Option Tree) → σ g ≡ o → ((t : Tree) → σ g ≡ some t → lo h < lo g) → depth o (m - lo g) < suc (m - lo h)
    go g none q k = omega arith
    go g (some t) q k = omega (arith, k t q, (c g t q).0)

pub stamped_ranked : (σ : Solutions) → Stamped σ → (r : ℕ → ℕ) × Ranked r σ
stamped_ranked σ (lo, m, c) = (_, climbs_ranked lo m σ c)

-- a narrowing takes the next stamp
pub later_narrow : (u : ℕ) (D E : Sig) (σ τ : Solutions) (lo : ℕ → ℕ) (m v w : ℕ) (K : List ℕ) (c d : List Ty × ℕ) → SolIn D σ → Climbs lo m σ
    → D v ≡ some c → w ≢ u → Adds D w d E → Adds σ v (hol w K) τ → Later u D σ lo m E τ
later_narrow u D E σ τ lo m v w K c d i l e n ae aσ = record {
  declares = ae.grows;
  solves = aσ.grows;
  inside = λ h r q. inside' h r (aσ.only h r q);
  stamp = update lo v (suc m);
  top = suc m;
  up = omega arith;
  climbs =
      climbs_adds lo (suc m) σ v (suc m) (hol w K) τ (climbs_more lo m (suc m) σ (omega arith) l) aσ (omega arith)
      (λ q. none-ne-some c (sym ae.before ∙ ap D q ∙ e), λ t q. let x = i w t q in absurd (none-ne-some x.0 (sym ae.before ∙ x.1)))
      (λ h t q. let b = (l h t q).0 in Holes-map (λ g _ _ _. omega arith) t (l h t q).1);
  old = λ h r q. update_other lo v (suc m) h (λ x. none-ne-some r (sym aσ.before ∙ ap σ (sym x) ∙ q));
  new = λ h r q z. new' h r z (aσ.only h r q);
}
  where
    inside' : (h : ℕ) (r : Tree) → ((h ≡ v) × (r ≡ hol w K)) ⊎ (σ h ≡ some r) → (c : List Ty × ℕ) × (E h ≡ some c)
    inside' h r (inl x) = (c, ap E x.0 ∙ ae.grows v c e)
    inside' h r (inr x) = let y = i h r x in (y.0, ae.grows h y.0 y.1)

    new' : (h : ℕ) (r : Tree) → σ h ≡ none → ((h ≡ v) × (r ≡ hol w K)) ⊎ (σ h ≡ some r) → (m < update lo v (suc m) h) × Holes (λ g _. g ≢ u) r
    new' h r z (inl x) = rw (x.0, x.1) (omega (arith, update_same lo v (suc m)), n)
    new' h r z (inr x) = absurd (none-ne-some r (sym z ∙ x))

pub stamped_narrow : (D E : Sig) (σ τ : Solutions) (v w : ℕ) (K : List ℕ) (c d : List Ty × ℕ) → SolIn D σ → D v ≡ some c → Adds D w d E
    → Adds σ v (hol w K) τ → Stamped σ → Stamped τ
stamped_narrow D E σ τ v w K c d i e ae aσ (lo, m, l) =
    let k = later_narrow v D E σ τ lo m v w K c d i l e (λ x. none-ne-some c (sym ae.before ∙ ap D x ∙ e)) ae aσ in
    (k.stamp, k.top, k.climbs)
