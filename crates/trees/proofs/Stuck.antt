-- States that no filling unifies which leaves the frozen holes as they are: a clash of heads, an escape, an occurs.
use Rattle.std.specs.Prelude.{◌≡◌, refl, List, ◌∷◌, ◌≢◌, ℕ, suc, ◌<◌, length}
use Rattle.std.proofs.Common.{sym, ◌∙◌, ap, arith}
use Rattle.std.proofs.Math.Option.{Option, none, none-ne-some}
use Rattle.trees.specs.Tree.{Ty, Tree, lam, con, var, hol, nil, cons, ren, nth, inst, Holes, Sig, Pairs, Fills, itself, Leaves}
use Rattle.trees.specs.Moves.{Solutions, Unifier, Good, Leads, pren, head, Stands, FrozenIn}
use Rattle.trees.specs.Partial.{pren_var_inv, pren_hol_inv}
use Rattle.trees.specs.Filling.{map_m-nth, ren-itself}
use Rattle.trees.specs.Size.{size-ren}
use Rattle.trees.specs.Typing.{Declared, typed-holes}
use Rattle.trees.proofs.Leads.{declared_once}
use Rattle.trees.proofs.Read.{Owes}

module _ (Frozen : ℕ → Type 0) where
  frozen_inst : (D : Sig) (θ : ℕ → Tree) → Leaves Frozen D θ → (h : ℕ) (xs : List ℕ) → Declared D h xs → Frozen h → inst θ (hol h xs) ≡ hol h xs
  frozen_inst D θ l h xs (C, b, e, n, d) z = ap (ren (nth xs)) (l h C b z e ∙ ap (λ m. itself m h) (sym n)) ∙ ren-itself h xs

  head-inst : (D : Sig) (θ : ℕ → Tree) → Leaves Frozen D θ → (t : Tree) → Holes (Declared D) t → Stands Frozen t → head (inst θ t) ≡ head t
  head-inst D θ l (lam t) d z = refl
  head-inst D θ l (con c a) d z = refl
  head-inst D θ l (var v a) d z = refl
  head-inst D θ l (hol h xs) d z = ap head (frozen_inst D θ l h xs d z)
  head-inst D θ l nil d z = refl
  head-inst D θ l (cons t a) d z = refl

module _ (S : ℕ → Option Ty) (Frozen : ℕ → Type 0) where
  -- no unifier
  abbrev pub Stuck : Sig → Solutions → Pairs → Type 0
  Stuck D σ ps = (X : Sig) (θ : ℕ → Tree) → Fills S D X θ → Leaves Frozen D θ → ¬ (Unifier θ σ ps)

  -- what leads to a stuck state is stuck
  pub stuck_before : {D : Sig} {σ : Solutions} {ps : Pairs} {E : Sig} {τ : Solutions} {qs : Pairs} → FrozenIn Frozen D → Leads S Frozen D σ ps E τ qs
      → Stuck E τ qs → Stuck D σ ps
  stuck_before {D} {E = E} z l k X θ f w u =
      let x = l.forth X θ f u in
      k X x.0 x.1
      (λ h C b i e.
      let c = z h i in
      let n = declared_once (sym (l.declares h c.0 c.1) ∙ e) in
      x.3 h c.0 c.1 ∙ w h c.0.0 c.0.1 i c.1 ∙ ap (λ B. itself (length B) h) n.0)
      x.2

  -- different heads meet
  pub stuck_clash : (D : Sig) (σ : Solutions) (ps : Pairs) (a b : Tree) → Good S D σ ((a, b) ∷ ps) → Stands Frozen a → Stands Frozen b
      → head a ≢ head b → Stuck D σ ((a, b) ∷ ps)
  stuck_clash D σ ps a b (_, (p, _), _) x y n X θ f l u =
      n
      (sym (head-inst Frozen D θ l a (typed-holes S D p.2) x)
      ∙ ap head u.1.0
      ∙ head-inst Frozen D θ l b (typed-holes S D p.3) y)

  -- in the walk: a variable has no place, the hole itself is met inside, a frozen hole's argument has no place
  pub stuck_escape : (D : Sig) (σ : Solutions) (ps : Pairs) (u k : ℕ) (p : ℕ → Option ℕ) (v : ℕ) (a : Tree) → Owes S D σ ps u k p (var v a)
      → p v ≡ none → Stuck D σ ps
  stuck_escape D σ ps u k p v a o e X θ f l w =
      let x = (o X θ f w).0 in
      let i = pren_var_inv p v (inst θ a) x.0 x.1 in
      none-ne-some i.0 (sym e ∙ i.2)

  pub stuck_occurs : (D : Sig) (σ : Solutions) (ps : Pairs) (u k : ℕ) (p : ℕ → Option ℕ) (xs : List ℕ) → Owes S D σ ps u (suc k) p (hol u xs)
      → Stuck D σ ps
  stuck_occurs D σ ps u k p xs o X θ f l w = omega (arith, (o X θ f w).1, size-ren (nth xs) (θ u))

  pub stuck_frozen : (D : Sig) (σ : Solutions) (ps : Pairs) (u k : ℕ) (p : ℕ → Option ℕ) (v : ℕ) (ys : List ℕ) (j : ℕ)
      → Owes S D σ ps u k p (hol v ys) → Declared D v ys → Frozen v → j < length ys → p (nth ys j) ≡ none → Stuck D σ ps
  stuck_frozen D σ ps u k p v ys j o d z h e X θ f l w =
      let x = (o X θ f w).0 in
      let i = pren_hol_inv p v ys x.0 (ap (pren p) (sym (frozen_inst Frozen D θ l v ys d z)) ∙ x.1) in
      none-ne-some (nth i.0 j) (sym e ∙ map_m-nth p ys i.0 i.1 j h)
