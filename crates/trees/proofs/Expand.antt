-- The answer of solutions that are in order: there is one, it is typed, and every filling that keeps the solutions is an instance of it.
use Rattle.std.specs.Prelude.{◌≡◌, refl, List, ℕ, zero, suc, ◌<◌, length}
use Rattle.std.proofs.Common.{sym, ◌∙◌, ap, arith}
use Rattle.std.proofs.Math.Option.{Option, none, some}
use Rattle.trees.specs.Tree.{Ty, base, Tree, lam, con, var, hol, nil, cons, lift, ren, nth, inst, Holes, Sig, at, HasTy, t_hol, FillsAt, Fills, itself}
use Rattle.trees.specs.Moves.{Solutions, Keeps, Stamped, SolTyped}
use Rattle.trees.specs.Statements.{alone, expand_at, Expansion}
use Rattle.trees.specs.Filling.{Holes-map, Holes-both, inst_agree, upto-distinct, inst-itself}
use Rattle.trees.proofs.Filling.{inst-inst}
use Rattle.trees.specs.Typing.{vars_all, Declared, typed_scoped, typed-holes, fills_suits}
use Rattle.trees.proofs.Typing.{inst-typed}
use Rattle.trees.specs.Order.{Ranked}
use Rattle.trees.proofs.Order.{stamped_ranked}
use Rattle.trees.proofs.Leads.{declared_once}

-- with a rank there is one expansion
abbrev pub resolve : Sig → Solutions → ℕ → ℕ → Tree
resolve D σ zero h = alone (D h) h
resolve D σ (suc k) h = expand_at D (resolve D σ k) (σ h) h

module _ (D : Sig) (σ : Solutions) (r : ℕ → ℕ) (w : Ranked r σ) where
  resolve_stable : (k m h : ℕ) → r h < k → r h < m → resolve D σ k h ≡ resolve D σ m h
  resolve_stable zero m h i j = absurd (omega arith)
  resolve_stable (suc k) zero h i j = absurd (omega arith)
  resolve_stable (suc k) (suc m) h i j = go (σ h) refl (λ g x. resolve_stable k m g (omega arith) (omega arith))
    where
      go : (o : Option Tree) → σ h ≡ o → ((g : ℕ) → r g < r h → resolve D σ k g ≡ resolve D σ m g)
          → expand_at D (resolve D σ k) o h ≡ expand_at D (resolve D σ m) o h
      go none e ih = refl
      go (some s) e ih = inst_agree (resolve D σ k) (resolve D σ m) s (Holes-map (λ g _ x. ih g x) s (w h s e))

  abbrev pub expand : ℕ → Tree
  expand h = resolve D σ (suc (r h)) h

  expand_is : Expansion D σ expand
  expand_is h = go (σ h) refl
    where
      go : (o : Option Tree) → σ h ≡ o → expand_at D (resolve D σ (r h)) o h ≡ expand_at D expand o h
      go none e = refl
      go (some s) e =
          inst_agree (resolve D σ (r h)) expand s (Holes-map (λ g _ x. resolve_stable (r h) (suc (r g)) g (omega arith) (omega arith)) s (w h s e))

  expansion_unique : (F H : ℕ → Tree) → Expansion D σ F → Expansion D σ H → (h : ℕ) → F h ≡ H h
  expansion_unique F H x y h = go (suc (r h)) h (omega arith)
    where
      go : (k h : ℕ) → r h < k → F h ≡ H h
      go zero h l = absurd (omega arith)
      go (suc k) h l = x h ∙ case (σ h) refl (λ g z. go k g (omega arith)) ∙ sym (y h)
        where
          case : (o : Option Tree) → σ h ≡ o → ((g : ℕ) → r g < r h → F g ≡ H g) → expand_at D F o h ≡ expand_at D H o h
          case none e ih = refl
          case (some s) e ih = inst_agree F H s (Holes-map (λ g _ z. ih g z) s (w h s e))

pub stamped_expands : (D : Sig) (σ : Solutions) → Stamped σ → (F : ℕ → Tree) × Expansion D σ F
stamped_expands D σ st = let r = stamped_ranked σ st in (expand D σ r.0 r.1, expand_is D σ r.0 r.1)

pub stamped_expands_once : (D : Sig) (σ : Solutions) → Stamped σ → (F H : ℕ → Tree) → Expansion D σ F → Expansion D σ H → (h : ℕ) → F h ≡ H h
stamped_expands_once D σ st = let r = stamped_ranked σ st in expansion_unique D σ r.0 r.1

pub expansion_keeps : (D : Sig) (σ : Solutions) (F : ℕ → Tree) → Expansion D σ F → Keeps F σ
expansion_keeps D σ F x h s e = x h ∙ ap (λ o. expand_at D F o h) e

-- a hole that is not solved is itself
pub expansion_alone : (D : Sig) (σ : Solutions) (F : ℕ → Tree) → Expansion D σ F → (h : ℕ) (c : List Ty × ℕ) → σ h ≡ none → D h ≡ some c
    → F h ≡ itself (length c.0) h
expansion_alone D σ F x h c e d = x h ∙ ap (λ o. expand_at D F o h) e ∙ ap (λ o. alone o h) d

-- holes of an instance
ren-holes : (Q : ℕ → Type 0) (f : ℕ → ℕ) (t : Tree) → Holes (λ h _. Q h) t → Holes (λ h _. Q h) (ren f t)
ren-holes Q f (lam t) h = ren-holes Q (lift f) t h
ren-holes Q f (con c a) h = ren-holes Q f a h
ren-holes Q f (var v a) h = ren-holes Q f a h
ren-holes Q f (hol i xs) h = h
ren-holes Q f nil h = tt
ren-holes Q f (cons t a) h = (ren-holes Q f t h.0, ren-holes Q f a h.1)

inst-holes : (Q : ℕ → Type 0) (θ : ℕ → Tree) (t : Tree) → Holes (λ h _. Holes (λ g _. Q g) (θ h)) t → Holes (λ h _. Q h) (inst θ t)
inst-holes Q θ (lam t) h = inst-holes Q θ t h
inst-holes Q θ (con c a) h = inst-holes Q θ a h
inst-holes Q θ (var v a) h = inst-holes Q θ a h
inst-holes Q θ (hol i xs) h = ren-holes Q (nth xs) (θ i) h
inst-holes Q θ nil h = tt
inst-holes Q θ (cons t a) h = (inst-holes Q θ t h.0, inst-holes Q θ a h.1)

module _ (S : ℕ → Option Ty) (D : Sig) (σ : Solutions) (r : ℕ → ℕ) (F : ℕ → Tree) (g : SolTyped S D σ) (w : Ranked r σ) (x : Expansion D σ F) where
  -- no hole of the expansion is solved
  pub expansion_left : (h : ℕ) → Holes (λ i _. σ i ≡ none) (F h)
  expansion_left h = go (suc (r h)) h (omega arith)
    where
      go : (k h : ℕ) → r h < k → Holes (λ i _. σ i ≡ none) (F h)
      go zero h l = absurd (omega arith)
      go (suc k) h l = rw (x h) (case (σ h) refl (λ i z. go k i (omega arith)))
        where
          self : σ h ≡ none → (o : Option (List Ty × ℕ)) → Holes (λ i _. σ i ≡ none) (alone o h)
          self e none = e
          self e (some c) = e

          case : (o : Option Tree) → σ h ≡ o → ((i : ℕ) → r i < r h → Holes (λ j _. σ j ≡ none) (F i)) → Holes (λ i _. σ i ≡ none) (expand_at D F o h)
          case none e ih = self e (D h)
          case (some s) e ih = inst-holes (λ i. σ i ≡ none) F s (Holes-map (λ i _ z. ih i z) s (w h s e))

  -- it is typed
  pub expansion_typed : Fills S D D F
  expansion_typed h C b q = go (suc (r h)) h (omega arith) C b q
    where
      go : (k h : ℕ) → r h < k → FillsAt S D D F h
      go zero h l C b q = absurd (omega arith)
      go (suc k) h l C b q = case (σ h) refl (λ i z. go k i (omega arith))
        where
          case : (o : Option Tree) → σ h ≡ o → ((i : ℕ) → r i < r h → FillsAt S D D F i) → HasTy S D C (F h) (at (base b))
          case none e ih = rw (expansion_alone D σ F x h (C, b) e q) (t_hol q (vars_all C) (upto-distinct 0 (length C)))
          case (some s) e ih =
              let y = g h s e in
              let n = declared_once (sym q ∙ y.2) in
              rw (n.0, n.1, expansion_keeps D σ F x h s e) (inst-typed S D D F y.3 (Holes-map (λ i _ z. ih i z) s (w h s e)))

  -- and every filling that keeps the solutions is an instance of it
  pub expansion_general : (X : Sig) (θ : ℕ → Tree) → Fills S D X θ → Keeps θ σ → (h : ℕ) (c : List Ty × ℕ) → D h ≡ some c → inst θ (F h) ≡ θ h
  expansion_general X θ f u h c q = go (suc (r h)) h (omega arith) c q
    where
      go : (k h : ℕ) → r h < k → (c : List Ty × ℕ) → D h ≡ some c → inst θ (F h) ≡ θ h
      go zero h l c q = absurd (omega arith)
      go (suc k) h l c q = case (σ h) refl (λ i z. go k i (omega arith))
        where
          case : (o : Option Tree) → σ h ≡ o → ((i : ℕ) → r i < r h → (c : List Ty × ℕ) → D i ≡ some c → inst θ (F i) ≡ θ i) → inst θ (F h) ≡ θ h
          case none e ih = ap (inst θ) (expansion_alone D σ F x h c e q) ∙ inst-itself θ (length c.0) h (typed_scoped S X (f h c.0 c.1 q))
          case (some s) e ih =
              let y = typed-holes S D (g h s e).3 in
              ap (inst θ) (expansion_keeps D σ F x h s e)
              ∙ inst-inst θ F s (Holes-map (λ i _ d. fills_suits S D X θ f (F i) (typed-holes S D (expansion_typed i d.0 d.1 d.2))) s y)
              ∙ inst_agree (λ i. inst θ (F i)) θ s
              (Holes-map (λ i _ z. ih i z.0 (z.1.0, z.1.1) z.1.2) s (Holes-both (λ i _. r i < r h) (Declared D) s (w h s e) y))
              ∙ sym (u h s e)
