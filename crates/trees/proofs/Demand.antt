-- Demand 3 for whatever leads on from equations with nothing solved: to no pair, a most general unifier; to a stuck state, no filling.
use Rattle.std.specs.Prelude.{◌≡◌, refl, ℕ, length}
use Rattle.std.proofs.Common.{sym, ◌∙◌, inl, inr}
use mathlib.Core.List.Permᴰ
use mathlib.Core.List.{[], Permᴰ}
use Rattle.std.proofs.Math.Option.{Option, none, none-ne-some}
use Rattle.trees.specs.Tree.{Ty, Tree, lam, con, var, hol, nil, cons, inst, Holes, Occurs, Distinct, Sig, Pairs, Equates, PairsTyped, Fills, Leaves}
use Rattle.trees.specs.Moves.{Solutions, nothing, Keeps, Leads, NoneFrozen, FrozenIn}
use Rattle.trees.specs.Statements.{Expansion, Remains, Principal}
use Rattle.trees.specs.Free.{Scoped}
use Rattle.trees.specs.Filling.{Holes-map, Holes-both}
use Rattle.trees.specs.Narrow.{narrow_unique}
use Rattle.trees.specs.Typing.{Declared, typed_scoped, typed-holes}
use Rattle.trees.specs.Pairs.{each_perm}
use Rattle.trees.specs.Order.{Ranked, stamped_nothing}
use Rattle.trees.proofs.Order.{stamped_ranked}
use Rattle.trees.proofs.Leads.{leads_refl}
use Rattle.trees.proofs.Stuck.{Stuck, stuck_before}
use Rattle.trees.proofs.Expand.{expansion_keeps, expansion_alone, expansion_left, expansion_typed, expansion_general}

-- two fillings with one instance of t agree on the holes of t: a renaming by different arguments is injective
inst_inj : (ρ π : ℕ → Tree) (t : Tree) → Holes (λ g xs. Distinct xs × Scoped (length xs) (ρ g) × Scoped (length xs) (π g)) t
    → inst ρ t ≡ inst π t → Holes (λ g _. ρ g ≡ π g) t
inst_inj ρ π (lam t) w e = inst_inj ρ π t w (cc)
inst_inj ρ π (con c a) w e = inst_inj ρ π a w (cc)
inst_inj ρ π (var v a) w e = inst_inj ρ π a w (cc)
inst_inj ρ π (hol g xs) w e = narrow_unique xs w.0 (ρ g) (π g) w.1 w.2 e
inst_inj ρ π nil w e = tt
inst_inj ρ π (cons t a) w e = (inst_inj ρ π t w.0 (cc), inst_inj ρ π a w.1 (cc))

-- every hole of t occurs in t, and what holds of every hole holds of one that occurs
all_occur : (t : Tree) → Holes (λ g _. Occurs g t) t
all_occur (lam t) = all_occur t
all_occur (con c a) = all_occur a
all_occur (var v a) = all_occur a
all_occur (hol h xs) = refl
all_occur nil = tt
all_occur (cons t a) = (Holes-map (λ _ _ o. inl o) t (all_occur t), Holes-map (λ _ _ o. inr o) a (all_occur a))

at_occurs : (Q : ℕ → Type 0) (g : ℕ) (t : Tree) → Holes (λ h _. Q h) t → Occurs g t → Q g
at_occurs Q g (lam t) h o = at_occurs Q g t h o
at_occurs Q g (con c a) h o = at_occurs Q g a h o
at_occurs Q g (var v a) h o = at_occurs Q g a h o
at_occurs Q g (hol i xs) h o = rw (← o) h
at_occurs Q g nil h o = absurd o
at_occurs Q g (cons t a) h (inl o) = at_occurs Q g t h.0 o
at_occurs Q g (cons t a) h (inr o) = at_occurs Q g a h.1 o

module _ (S : ℕ → Option Ty) (Frozen : ℕ → Type 0) where
  -- the run begins
  pub run-start : (D : Sig) (ps : Pairs) → PairsTyped S D ps → Leads S Frozen D nothing ps D nothing ps
  run-start D ps w = leads_refl S Frozen D nothing ps (λ h s e. absurd (none-ne-some s e), w, stamped_nothing)

  -- SOLVED
  pub run-solved : (D : Sig) (ps : Pairs) (E : Sig) (τ : Solutions) (F : ℕ → Tree) → Leads S Frozen D nothing ps E τ [] → Expansion E τ F
      → Principal S D ps E F
  run-solved D ps E τ F run x = record {
    typed = filled;
    unifies = run.back E F filled keeps tt;
    stable = expansion_general S E τ rank.0 F run.good.0 rank.1 x E F filled keeps;
    factors = λ X θ f e.
        let y = run.forth X θ f (λ h s q. absurd (none-ne-some s q), e) in (
          y.0,
          y.1,
          λ h c q. sym (expansion_general S E τ rank.0 F run.good.0 rank.1 x X y.0 y.1 y.2.0 h c (run.declares h c q) ∙ y.3 h c q),
        );
    unique = λ X θ ρ π f p a b g (h, c, q, o).
        at_occurs (λ i. ρ i ≡ π i) g (F h)
        (inst_inj ρ π (F h)
        (Holes-map
        (λ i xs k. let d = k.1 in (
          d.4,
          rw d.3 (typed_scoped S X (f i (h, c, q, k.0) d.0 d.1 d.2)),
          rw d.3 (typed_scoped S X (p i (h, c, q, k.0) d.0 d.1 d.2)),
        ))
        (F h)
        (Holes-both (λ i _. Occurs i (F h)) (Declared E) (F h) (all_occur (F h)) (typed-holes S E (filled h c.0 c.1 (run.declares h c q)))))
        (sym (a h c q) ∙ b h c q))
        o;
  }
    where
      rank : (r : ℕ → ℕ) × Ranked r τ
      rank = stamped_ranked τ run.good.2

      keeps : Keeps F τ
      keeps = expansion_keeps E τ F x

      filled : Fills S E E F
      filled = expansion_typed S E τ rank.0 F run.good.0 rank.1 x

  -- the holes left are not solved
  pub run-left : (D : Sig) (ps : Pairs) (E : Sig) (τ : Solutions) (F : ℕ → Tree) → Leads S Frozen D nothing ps E τ [] → Expansion E τ F
      → (g : ℕ) → Remains D F g → τ g ≡ none
  run-left D ps E τ F run x g (h, c, q, o) =
      let r = stamped_ranked τ run.good.2 in
      at_occurs (λ i. τ i ≡ none) g (F h) (expansion_left S E τ r.0 F run.good.0 r.1 x h) o

  -- the answer leaves the frozen holes as they are
  pub run-leaves : (D : Sig) (ps : Pairs) (E : Sig) (τ : Solutions) (F : ℕ → Tree) → Leads S Frozen D nothing ps E τ [] → Expansion E τ F → Leaves Frozen D F
  run-leaves D ps E τ F run x h C b z q = expansion_alone E τ F x h (C, b) (run.spares h z refl) (run.declares h (C, b) q)

  -- STUCK: no filling that leaves the frozen holes as they are
  pub run_stuck : (D : Sig) (ps : Pairs) (E : Sig) (τ : Solutions) (qs : Pairs) → FrozenIn Frozen D → Leads S Frozen D nothing ps E τ qs
      → Stuck S Frozen E τ qs → (X : Sig) (θ : ℕ → Tree) → Fills S D X θ → Leaves Frozen D θ → ¬ (Equates θ ps)
  run_stuck D ps E τ qs z run k X θ f l e = stuck_before S Frozen z run k X θ f l (λ h s q. absurd (none-ne-some s q), e)

-- STUCK with nothing frozen: no filling
pub run_none : (S : ℕ → Option Ty) (D : Sig) (ps : Pairs) (E : Sig) (τ : Solutions) (qs : Pairs) → Leads S NoneFrozen D nothing ps E τ qs
    → Stuck S NoneFrozen E τ qs → (X : Sig) (θ : ℕ → Tree) → Fills S D X θ → ¬ (Equates θ ps)
run_none S D ps E τ qs run k X θ f e = run_stuck S NoneFrozen D ps E τ qs (λ h z. absurd z) run k X θ f (λ h C b z _. absurd z) e

-- THE ORDER of the equations does not matter
pub general_perm : (S : ℕ → Option Ty) (D : Sig) (ps qs : Pairs) (E : Sig) (F : ℕ → Tree) → Permᴰ ps qs → Principal S D ps E F
    → Principal S D qs E F
general_perm S D ps qs E F d m = record {
  typed = m.typed;
  unifies = each_perm (λ a b. inst F a ≡ inst F b) d m.unifies;
  stable = m.stable;
  factors = λ X θ f e. m.factors X θ f (each_perm (λ a b. inst θ a ≡ inst θ b) (Permᴰ.symm d) e);
  unique = m.unique;
}
