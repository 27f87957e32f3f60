-- Typing is kept by typed fillings.
use Rattle.std.specs.Prelude.{List, ℕ}
use Rattle.std.proofs.Math.Option.{Option}
use Rattle.trees.specs.Tree.{Ty, Tree, nth, inst, Holes, Sig, Kind, HasTy, t_lam, t_con, t_var, t_hol, t_nil, t_cons, FillsAt}
use Rattle.trees.specs.Typing.{vars_embed, ren-typed}

module _ (S : ℕ → Option Ty) where
  pub inst-typed : (D X : Sig) (θ : ℕ → Tree) {G : List Ty} {t : Tree} {k : Kind} → HasTy S D G t k → Holes (λ h _. FillsAt S D X θ h) t
      → HasTy S X G (inst θ t) k
  inst-typed D X θ (t_lam d) w = t_lam (inst-typed D X θ d w)
  inst-typed D X θ (t_con e d) w = t_con e (inst-typed D X θ d w)
  inst-typed D X θ (t_var e d) w = t_var e (inst-typed D X θ d w)
  inst-typed D X θ (t_hol {xs = xs} {C} {b} e v d) w = ren-typed S X (nth xs) (vars_embed v d) (w C b e)
  inst-typed D X θ t_nil w = t_nil
  inst-typed D X θ (t_cons d e) w = t_cons (inst-typed D X θ d w.0) (inst-typed D X θ e w.1)
