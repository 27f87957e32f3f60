-- Fillings compose, where what fills each hole is in the scope of the hole's arguments.
use Rattle.std.specs.Prelude.{◌≡◌, refl, ℕ}
use Rattle.std.proofs.Common.{ap, ap₂}
use Rattle.trees.specs.Tree.{Tree, lam, con, var, hol, nil, cons, nth, inst, Holes}
use Rattle.trees.specs.Filling.{Suits, inst-ren}

-- composition
pub inst-inst : (ρ θ : ℕ → Tree) (t : Tree) → Holes (λ h _. Suits ρ (θ h)) t → inst ρ (inst θ t) ≡ inst (λ h. inst ρ (θ h)) t
inst-inst ρ θ (lam t) w = ap lam (inst-inst ρ θ t w)
inst-inst ρ θ (con c a) w = ap (con c) (inst-inst ρ θ a w)
inst-inst ρ θ (var v a) w = ap (var v) (inst-inst ρ θ a w)
inst-inst ρ θ (hol i xs) w = inst-ren ρ (nth xs) (θ i) w
inst-inst ρ θ nil w = refl
inst-inst ρ θ (cons t a) w = ap₂ cons (inst-inst ρ θ t w.0) (inst-inst ρ θ a w.1)
