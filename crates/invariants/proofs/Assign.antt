-- Solving a hole (step 5) keeps the invariant.
use Rattle.std.specs.Prelude.{ℕ, ◌<◌, ◌≤◌, ◌≡◌, refl, List, length}
use Rattle.std.proofs.Common.{arith, le_refl}
use Rattle.rules.specs.Lists.{enough}
use Rattle.rules.specs.Words.{tag, field_a, field_b, elements, variables, HA}
use Rattle.rules.specs.Store.{Store, settle}
use Rattle.rules.specs.Map.{to_positions}
use Rattle.rules.specs.Walk.{walk, assign}
use Rattle.invariants.specs.Forms.{variables_few}
use Rattle.invariants.specs.Floor.{Sub, Fine, Grows, Rooted}
use Rattle.invariants.specs.Outside.{set-outside}
use Rattle.invariants.specs.Push.{bind_grows}
use Rattle.invariants.proofs.Narrow.{settled_fine}
use Rattle.invariants.specs.Places.{Low, positions_low}
use Rattle.invariants.proofs.Keep.{kept}

-- the map at the start leads to positions below 16
pub start_low : (ws : List ℕ) (l : ℕ) → length (elements ws (field_b ws l)) ≤ 16 → Low (to_positions 0 (variables ws l)) 16
start_low ws l few = let c = variables_few ws l few in positions_low 0 16 (variables ws l) (omega arith)

pub assign_grows : (R n l r : ℕ) (home : ℕ → ℕ) (s : Store) → Fine R n home s → l < s.used → tag s.words l ≡ HA → Sub s.words home 0 s.used r
    → Grows (λ v. v ≡ field_a s.words l) (Rooted s.used) R n home s (assign R l r s)
unfolding assign settle
assign_grows R n l r home s f lt nine sub =
    let rule = f.good l lt in
    let lo = (rule.occ nine).below in
    let u = field_a s.words l in
    let wi = f.within in
    let fe = f.few in
    let su = sub.below in
    bind_grows (λ v. v ≡ u) (Rooted s.used) (Rooted s.used) R n home s (walk enough R u (to_positions 0 (variables s.words l)) 0 r s) _
    (kept R n u s.used 0 16 enough (to_positions 0 (variables s.words l)) 0 r s home f (le_refl _) (omega arith) sub (start_low s.words l (rule.few (omega arith) (omega arith))) (omega arith) (omega arith))
    λ home₁ s₁ t e₁ f₁ p₁.
    let g₁ = e₁.grown in
    record {
      home₁ = home₁;
      ext = record { grown = le_refl _; kept = λ i k. refl; labels = λ i k. refl; none = λ q a b. absurd (omega arith) };
      outside = let w = f₁.within in set-outside R n s₁ u t (omega arith);
      fine = settled_fine R n s.used home₁ s₁ u t f₁ (omega arith) f.since p₁ (λ q a b i z. e₁.none q a b i z);
      root = record { below = p₁.below; term = p₁.term; up = p₁.up };
    }
