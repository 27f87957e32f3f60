-- Answers of a step.
use Prim.Native.Nat.{ℕ}
use mathlib.Core.Path.{◌≡◌, refl, subst}
use mathlib.Core.List.{List}
use native.Mathlib.Omega.{arith}
use Rattle.std.specs.Prelude.{Ok, Err}
use Rattle.rules.specs.declared.Failure.{Failure}
use Rattle.queue.specs.declared.Pair.{Pair}
use Rattle.queue.specs.declared.Ring.{Ring}
use Rattle.step.specs.declared.Step.TheVariants.{On, Done}
use Rattle.queue.specs.Ring.{Fine}
use Rattle.step.specs.Said.{Rings}

module _ (cap : ℕ) (q : List ℕ) where
  pub failed_rings : (q₁ : List ℕ) (e : Failure) → Rings cap q q₁ (Err e)
  failed_rings q₁ e =
      record {
        fine = λ g u p. let z : ◌≡◌ {A = ℕ} 0 1 = cc in absurd (omega arith);
        same = λ g u p. let z : ◌≡◌ {A = ℕ} 0 1 = cc in absurd (omega arith);
        still = λ v u p. let z : ◌≡◌ {A = ℕ} 0 1 = cc in absurd (omega arith);
      }

  pub done_rings : (q₁ : List ℕ) (g : Ring) (u : ℕ) → Fine q₁ g → g.cap ≡ cap → Rings cap q q₁ (Ok (Done g u))
  done_rings q₁ g u f c =
      record {
        fine = λ g₁ u₁ e. let z : g ≡ g₁ = cc in subst (λ g₁. Fine q₁ g₁) z f;
        same = λ g₁ u₁ e. let z : g ≡ g₁ = cc in subst (λ g₁. g₁.cap ≡ cap) z c;
        still = λ v u₁ e. let z : ◌≡◌ {A = ℕ} 0 1 = cc in absurd (omega arith);
      }

  pub on_rings : (p : Pair) (u : ℕ) → Rings cap q q (Ok (On p u))
  on_rings p u =
      record {
        fine = λ g v e. let z : ◌≡◌ {A = ℕ} 0 1 = cc in absurd (omega arith);
        same = λ g v e. let z : ◌≡◌ {A = ℕ} 0 1 = cc in absurd (omega arith);
        still = λ p₁ v e. refl;
      }
