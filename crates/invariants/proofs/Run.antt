-- The run keeps the invariant, and its fuel suffices.
use Rattle.std.specs.Prelude.{ℕ, zero, suc, ◌<◌, ◌≤◌, List, [], ◌∷◌}
use Rattle.std.proofs.Common.{arith}
use Rattle.rules.specs.Store.{Store}
use Rattle.rules.specs.Machine.{Pair, step, upcoming, run}
use Rattle.invariants.specs.Floor.{Grows}
use Rattle.invariants.specs.Push.{bind_grows}
use Rattle.invariants.specs.Write.{stays}
use Rattle.invariants.specs.Copy.{Nobody}
use Rattle.invariants.specs.Running.{Running, Stepped, ahead}
use Rattle.invariants.proofs.Turn.{step_grows}
use Rattle.invariants.specs.Run.{Any}

pub run_grows : (R C n f : ℕ) (q : List Pair) (home : ℕ → ℕ) (s : Store) → 1 ≤ n → Running R C n home s q → ahead R C s.used q < f → Grows Nobody Any R n home s (run f R C q s)
unfolding run
run_grows R C n zero q home s one h fuel = absurd (omega arith)
run_grows R C n (suc f) [] home s one h fuel = stays Nobody Any R n home s [] (h.fine one) tt
run_grows R C n (suc f) (p ∷ q) home s one h fuel =
    bind_grows Nobody (Stepped R C n s.used p.0 p.1 q) Any R n home s (step R C q p.0 p.1 s) _ (step_grows R C n p.0 p.1 q home s h)
    λ home₁ s₁ next e₁ f₁ p₁. run_grows R C n f (upcoming q next) home₁ s₁ one p₁.running (omega arith)
