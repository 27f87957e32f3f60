-- Where no record is given, the machine has nothing to do.
use Rattle.std.specs.Prelude.{ℕ, zero, suc, ◌+◌, ◌<◌, ◌≤◌, ◌≡◌, refl, []}
use Rattle.std.proofs.Common.{arith, mul-pos, le-leb}
use Rattle.rules.specs.Lists.{those, from, below}
use Rattle.rules.specs.Store.{Store, goes, ◌>>=◌}
use Rattle.rules.specs.Machine.{join, run, steps, equations, machine}

steps_some : (R C : ℕ) → 0 < steps R C
unfolding steps
steps_some R C = mul-pos (omega arith) (omega arith)

run_none : (R C f : ℕ) (s : Store) → 0 < f → run f R C [] s ≡ goes s []
unfolding run
run_none R C zero s h = absurd (omega arith)
run_none R C (suc f) s h = refl

pub machine_none : (R C : ℕ) (s : Store) → machine R C 0 s ≡ goes s []
unfolding machine join ◌>>=◌ equations those below from
machine_none R C s =
    let le : 0 + 0 ≤ C = omega arith in
    rw (le-leb _ _ le, join) (run_none R C (steps R C) s (steps_some R C))
