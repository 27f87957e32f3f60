-- The machine on an admitted input keeps the invariant, and its fuel suffices.
use Rattle.std.specs.Prelude.{ℕ, zero, suc, ◌+◌, ◌<◌, ◌≤◌, ◌≡◌, refl, List, [], Bool, true, false, length, leb}
use Rattle.std.proofs.Common.{arith, mul-pos, leb-true, le-leb}
use Rattle.rules.specs.Lists.{those, from, below}
use Rattle.rules.specs.Answers.{records}
use Rattle.rules.specs.Store.{Store, Out, goes, fails, spent, fail, ◌>>=◌}
use Rattle.rules.specs.Machine.{Pair, join, run, steps, equations, machine}
use Rattle.rules.specs.Solve.{start}
use Rattle.invariants.specs.Floor.{Grows}
use Rattle.invariants.specs.Outside.{fine_stopped}
use Rattle.invariants.specs.Copy.{Nobody}
use Rattle.invariants.proofs.Falls.{steps-more}
use Rattle.invariants.proofs.Turn.{lefts_low}
use Rattle.invariants.specs.Run.{Any}
use Rattle.invariants.proofs.Run.{run_grows}
use Rattle.invariants.specs.Start.{start_fine, start_running}
use Rattle.invariants.specs.Admit.{Admitted}
use Rattle.invariants.specs.Machine.{Ended}

-- some records are given
pub machine_grows : (asked : Bool) (ws ss : List ℕ) (n C : ℕ) → Admitted asked ws ss n → 1 ≤ n → Grows Nobody Any (records ws) n (λ i. 0) (start ws ss n) (machine (records ws) C n (start ws ss n))
unfolding machine join fail ◌>>=◌
machine_grows asked ws ss n C a some = go (leb (0 + length q) C) refl
  where
    q : List Pair
    q = equations (start ws ss n).words n

    go : (b : Bool) → leb (0 + length q) C ≡ b → Grows Nobody Any (records ws) n (λ i. 0) (start ws ss n) (machine (records ws) C n (start ws ss n))
    go false e = rw (e, join) (fine_stopped (records ws) n (λ i. 0) (start ws ss n) (start_fine ws ss n a.sound a.in_table a.held some))
    go true e =
        let le : 0 + length q ≤ C = leb-true _ _ e in
        let h = start_running ws ss n a.sound a.in_table a.held C (omega arith) in
        rw (e, join) (run_grows (records ws) C n (steps (records ws) C) q (λ i. 0) (start ws ss n) some h (steps-more (records ws) C (start ws ss n).used q h.few (lefts_low (records ws) C n (λ i. 0) (start ws ss n) q h)))

grows_ended : {A : Type 0} (barred : ℕ → Type 0) (Q : (ℕ → ℕ) → Store → A → Type 0) (R n : ℕ) (home : ℕ → ℕ) (s : Store) (o : Out A) → Grows barred Q R n home s o → Ended o
grows_ended barred Q R n home s (goes s₁ x) g = tt
grows_ended barred Q R n home s (fails ws ss e) g = tt
grows_ended barred Q R n home s spent g = g

steps_some : (R C : ℕ) → 0 < steps R C
unfolding steps
steps_some R C = mul-pos (omega arith) (omega arith)

-- no record is given: there is no equation
run_none : (R C f : ℕ) (s : Store) → 0 < f → Ended (run f R C [] s)
unfolding run
run_none R C zero s h = absurd (omega arith)
run_none R C (suc f) s h = tt

none_ended : (R C : ℕ) (s : Store) → Ended (machine R C 0 s)
unfolding machine join fail ◌>>=◌ equations those below from
none_ended R C s =
    let le : 0 + 0 ≤ C = omega arith in
    rw (le-leb _ _ le, join) (run_none R C (steps R C) s (steps_some R C))

pub machine-ended : (asked : Bool) (ws ss : List ℕ) (n C : ℕ) → Admitted asked ws ss n → Ended (machine (records ws) C n (start ws ss n))
machine-ended asked ws ss zero C a = none_ended (records ws) C (start ws ss zero)
machine-ended asked ws ss (suc n) C a =
    grows_ended Nobody Any (records ws) (suc n) (λ i. 0) (start ws ss (suc n)) (machine (records ws) C (suc n) (start ws ss (suc n))) (machine_grows asked ws ss (suc n) C a (omega arith))
