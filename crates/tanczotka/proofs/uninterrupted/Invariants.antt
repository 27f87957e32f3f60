-- The calls that are left may be made, and keep to each bound of all calls.
use Rattle.std.proofs.Common.{ℕ, ◌≤◌, IfOk}
use Rattle.std.specs.Fn.{AlwaysReturns}
use Rattle.tanczotka.proofs.uninterrupted.Given as goal

abbrev pub invariant-loop : goal.invariant-loop
invariant-loop g l =
    goal.F-IsAlwaysCallable g l.call
    × ((most : ℕ) → AlwaysReturns g.F.FnMut (λ _ moved. IfOk moved (λ count. count ≤ most)) l.fn.call
    → AlwaysReturns g.F.FnMut (λ _ moved. IfOk moved (λ count. count ≤ most)) l.call)
