-- DEMAND 3 holds of the rules of solving and showing, for every input.
use Rattle.rules.specs.Solve.{solve}
use Rattle.invariants.proofs.Ends.{solve_answers}
use Rattle.promise.specs.Demand.{Demand3, ShowDemand}
use Rattle.promise.proofs.Solving.{solve_means}
use Rattle.promise.proofs.Order.{solve_order}
use Rattle.promise.proofs.Shown.{show_means}

pub demand3 : Demand3 solve
demand3 = record { answered = solve_answers; means = solve_means; order = solve_order }

pub show_demand : ShowDemand
show_demand = show_means
