use Rattle.store.specs.SaidLaws.{failure_passed}
use Rattle.narrow.proofs.Narrowing.{context_stops, hole_stops, solution_stops, narrow_goes}
use Rattle.narrow.proofs.narrow.Goals as goal

pub returns-in_err-cells : goal.returns-in_err-cells
returns-in_err-cells c = search (context_stops, c.in_err-cells.was, failure_passed)

pub returns-in_err-written : goal.returns-in_err-written
returns-in_err-written c = search (hole_stops, c.in_ok-cells.was, c.in_err-written.was, failure_passed)

pub returns-in_err-applied : goal.returns-in_err-applied
returns-in_err-applied c = search (solution_stops, c.in_ok-cells.was, c.in_ok-written.was, c.in_err-applied.was, failure_passed)

pub returns : goal.returns
returns c = search (narrow_goes, c.in_ok-cells.was, c.in_ok-written.was, c.in_ok-applied.was)
