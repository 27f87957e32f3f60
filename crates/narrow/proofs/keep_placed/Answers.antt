use Rattle.store.specs.SaidLaws.{failure_passed}
use Rattle.narrow.proofs.Narrowing.{keep_all, keep_stops, keep_some}
use Rattle.narrow.proofs.keep_placed.Goals as goal

pub returns-then-all_placed : goal.returns-then-all_placed
returns-then-all_placed c = search keep_all

pub returns-in_err-new : goal.returns-in_err-new
returns-in_err-new c = search (keep_stops, c.in_err-new.was, failure_passed)

pub returns : goal.returns
returns c = search (keep_some, c.in_ok-new.was)
