use Rattle.store.specs.SaidLaws.{failure_passed}
use Rattle.store.proofs.Writing.{occurrence_stops, occurrence_goes}
use Rattle.store.proofs.push_occurrence.Goals as goal

pub returns-in_err-xs : goal.returns-in_err-xs
returns-in_err-xs c = search (occurrence_stops, c.in_err-xs.was, failure_passed)

pub returns : goal.returns
returns c = search (occurrence_goes, c.in_ok-xs.was)
