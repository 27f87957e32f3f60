use Rattle.store.specs.SaidLaws.{failure_passed}
use Rattle.walk.proofs.Assigning.{assign-read, assign-counts, assign_walks, assign_held, assign_stops, assigned}
use Rattle.walk.proofs.assign.Goals as goal

pub read-occ-requires : goal.read-occ-requires
read-occ-requires c = search assign-read

pub arguments-map-requires : goal.arguments-map-requires
arguments-map-requires c = search assign-counts

pub walk_term-requires : goal.walk_term-requires
walk_term-requires c = search assign_walks

pub returns-in_err-written : goal.returns-in_err-written
returns-in_err-written c = search (assign_stops, c.in_err-written.was, failure_passed)

pub bounds-solutions-hole : goal.bounds-solutions-hole
bounds-solutions-hole c = search assign_held

pub returns : goal.returns
returns c = search (assigned, c.in_ok-written.was)
