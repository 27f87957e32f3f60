use Rattle.walk.proofs.Solution.{copying_read, copying_counts, copying_ready, solution_copied}
use Rattle.walk.proofs.copy_solution.Goals as goal

pub read-occ-requires : goal.read-occ-requires
read-occ-requires c = search copying_read

pub arguments-map-requires : goal.arguments-map-requires
arguments-map-requires c = search copying_counts

pub walk_term-requires : goal.walk_term-requires
walk_term-requires c = search copying_ready

pub returns : goal.returns
returns c = search solution_copied
