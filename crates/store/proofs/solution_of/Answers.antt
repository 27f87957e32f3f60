use Rattle.store.specs.SolutionsLaws.{unsolved_in, solved_in}
use Rattle.store.proofs.solution_of.Goals as goal

pub returns-then-t : goal.returns-then-t
returns-then-t c = search unsolved_in

pub returns : goal.returns
returns c = search solved_in
