use Rattle.step.proofs.Expanding.{head_hole, head_other, heading_held}
use Rattle.step.proofs.head_solution.Goals as goal

pub solution_of-requires : goal.solution_of-requires
solution_of-requires c = search heading_held

pub returns-then-rec-ne-HA : goal.returns-then-rec-ne-HA
returns-then-rec-ne-HA c = search head_other

pub returns : goal.returns
returns c = search head_hole
