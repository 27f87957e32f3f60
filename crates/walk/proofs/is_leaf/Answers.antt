use Rattle.walk.proofs.Head.{leaf_applied, leaf_constant, leaf_variable}
use Rattle.walk.proofs.is_leaf.Goals as goal

pub returns-then-rec-eq-CA : goal.returns-then-rec-eq-CA
returns-then-rec-eq-CA c = search leaf_constant

pub returns-else-rec-eq-CA : goal.returns-else-rec-eq-CA
returns-else-rec-eq-CA c = search leaf_variable

pub returns-else-rec-eq-NONE : goal.returns-else-rec-eq-NONE
returns-else-rec-eq-NONE c = search leaf_applied
