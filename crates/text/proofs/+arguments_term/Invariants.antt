-- The record numbers fall.
use Rattle.std.proofs.Common.{◌+◌}
use Rattle.laws.specs.Lists.{size}
use Rattle.text.proofs.+arguments_term.Given as goal

abbrev pub decreases-arguments : goal.decreases-arguments
decreases-arguments l = size l.list

abbrev pub decreases-term : goal.decreases-term
decreases-term l = l.r + 1
