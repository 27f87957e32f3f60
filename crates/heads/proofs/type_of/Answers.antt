use mathlib.Core.Path.{◌∙◌}
use Rattle.heads.proofs.Stack.{type-above, type_at}
use Rattle.heads.proofs.type_of.Goals as goal

pub returns-in_err-at : goal.returns-in_err-at
returns-in_err-at c = c.from_residual.ensures ∙ type-above _ _ _ c.in_err-at.ensures

pub returns : goal.returns
returns c = let found = c.in_ok-at.ensures in type_at _ _ _ _ found.0 found.1
