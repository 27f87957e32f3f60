use mathlib.Core.Path.{sym, ◌∙◌}
use Rattle.records.proofs.Earlier.{equals-tag, equals-a}
use Rattle.records.proofs.equal.Goals as goal

pub returns-then-y-x : goal.returns-then-y-x
returns-then-y-x c = equals-a _ _ _ (sym c.read-y.ensures.tag_is ∙ c.if-y-x.true) _ c.read-y.ensures.a_is

pub returns-else-y-x : goal.returns-else-y-x
returns-else-y-x c = search equals-tag
