use Rattle.store.proofs.Writing.{variable_from, variable_to}
use Rattle.store.proofs.variable.Goals as goal

pub returns-then-froms : goal.returns-then-froms
returns-then-froms c = search variable_from

pub returns : goal.returns
returns c = search variable_to
