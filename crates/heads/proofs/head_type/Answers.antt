use Rattle.heads.specs.HeadsLaws.{head_variable, head_constant}
use Rattle.heads.proofs.head_type.Goals as goal

pub returns-then-x-eq-VA : goal.returns-then-x-eq-VA
returns-then-x-eq-VA c = search head_variable

pub read-constant-requires : goal.read-constant-requires
read-constant-requires c = c.requires.1 c.if-x-eq-VA.false

pub returns : goal.returns
returns c = search head_constant
