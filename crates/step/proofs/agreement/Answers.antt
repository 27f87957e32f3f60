use Rattle.step.proofs.Same.{compares, agreed}
use Rattle.step.proofs.agreement.Goals as goal

pub agreeing-requires : goal.agreeing-requires
agreeing-requires c = search compares

pub returns : goal.returns
returns c = search agreed
