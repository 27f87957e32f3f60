-- The letter goes by the tag.
use Rattle.text.proofs.Printed.{letter_constant, letter_variable, letter_hole}
use Rattle.std.proofs.Common.{arith}
use Rattle.text.proofs.letter.Goals as goal

pub returns-in-7 : goal.returns-in-7
returns-in-7 c = letter_constant _ c.in-7.is

pub returns-in-8 : goal.returns-in-8
returns-in-8 c = letter_variable _ c.in-8.is

pub returns-in_default : goal.returns-in_default
returns-in_default c = letter_hole _ (λ e. omega arith) (λ e. omega arith)
