use Rattle.rules.specs.Answers.{number}
use Rattle.machine.proofs.number_of.Goals as goal

pub returns-in-Clash : goal.returns-in-Clash
unfolding number
returns-in-Clash c = rw c.in-Clash.is

pub returns-in-Escape : goal.returns-in-Escape
unfolding number
returns-in-Escape c = rw c.in-Escape.is

pub returns-in-Occurs : goal.returns-in-Occurs
unfolding number
returns-in-Occurs c = rw c.in-Occurs.is

pub returns-in-QueueFull : goal.returns-in-QueueFull
unfolding number
returns-in-QueueFull c = rw c.in-QueueFull.is

pub returns-in-TableFull : goal.returns-in-TableFull
unfolding number
returns-in-TableFull c = rw c.in-TableFull.is
