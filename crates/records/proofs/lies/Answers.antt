use Rattle.records.proofs.Judging.{lies_low, lies_high}
use Rattle.records.proofs.lies.Goals as goal

pub returns-then-low-m : goal.returns-then-low-m
returns-then-low-m c = search lies_high

pub returns-else-low-m : goal.returns-else-low-m
returns-else-low-m c = search lies_low
