use Rattle.step.proofs.Choosing.{meets_bodies, meets_same, meets_arguments, meets_left, meets_right, meets_clash}
use Rattle.step.proofs.meets.Goals as goal

pub returns-then-two-eq-LA : goal.returns-then-two-eq-LA
returns-then-two-eq-LA c = search meets_bodies

pub returns-then-one-eq-HA : goal.returns-then-one-eq-HA
returns-then-one-eq-HA c = search meets_same

pub returns-then-one-two-2 : goal.returns-then-one-two-2
returns-then-one-two-2 c = search meets_arguments

pub returns-then-one-eq-HA-2 : goal.returns-then-one-eq-HA-2
returns-then-one-eq-HA-2 c = search meets_left

pub returns-then-two-eq-HA : goal.returns-then-two-eq-HA
returns-then-two-eq-HA c = search meets_right

pub returns : goal.returns
returns c = search meets_clash
