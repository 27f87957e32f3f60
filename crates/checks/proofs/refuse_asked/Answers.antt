use mathlib.Core.Path.{◌≡◌}
use mathlib.Core.Bool.{true}
use Rattle.checks.specs.Refusing.{asks}
use Rattle.checks.proofs.Refusals.{asks-solving, asks_hole, asking_none, asking_typed}
use Rattle.checks.proofs.refuse_asked.Goals as goal
use Rattle.checks.proofs.refuse_asked.Goals.{in_default-via-in-Some+else-not-is_hole, in_default-via-in_default}

pub returns-in-Some : goal.returns-in-Some
returns-in-Some c = search asking_none

pub returns-in_default : goal.returns-in_default
returns-in_default c =
    let can : asks c.args.asked c.args.table.now c.args.n ≡ true = elim c.in_default.branch [
      | in_default-via-in-Some+else-not-is_hole w ↦ search asks_hole
      | in_default-via-in_default w ↦ search asks-solving
    ] in
    search asking_typed
