use Rattle.checks.proofs.Refusals.{refusing_case}
use Rattle.checks.proofs.refusing.Goals as goal

pub returns-in-NoRoom : goal.returns-in-NoRoom
returns-in-NoRoom c = search refusing_case

pub returns-in-Broken : goal.returns-in-Broken
returns-in-Broken c = search refusing_case

pub returns-in-NoHole : goal.returns-in-NoHole
returns-in-NoHole c = search refusing_case

pub returns-in-IllTyped : goal.returns-in-IllTyped
returns-in-IllTyped c = search refusing_case

pub returns-in-NoPattern : goal.returns-in-NoPattern
returns-in-NoPattern c = search refusing_case
