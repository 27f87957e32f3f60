-- The records passed have known marks, and their tags are noted.
use Rattle.std.proofs.Common.{◌≡◌, ◌≤◌, not}
use Rattle.rules.specs.Lists.{lowest}
use Rattle.rules.specs.File.{marked, is_known}
use Rattle.laws.specs.Search.{ahead}
use Rattle.file.specs.Writing.{Noted}
use Rattle.file.proofs.lowest_unknown.Given as goal

abbrev pub invariant-loop-r : goal.invariant-loop-r
invariant-loop-r l = (l.r ≤ l.n) × (lowest l.n (λ j. not (is_known (marked l.file j))) ≡ ahead l.n (λ j. not (is_known (marked l.file j))) l.r) × Noted l.file l.tags l.r
