-- How high an occurrence's arguments lead.
use Rattle.std.specs.Prelude.{ℕ, suc, ◌+◌, ◌≤◌, List}
use Rattle.std.proofs.Common.{arith}
use Rattle.rules.specs.Words.{variables}
use Rattle.rules.specs.Map.{to_variables}
use Rattle.invariants.specs.Floor.{limit}
use Rattle.invariants.specs.Places.{Low, variables_low}
use Rattle.invariants.specs.Copy.{occurrence_low}
use Rattle.store.specs.Said.{store}
use Rattle.walk.specs.Solution.{Copying}

module _ {R n : ℕ} {ws ss : List ℕ} {used r t : ℕ} (h : Copying R n ws ss used r t) where
  -- the arguments name low variables
  pub names_low : Low (to_variables 0 (variables ws r)) (limit r)
  names_low = variables_low 0 (limit r) (variables ws r) (occurrence_low R n h.home (store ws ss used) r h.fine h.at.below h.nine)

  pub names_fit : limit r + 0 + suc t ≤ limit used
  names_fit = let a = h.at.below in let b = h.is.below in let w = h.fine.within in let f = h.fine.few in omega arith
