use Prim.Native.Nat.{suc, ◌+◌, ◌*◌}
use Rattle.laws.specs.Lists.{size}
use Rattle.invariants.specs.Rise.{reach}
use Rattle.rewrite.specs.BelowLaws.{Below}
use Rattle.walk.proofs.Walks.{Gives}
use Rattle.walk.specs.Ready.{ReadyTerm}
use Rattle.walk.proofs.Each.{Turn}
use Rattle.walk.proofs.+walk_args_walk_argument_walk_body_walk_hole_walk_term.Given as goal

abbrev pub decreases-walk_args : goal.decreases-walk_args
decreases-walk_args l = 3 * reach l.walk.now.part.room l.walk.now.floor (size l.list)

abbrev pub decreases-walk_argument : goal.decreases-walk_argument
decreases-walk_argument l = 3 * reach l.walk.now.part.room l.walk.now.floor (suc l.at) + 2

abbrev pub decreases-walk_body : goal.decreases-walk_body
decreases-walk_body l = 3 * reach l.walk.now.part.room l.walk.now.floor (suc l.at)

abbrev pub decreases-walk_hole : goal.decreases-walk_hole
decreases-walk_hole l = 3 * reach l.walk.now.part.room l.walk.now.floor l.at

abbrev pub decreases-walk_term : goal.decreases-walk_term
decreases-walk_term l = 3 * reach l.walk.now.part.room l.walk.now.floor (suc l.at) + 1

abbrev pub invariant-walk_args-loop-left : goal.invariant-walk_args-loop-left
invariant-walk_args-loop-left l = Turn l.walk.part.room l.walk.part.n l.walk.hole l.map l.initial.table l.initial.solutions l.used l.walk.floor l.depth l.list l.table l.solutions l.noted.items l.taken l.left

abbrev pub decreases-walk_args-loop-left : goal.decreases-walk_args-loop-left
decreases-walk_args-loop-left l = size l.left

abbrev pub invariant-walk_term-loop-rec : goal.invariant-walk_term-loop-rec
invariant-walk_term-loop-rec l = Below (ReadyTerm l.walk.part.room l.walk.part.n l.walk.hole l.map l.table l.solutions l.used l.walk.floor) (λ s. Gives l.walk.part.room l.walk.hole l.map l.table s l.used l.walk.floor) l.walk.part.room l.table l.table l.depth l.at l.inner l.term l.rec

abbrev pub decreases-walk_term-loop-rec : goal.decreases-walk_term-loop-rec
decreases-walk_term-loop-rec l = l.term
