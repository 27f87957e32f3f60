use Prim.Native.Nat.{suc}
use mathlib.Core.Path.{◌≡◌}
use Rattle.laws.specs.Lists.{size}
use Rattle.invariants.specs.Rise.{reach}
use Rattle.show.proofs.Shows.{Gives}
use Rattle.show.specs.Ready.{ReadyTerm}
use Rattle.rewrite.specs.BelowLaws.{Below}
use Rattle.show.proofs.Each.{Turn}
use Prim.Native.Nat.{◌+◌, ◌*◌}
use Rattle.show.proofs.+show_args_show_body_show_hole_show_term.Given as goal

abbrev pub decreases-show_args : goal.decreases-show_args
decreases-show_args l = 2 * reach 4096 l.task.floor (size l.list)

abbrev pub decreases-show_body : goal.decreases-show_body
decreases-show_body l = 2 * reach 4096 l.task.floor (suc l.at)

abbrev pub decreases-show_hole : goal.decreases-show_hole
decreases-show_hole l = 2 * reach 4096 l.task.floor 4097

abbrev pub decreases-show_term : goal.decreases-show_term
decreases-show_term l = 2 * reach 4096 l.task.floor (suc l.at) + 1

abbrev pub invariant-show_args-loop-argument : goal.invariant-show_args-loop-argument
invariant-show_args-loop-argument l =
    goal.iterator-show_args-loop-argument.can_next l.argument-iterator × goal.iterator-show_args-loop-argument.is_finite l.argument-iterator
    × (l.argument-iterator.table.now ≡ l.table)
    × Turn l.task.room l.map l.table l.solutions l.initial.output l.used l.task.floor l.depth l.list l.output l.noted.items l.taken l.argument-iterator.list

abbrev pub invariant-show_term-loop-rec : goal.invariant-show_term-loop-rec
invariant-show_term-loop-rec l = Below (ReadyTerm l.task.room l.map l.table l.solutions l.output l.task.floor) (λ s. Gives l.task.room l.map l.table s l.output l.used l.task.floor) l.task.room l.table l.output l.depth l.at l.inner l.term l.rec

abbrev pub decreases-show_term-loop-rec : goal.decreases-show_term-loop-rec
decreases-show_term-loop-rec l = l.term
