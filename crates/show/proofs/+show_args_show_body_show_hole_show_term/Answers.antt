use native.Mathlib.Omega.{arith}
use mathlib.Core.Path.{◌≡◌}
use borrow.Author.Rules.{rules}
use mathlib.Core.Bool.{false}
use Rattle.places.specs.Maps.{map_of}
use Rattle.rewrite.specs.LevelsLaws.{Headed, head-named}
use Rattle.show.proofs.Shows.{show_leaf, hole_written}
use Rattle.show.proofs.Ready.{to_read, to_above, to_push, to_then, to_names, fall_hole, to_hole, shows-occurrence, to_name, head-kept, fall_args, to_args, shows_stops, shows_rigid, to_solution, fall_solution, to_term, shows-solution}
use Rattle.rewrite.specs.BelowLaws.{below-first, below-depth, below_less, below-read, below_next, below_plain, below_then}
use Rattle.show.proofs.Below.{opens, below_stops, below_ends}
use Rattle.store.specs.SaidLaws.{failure_passed}
use Rattle.rewrite.specs.EachLaws.{turn_first, turn_asks, turn_ends}
use Rattle.show.proofs.Each.{splits, list_listed, turn_falls, turn_head, turn_room, turn_stops, turn_next}
use Rattle.show.proofs.+show_args_show_body_show_hole_show_term.Goals as goal
use Rattle.show.proofs.+show_args_show_body_show_hole_show_term.Goals.{show_body-then-rec-eq-VA, show_body-else-rec-eq-VA}

pub show_args-loop-argument-init : goal.show_args-loop-argument-init
show_args-loop-argument-init t c =
    let listed = list_listed c.requires in
    let first : c.into_iter-argument-iterator.result.list ≡ c.args.list = search rules in
    (search rules, search rules, search rules, rw (first, c.new-noted.ensures) (search (turn_first, splits)))

pub show_args-show_term-requires : goal.show_args-show_term-requires
show_args-show_term-requires t c = let steps = c.in-Some.ensures.steps in (search turn_falls, search turn_head)

pub show_args-returns-in_err-shown : goal.show_args-returns-in_err-shown
show_args-returns-in_err-shown t c = let steps = c.in-Some.ensures.steps in search (turn_stops, c.in_err-shown.was, failure_passed)

pub show_args-push-requires : goal.show_args-push-requires
show_args-push-requires t c = let steps = c.in-Some.ensures.steps in (omega arith, search turn_room)

pub show_args-loop-argument-preserved : goal.show_args-loop-argument-preserved
show_args-loop-argument-preserved t c =
    let steps = c.in-Some.ensures.steps in
    let goes = c.in-Some.ensures.goes in
    (search rules, search rules, search rules, search (turn_next, c.in_ok-shown.was))

pub show_args-push_cells-requires : goal.show_args-push_cells-requires
show_args-push_cells-requires t c = search turn_asks

pub show_args-returns : goal.show_args-returns
show_args-returns t c =
    let none = c.in-None.ensures.steps in
    let p = rw c.deref.ensures.0 at c.push_cells.ensures in
    search turn_ends

pub show_body-read-rec-requires : goal.show_body-read-rec-requires
show_body-read-rec-requires t c = search to_read

pub show_body-renamings-next-requires : goal.show_body-renamings-next-requires
show_body-renamings-next-requires t c = search to_names

pub show_body-overflow_add-below : goal.show_body-overflow_add-below
show_body-overflow_add-below t c = search to_above

pub show_body-show_hole-requires : goal.show_body-show_hole-requires
show_body-show_hole-requires t c = (search fall_hole, search to_hole)

pub show_body-returns-then-rec-eq-HA : goal.show_body-returns-then-rec-eq-HA
show_body-returns-then-rec-eq-HA t c = search shows-occurrence

pub show_body-renamed-requires : goal.show_body-renamed-requires
show_body-renamed-requires t c = search to_name

pub show_body-push-requires : goal.show_body-push-requires
show_body-push-requires t c = (search to_push, search rules)

pub show_body-returns-then-rec : goal.show_body-returns-then-rec
show_body-returns-then-rec t c =
    let named : Headed (map_of false c.args.map) c.args.depth c.read-rec.result c.if-rec-eq-VA.head =
    elim c.if-rec-eq-VA.branch [ show_body-then-rec-eq-VA w ↦ search head-named | show_body-else-rec-eq-VA w ↦ search head-kept ] in
    search show_leaf

pub show_body-show_args-requires : goal.show_body-show_args-requires
show_body-show_args-requires t c = (search fall_args, search to_args)

pub show_body-returns : goal.show_body-returns
show_body-returns t c =
    let named : Headed (map_of false c.args.map) c.args.depth c.read-rec.result c.if-rec-eq-VA.head =
    elim c.if-rec-eq-VA.branch [ show_body-then-rec-eq-VA w ↦ search head-named | show_body-else-rec-eq-VA w ↦ search head-kept ] in
    search (shows_rigid, c.in_ok-args.was)

pub show_hole-solution_of-requires : goal.show_hole-solution_of-requires
show_hole-solution_of-requires t c = search to_solution

pub show_hole-push_occurrence-requires : goal.show_hole-push_occurrence-requires
show_hole-push_occurrence-requires t c = (search rules, omega arith)

pub show_hole-show_term-requires : goal.show_hole-show_term-requires
show_hole-show_term-requires t c = (search fall_solution, search to_term)

pub show_hole-returns-in-Some : goal.show_hole-returns-in-Some
show_hole-returns-in-Some t c = search shows-solution

pub show_term-read-rec-requires : goal.show_term-read-rec-requires
show_term-read-rec-requires t c = search to_read

pub show_term-loop-rec-init : goal.show_term-loop-rec-init
show_term-loop-rec-init t c = below-first _ (opens _) (search rules) (search rules)

pub show_term-overflow_add-inner : goal.show_term-overflow_add-inner
show_term-overflow_add-inner t c = search below-depth

pub show_term-read-rec-requires-in-loop-rec : goal.show_term-read-rec-requires-in-loop-rec
show_term-read-rec-requires-in-loop-rec t c = search below-read

pub show_term-loop-rec-smaller : goal.show_term-loop-rec-smaller
show_term-loop-rec-smaller t c = search below_less

pub show_term-loop-rec-preserved : goal.show_term-loop-rec-preserved
show_term-loop-rec-preserved t c = search below_next

pub show_term-show_body-requires : goal.show_term-show_body-requires
show_term-show_body-requires t c = (search rules, search below_plain)

pub show_term-then_lambdas-requires : goal.show_term-then_lambdas-requires
show_term-then_lambdas-requires t c = (search below_then, search rules)

pub show_term-returns : goal.show_term-returns
show_term-returns t c = search (below_ends, c.in_ok-body.was)

pub show_hole-returns-in-None : goal.show_hole-returns-in-None
show_hole-returns-in-None t c = search hole_written

pub show_term-returns-in_err-body : goal.show_term-returns-in_err-body
show_term-returns-in_err-body t c = search (below_stops, c.in_err-body.was, failure_passed)

pub show_body-push-requires-2 : goal.show_body-push-requires-2
show_body-push-requires-2 t c = (search to_then, search rules)

pub show_body-returns-in_err-args : goal.show_body-returns-in_err-args
show_body-returns-in_err-args t c =
    let named : Headed (map_of false c.args.map) c.args.depth c.read-rec.result c.if-rec-eq-VA.head =
    elim c.if-rec-eq-VA.branch [ show_body-then-rec-eq-VA w ↦ search head-named | show_body-else-rec-eq-VA w ↦ search head-kept ] in
    search (shows_stops, c.in_err-args.was, failure_passed)
