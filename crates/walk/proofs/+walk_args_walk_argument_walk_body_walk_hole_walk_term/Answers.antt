use borrow.Author.Rules.{rules}
use native.Mathlib.Omega.{arith}
use Rattle.store.specs.SaidLaws.{failure_passed}
use Rattle.rewrite.specs.BelowLaws.{below-first, below-depth, below_less, below-read, below_next, below_plain, below_then}
use Rattle.walk.proofs.Walks.{walk_escape, hole_occurs, hole_keeps}
use Rattle.walk.proofs.Ready.{fall_argument, fall_hole, to_read, look, in_scope, to_hole, walked_hole, to_names, walked_kept, to_follow, to_solution, to_keep, to_raise, Hopping, fall_hop, to_hop, hops}
use Rattle.walk.proofs.Below.{opens, fall_body, below_stops, below_ends}
use Rattle.walk.proofs.Body.{Rigid, term_room, term_since, leaf_walked, body_rigid, rigid_leaf, rigid_args, fall_args, rigid_room, rigid_stops, rigid_ends}
use Rattle.walk.proofs.First.{args_read, args_room, only_ready, fall_only, only_stops, only_walked}
use Rattle.rewrite.specs.EachLaws.{turn_first, turn_kept, turn_holds, turn_ends, turn_less, room_left, turn_stops, turn_next}
use Rattle.walk.proofs.Each.{splits, turn_read, turn_falls, turn_head}
use Rattle.walk.proofs.+walk_args_walk_argument_walk_body_walk_hole_walk_term.Goals as goal

pub walk_args-read-first-requires : goal.walk_args-read-first-requires
walk_args-read-first-requires t c = search args_read

pub walk_args-walk_term-requires : goal.walk_args-walk_term-requires
walk_args-walk_term-requires t c = (search fall_only, search only_ready)

pub walk_args-loop-left-init : goal.walk_args-loop-left-init
walk_args-loop-left-init t c = search (turn_first, splits)

pub walk_args-read-cell-requires : goal.walk_args-read-cell-requires
walk_args-read-cell-requires t c = search turn_read

pub walk_args-loop-left-smaller : goal.walk_args-loop-left-smaller
walk_args-loop-left-smaller t c = search turn_less

pub walk_args-shape_of-table : goal.walk_args-shape_of-table
walk_args-shape_of-table t c = search turn_kept

pub walk_args-shape_of-solutions : goal.walk_args-shape_of-solutions
walk_args-shape_of-solutions t c = search turn_holds

pub walk_args-returns : goal.walk_args-returns
walk_args-returns t c = search turn_ends

pub walk_argument-read-leaf-requires : goal.walk_argument-read-leaf-requires
walk_argument-read-leaf-requires t c = search to_read

pub walk_argument-head_of-requires : goal.walk_argument-head_of-requires
walk_argument-head_of-requires t c = (search look, search in_scope)

pub walk_argument-returns-in_default : goal.walk_argument-returns-in_default
walk_argument-returns-in_default t c = search walk_escape

pub walk_argument-push-requires : goal.walk_argument-push-requires
walk_argument-push-requires t c = (search term_room, search term_since)

pub walk_argument-returns-then-is_leaf : goal.walk_argument-returns-then-is_leaf
walk_argument-returns-then-is_leaf t c = search leaf_walked

pub walk_argument-walk_term-requires : goal.walk_argument-walk_term-requires
walk_argument-walk_term-requires t c = (search fall_argument, search rules)

pub walk_body-read-rec-requires : goal.walk_body-read-rec-requires
walk_body-read-rec-requires t c = search to_read

pub walk_body-walk_hole-requires : goal.walk_body-walk_hole-requires
walk_body-walk_hole-requires t c = (search fall_hole, search to_hole)

pub walk_body-returns-then-rec-eq-HA : goal.walk_body-returns-then-rec-eq-HA
walk_body-returns-then-rec-eq-HA t c = search (walked_hole, c.in_ok-written.ensures)

pub walk_body-returns-in_err-written : goal.walk_body-returns-in_err-written
walk_body-returns-in_err-written t c = search (walked_hole, c.in_err-written.ensures, failure_passed)

pub walk_body-head_of-requires : goal.walk_body-head_of-requires
walk_body-head_of-requires t c = (search look, search in_scope)

pub walk_body-returns-in_default : goal.walk_body-returns-in_default
walk_body-returns-in_default t c = search walk_escape

pub walk_body-push-requires : goal.walk_body-push-requires
walk_body-push-requires t c = (search term_room, search term_since)

pub walk_body-returns-then-rec : goal.walk_body-returns-then-rec
walk_body-returns-then-rec t c =
    let h : Rigid c.args.walk.now.part.room c.args.walk.now.part.n c.args.walk.now.hole c.args.map c.args.table.now c.args.solutions.now c.args.used c.args.walk.now.floor c.args.depth c.args.at c.read-rec.result c.in-Some.head = search body_rigid in
    search rigid_leaf

pub walk_body-walk_args-requires : goal.walk_body-walk_args-requires
walk_body-walk_args-requires t c =
    let h : Rigid c.args.walk.now.part.room c.args.walk.now.part.n c.args.walk.now.hole c.args.map c.args.table.now c.args.solutions.now c.args.used c.args.walk.now.floor c.args.depth c.args.at c.read-rec.result c.in-Some.head = search body_rigid in
    (search fall_args, search rigid_args)

pub walk_hole-read-occ-requires : goal.walk_hole-read-occ-requires
walk_hole-read-occ-requires t c = search to_read

pub walk_hole-renamings-kept-requires : goal.walk_hole-renamings-kept-requires
walk_hole-renamings-kept-requires t c = search to_names

pub walk_hole-returns-in_default : goal.walk_hole-returns-in_default
walk_hole-returns-in_default t c = search walked_kept

pub walk_hole-returns-then-occ-hole : goal.walk_hole-returns-then-occ-hole
walk_hole-returns-then-occ-hole t c = search hole_occurs

pub walk_hole-follow-next-requires : goal.walk_hole-follow-next-requires
walk_hole-follow-next-requires t c = search to_follow

pub walk_hole-keep_placed-requires : goal.walk_hole-keep_placed-requires
walk_hole-keep_placed-requires t c = search to_keep

pub walk_hole-raise-requires : goal.walk_hole-raise-requires
walk_hole-raise-requires t c = search to_raise

pub walk_term-read-rec-requires : goal.walk_term-read-rec-requires
walk_term-read-rec-requires t c = search to_read

pub walk_term-loop-rec-init : goal.walk_term-loop-rec-init
walk_term-loop-rec-init t c = search (below-first, opens)

pub walk_term-overflow_add-inner : goal.walk_term-overflow_add-inner
walk_term-overflow_add-inner t c = search below-depth

pub walk_term-read-rec-requires-in-loop-rec : goal.walk_term-read-rec-requires-in-loop-rec
walk_term-read-rec-requires-in-loop-rec t c = search below-read

pub walk_term-loop-rec-smaller : goal.walk_term-loop-rec-smaller
walk_term-loop-rec-smaller t c = search below_less

pub walk_term-loop-rec-preserved : goal.walk_term-loop-rec-preserved
walk_term-loop-rec-preserved t c = search below_next

pub walk_term-walk_body-requires : goal.walk_term-walk_body-requires
walk_term-walk_body-requires t c = (search fall_body, search below_plain)

pub walk_args-returns-in_err-only : goal.walk_args-returns-in_err-only
walk_args-returns-in_err-only t c = search (only_stops, c.in_err-only.was, failure_passed)

pub walk_args-push-requires : goal.walk_args-push-requires
walk_args-push-requires t c = (search args_room, search rules)

pub walk_args-returns-then-first : goal.walk_args-returns-then-first
walk_args-returns-then-first t c = search (only_walked, c.in_ok-only.was)

pub walk_args-walk_argument-requires : goal.walk_args-walk_argument-requires
walk_args-walk_argument-requires t c = let i = c.loop-left.invariant in (search turn_falls, turn_head i (search rules) _ c.read-cell.ensures)

pub walk_args-returns-in_err-arg : goal.walk_args-returns-in_err-arg
walk_args-returns-in_err-arg t c = search (turn_stops, c.in_err-arg.was, failure_passed)

pub walk_args-push-requires-in-loop-left : goal.walk_args-push-requires-in-loop-left
walk_args-push-requires-in-loop-left t c = (omega arith, search room_left)

pub walk_args-loop-left-preserved : goal.walk_args-loop-left-preserved
walk_args-loop-left-preserved t c = search (turn_next, c.in_ok-arg.was)

pub walk_body-returns-in_err-args : goal.walk_body-returns-in_err-args
walk_body-returns-in_err-args t c =
    let h : Rigid c.args.walk.now.part.room c.args.walk.now.part.n c.args.walk.now.hole c.args.map c.args.table.now c.args.solutions.now c.args.used c.args.walk.now.floor c.args.depth c.args.at c.read-rec.result c.in-Some.head = search body_rigid in
    search (rigid_stops, c.in_err-args.was, failure_passed)

pub walk_body-push-requires-2 : goal.walk_body-push-requires-2
walk_body-push-requires-2 t c =
    let h : Rigid c.args.walk.now.part.room c.args.walk.now.part.n c.args.walk.now.hole c.args.map c.args.table.now c.args.solutions.now c.args.used c.args.walk.now.floor c.args.depth c.args.at c.read-rec.result c.in-Some.head = search body_rigid in
    (search rigid_room, search rules)

pub walk_body-returns : goal.walk_body-returns
walk_body-returns t c =
    let h : Rigid c.args.walk.now.part.room c.args.walk.now.part.n c.args.walk.now.hole c.args.map c.args.table.now c.args.solutions.now c.args.used c.args.walk.now.floor c.args.depth c.args.at c.read-rec.result c.in-Some.head = search body_rigid in
    search (rigid_ends, c.in_ok-args.was)

pub walk_hole-solution_of-requires : goal.walk_hole-solution_of-requires
walk_hole-solution_of-requires t c = search to_solution

pub walk_hole-returns-in_default-solution_of : goal.walk_hole-returns-in_default-solution_of
walk_hole-returns-in_default-solution_of t c = search hole_keeps

pub walk_hole-walk_term-requires : goal.walk_hole-walk_term-requires
walk_hole-walk_term-requires t c =
    let h : Hopping c.args.walk.now.part.room c.args.walk.now.part.n c.args.walk.now.hole c.args.map c.args.table.now c.args.solutions.now c.args.used c.args.walk.now.floor c.args.depth c.args.at c.read-occ.result c.follow-next.result c.in-Some-solution_of.solution c.raise.result =
    record {
      on = c.requires;
      is = c.read-occ.ensures;
      hole = c.in-Some.hole;
      some = c.in-Some.is;
      other = c.if-occ-hole.false;
      follows = c.follow-next.ensures;
      solution = c.in-Some-solution_of.ensures;
      floor = c.raise.ensures;
    } in
    (search fall_hop, search to_hop)

pub walk_hole-returns : goal.walk_hole-returns
walk_hole-returns t c =
    let h : Hopping c.args.walk.now.part.room c.args.walk.now.part.n c.args.walk.now.hole c.args.map c.args.table.now c.args.solutions.now c.args.used c.args.walk.now.floor c.args.depth c.args.at c.read-occ.result c.follow-next.result c.in-Some-solution_of.solution c.raise.result =
    record {
      on = c.requires;
      is = c.read-occ.ensures;
      hole = c.in-Some.hole;
      some = c.in-Some.is;
      other = c.if-occ-hole.false;
      follows = c.follow-next.ensures;
      solution = c.in-Some-solution_of.ensures;
      floor = c.raise.ensures;
    } in
    search hops

pub walk_term-returns-in_err-body : goal.walk_term-returns-in_err-body
walk_term-returns-in_err-body t c = search (below_stops, c.in_err-body.was, failure_passed)

pub walk_term-then_lambdas-requires : goal.walk_term-then_lambdas-requires
walk_term-then_lambdas-requires t c = (search below_then, search rules)

pub walk_term-returns : goal.walk_term-returns
walk_term-returns t c = search (below_ends, c.in_ok-body.was)
