use borrow.Author.Rules.{rules}
use native.Mathlib.Omega.{arith}
use Rattle.terms.proofs.Arguments.{passed_none}
use Rattle.terms.proofs.Arguments.{counting_first, head_inside as type-of-head-inside, list_inside, left_some, too_many, too_short, last_remains}
use Rattle.terms.proofs.Arguments.{argument_asks, argument_less, cells_less, argument_fails, argument_checks}
use Rattle.terms.proofs.Arguments.{context_ends, context_short, filling_less, fills_ask, bare-fills, filling-fails, filling-checks}
use Rattle.terms.proofs.Terms.{hand_first, answered, term_inside, room_left, stack_holds, hole_less, tagged, body_less, no_arrow, body_next}
use Rattle.terms.proofs.Terms.{hole_inside, hole_list, fills_less, other_type, hole_asks, hole_told}
use Rattle.terms.proofs.Terms.{head_inside, head-free, Headed, headed, other_base, none_asked}
use Rattle.terms.proofs.Terms.{Asking, stack_long, none_given, list_asks, arguments_less, list_fails, last_less, last_next}
use Rattle.laws.specs.Places.{list_read}
use Rattle.terms.proofs.+check_args_check_fills_check_hole_check_term.Goals as goal
use Rattle.terms.proofs.+check_args_check_fills_check_hole_check_term.Goals.{check_fills-else-not-names-via-then-not-names+else-not-check_term, check_fills-else-not-names-via-else-not-names}

pub check_args-loop-left-init : goal.check_args-loop-left-init
check_args-loop-left-init t c = search counting_first

pub check_args-read-t-requires : goal.check_args-read-t-requires
check_args-read-t-requires t c = search type-of-head-inside

pub check_args-read-cell-requires : goal.check_args-read-cell-requires
check_args-read-cell-requires t c = search list_inside

pub check_args-overflow_sub-left : goal.check_args-overflow_sub-left
check_args-overflow_sub-left t c = search left_some

pub check_args-returns-then-cell : goal.check_args-returns-then-cell
check_args-returns-then-cell t c = search too_many

pub check_args-returns-then-left-eq0 : goal.check_args-returns-then-left-eq0
check_args-returns-then-left-eq0 t c = search last_remains

pub check_args-returns-then-cell-2 : goal.check_args-returns-then-cell-2
check_args-returns-then-cell-2 t c = search too_short

pub check_args-check_term-requires : goal.check_args-check_term-requires
check_args-check_term-requires t c = (search argument_less, search argument_asks)

pub check_args-returns-then-not-check_term : goal.check_args-returns-then-not-check_term
check_args-returns-then-not-check_term t c = search argument_fails

pub check_args-loop-left-smaller : goal.check_args-loop-left-smaller
check_args-loop-left-smaller t c = search cells_less

pub check_args-loop-left-preserved : goal.check_args-loop-left-preserved
check_args-loop-left-preserved t c = search argument_checks

pub check_fills-loop-at-init : goal.check_fills-loop-at-init
check_fills-loop-at-init t c =
    let terms = list_read _ _ _ c.requires.list in
    let types = list_read _ _ _ c.requires.held in
    (search rules, search rules, search rules, search rules, search rules, search (rules, passed_none))

pub check_fills-loop-at-init-derived : goal.check_fills-loop-at-init-derived
check_fills-loop-at-init-derived t c = let terms = list_read _ _ _ c.requires.list in search rules

pub check_fills-returns-in_default : goal.check_fills-returns-in_default
check_fills-returns-in_default t c =
    let steps = c.in-Some.ensures.steps in
    let none = c.in_default.ensures.steps in
    search context_short

pub check_fills-check_term-requires : goal.check_fills-check_term-requires
check_fills-check_term-requires t c =
    let steps = c.in-Some.ensures.steps in
    let types = c.in-Some-next.ensures.steps in
    (search filling_less, search fills_ask)

pub check_fills-returns-then-not-check_term : goal.check_fills-returns-then-not-check_term
check_fills-returns-then-not-check_term t c =
    let steps = c.in-Some.ensures.steps in
    let types = c.in-Some-next.ensures.steps in
    search filling-fails

pub check_fills-loop-at-preserved : goal.check_fills-loop-at-preserved
check_fills-loop-at-preserved t c =
    let steps = c.in-Some.ensures.steps in
    let types = c.in-Some-next.ensures.steps in
    let goes = c.in-Some.ensures.goes in
    let goes_on = c.in-Some-next.ensures.goes in (
      search rules,
      search rules,
      search rules,
      search rules,
      search rules,
      elim c.else-not-names.branch [
        | check_fills-else-not-names-via-then-not-names+else-not-check_term w ↦ rw (w.stack-is, w.low-is) (search filling-checks)
        | check_fills-else-not-names-via-else-not-names w ↦ rw (w.stack-is, w.low-is) (bare-fills c.loop-at.invariant.5 c.loop-at.invariant.4 steps.2 c.loop-at.invariant.3 types.2 c.names.ensures (search rules))
      ],
    )

pub check_fills-returns : goal.check_fills-returns
check_fills-returns t c = let none = c.in-None.ensures.steps in search context_ends

pub check_hole-read-x-requires : goal.check_hole-read-x-requires
check_hole-read-x-requires t c = search (term_inside, hand_first)

pub check_hole-read-hole-requires : goal.check_hole-read-hole-requires
check_hole-read-hole-requires t c = search (hole_inside, hand_first)

pub check_hole-returns-then-hole-ty : goal.check_hole-returns-then-hole-ty
check_hole-returns-then-hole-ty t c = search (other_type, hand_first)

pub check_hole-offended-requires : goal.check_hole-offended-requires
check_hole-offended-requires t c = search (hole_list, hand_first)

pub check_hole-check_fills-requires : goal.check_hole-check_fills-requires
check_hole-check_fills-requires t c = (search (fills_less, hand_first), search (hole_asks, hand_first))

pub check_hole-returns : goal.check_hole-returns
check_hole-returns t c = search (hole_told, hand_first)

pub check_term-loop-stack-init : goal.check_term-loop-stack-init
check_term-loop-stack-init t c = search hand_first

pub check_term-read-x-requires : goal.check_term-read-x-requires
check_term-read-x-requires t c = search term_inside

pub check_term-bind-requires : goal.check_term-bind-requires
check_term-bind-requires t c = (search rules, search room_left)

pub check_term-returns-in_default : goal.check_term-returns-in_default
check_term-returns-in_default t c = search no_arrow

pub check_term-overflow_add-d : goal.check_term-overflow_add-d
check_term-overflow_add-d t c =
    let room = c.loop-stack.invariant.asks.room in
    omega arith

pub check_term-loop-stack-smaller-then-x-eq-LA : goal.check_term-loop-stack-smaller-then-x-eq-LA
check_term-loop-stack-smaller-then-x-eq-LA t c = search body_less

pub check_term-loop-stack-preserved-then-x-eq-LA : goal.check_term-loop-stack-preserved-then-x-eq-LA
check_term-loop-stack-preserved-then-x-eq-LA t c = search body_next

pub check_term-check_hole-requires : goal.check_term-check_hole-requires
check_term-check_hole-requires t c = (search hole_less, (search rules, search tagged))

pub check_term-returns-then-x-eq-HA : goal.check_term-returns-then-x-eq-HA
check_term-returns-then-x-eq-HA t c = search answered

pub check_term-head_type-requires : goal.check_term-head_type-requires
check_term-head_type-requires t c = (search stack_holds, λ v. search head_inside)

pub check_term-returns-in_default-head_type : goal.check_term-returns-in_default-head_type
check_term-returns-in_default-head_type t c = search head-free

pub check_term-final_type-f-requires : goal.check_term-final_type-f-requires
check_term-final_type-f-requires t c =
    let rigid : Headed c.loop-stack.invariant c.read-x.result c.in-Some-head_type.head = search headed in
    search rules

pub check_term-returns-then-f-eq0 : goal.check_term-returns-then-f-eq0
check_term-returns-then-f-eq0 t c =
    let rigid : Headed c.loop-stack.invariant c.read-x.result c.in-Some-head_type.head = search headed in
    search none_asked

pub check_term-returns-then-x : goal.check_term-returns-then-x
check_term-returns-then-x t c =
    let rigid : Headed c.loop-stack.invariant c.read-x.result c.in-Some-head_type.head = search headed in
    let asking : Asking rigid t c.final_type-f.result = search rules in
    search none_given

pub check_term-check_args-requires : goal.check_term-check_args-requires
check_term-check_args-requires t c =
    let rigid : Headed c.loop-stack.invariant c.read-x.result c.in-Some-head_type.head = search headed in
    let asking : Asking rigid t c.final_type-f.result = search rules in
    (search arguments_less, search list_asks)

pub check_term-shape_of-stack-in_default-check_args : goal.check_term-shape_of-stack-in_default-check_args
check_term-shape_of-stack-in_default-check_args t c =
    let rigid : Headed c.loop-stack.invariant c.read-x.result c.in-Some-head_type.head = search headed in
    let asking : Asking rigid t c.final_type-f.result = search rules in
    let long = stack_long {g = rigid} asking in
    search rules

pub check_term-returns-in_default-check_args : goal.check_term-returns-in_default-check_args
check_term-returns-in_default-check_args t c =
    let rigid : Headed c.loop-stack.invariant c.read-x.result c.in-Some-head_type.head = search headed in
    let asking : Asking rigid t c.final_type-f.result = search rules in
    search list_fails

pub check_term-loop-stack-smaller : goal.check_term-loop-stack-smaller
check_term-loop-stack-smaller t c =
    let rigid : Headed c.loop-stack.invariant c.read-x.result c.in-Some-head_type.head = search headed in
    let asking : Asking rigid t c.final_type-f.result = search rules in
    search last_less

pub check_term-loop-stack-preserved : goal.check_term-loop-stack-preserved
check_term-loop-stack-preserved t c =
    let rigid : Headed c.loop-stack.invariant c.read-x.result c.in-Some-head_type.head = search headed in
    let asking : Asking rigid t c.final_type-f.result = search rules in
    last_next {g = rigid} asking _ _ _ c.check_args.ensures (search rules) (search rules)

pub check_term-returns-then-f-at : goal.check_term-returns-then-f-at
check_term-returns-then-f-at t c =
    let rigid : Headed c.loop-stack.invariant c.read-x.result c.in-Some-head_type.head = search headed in
    search other_base
