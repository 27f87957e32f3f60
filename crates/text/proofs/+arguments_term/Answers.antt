-- Each return is one of the rules, and the record numbers fall.
use Rattle.std.proofs.Common.{refl}
use Rattle.text.proofs.Falling.{to_list, fall_list, to_first, fall_first, to_rest, fall_rest}
use Rattle.text.proofs.Parts.{writes_lambda, writes_applied, writes_no_list, writes_list}
use Rattle.text.proofs.+arguments_term.Goals as goal

pub arguments-returns-then-list-eq-NONE : goal.arguments-returns-then-list-eq-NONE
arguments-returns-then-list-eq-NONE t c = writes_no_list _ _ _ _ _ _ c.if-list-eq-NONE.true refl

pub arguments-term-rest-requires : goal.arguments-term-rest-requires
arguments-term-rest-requires t c = (search fall_first, search to_first)

pub arguments-arguments-requires : goal.arguments-arguments-requires
arguments-arguments-requires t c = (search fall_rest, search to_rest)

pub arguments-returns : goal.arguments-returns
arguments-returns t c = search writes_list

pub term-returns-then-record-eq-LA : goal.term-returns-then-record-eq-LA
term-returns-then-record-eq-LA t c = search writes_lambda

pub term-arguments-end-requires : goal.term-arguments-end-requires
term-arguments-end-requires t c = (search fall_list, search to_list)

pub term-returns : goal.term-returns
term-returns t c = search writes_applied
