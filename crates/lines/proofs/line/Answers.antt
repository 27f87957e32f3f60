use native.Mathlib.Omega.{arith}
use mir.Facts.{Fits-widen}
use borrow.Author.Rules.{rules}
use Rattle.lines.proofs.Making.{made_room, made_reply, hole_answerable, hole_answered, made_hole}
use Rattle.lines.proofs.line.Goals as goal

pub first_line-requires : goal.first_line-requires
first_line-requires c = search made_room

pub returns-then-i-eq0 : goal.returns-then-i-eq0
returns-then-i-eq0 c = search made_reply

pub overflow_cast-hole-2 : goal.overflow_cast-hole-2
overflow_cast-hole-2 c = Fits-widen tt (c.type_inv.holes _)

pub write_answer-said-requires : goal.write_answer-said-requires
write_answer-said-requires c = search hole_answerable

pub hole_line-requires : goal.hole_line-requires
hole_line-requires c = search hole_answered

pub returns : goal.returns
returns c =
    made_hole _ _ _ _ _ _ _ c.requires c.if-i-eq0.false _ _ c.write_answer-said.ensures (search rules) _ _ (omega arith) c.hole_line.ensures
