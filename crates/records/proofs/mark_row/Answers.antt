use mathlib.Core.Path.{◌∙◌, ap}
use mathlib.Core.Bool.{not}
use lib.ListN.{length-set}
use borrow.Author.Rules.{rules}
use Rattle.records.proofs.Fields.{row_a, row_b, row_c, row_end}
use Rattle.records.proofs.mark_row.Goals as goal

pub returns-then-not-mark_field : goal.returns-then-not-mark_field
returns-then-not-mark_field c = search row_a

pub returns-then-not-mark_field-2 : goal.returns-then-not-mark_field-2
returns-then-not-mark_field-2 c = search row_b

pub returns-then-not-mark_field-3 : goal.returns-then-not-mark_field-3
returns-then-not-mark_field-3 c = search row_c

pub shape_of-marks : goal.shape_of-marks
shape_of-marks c = simp length-set (search rules)

pub returns : goal.returns
returns c =
    let a = ap not c.if-not-mark_field.false in
    let b = ap not c.if-not-mark_field-2.false in
    let d = ap not c.if-not-mark_field-3.false in
    let same = c.mark_field-3.auto.marks ∙ c.mark_field-2.auto.marks ∙ c.mark_field.auto.marks in
    row_end _ _ _ _ _ _ c.requires _ c.read-x.ensures _ _ c.mark_field.ensures a _ _ c.mark_field-2.ensures b _ _ c.mark_field-3.ensures d same
