use mathlib.Core.Path.{◌∙◌, ap}
use mathlib.Core.Bool.{not}
use Rattle.records.proofs.Cells.{cell_a, cell_b, cell_c, cell_end, length-asks}
use Rattle.records.proofs.mark_cell.Goals as goal

pub returns-then-not-mark_field : goal.returns-then-not-mark_field
returns-then-not-mark_field c = search cell_a

pub returns-then-not-mark_field-2 : goal.returns-then-not-mark_field-2
returns-then-not-mark_field-2 c = search cell_b

pub returns-then-not-mark_field-3 : goal.returns-then-not-mark_field-3
returns-then-not-mark_field-3 c = search cell_c

pub mark_length-requires : goal.mark_length-requires
mark_length-requires c =
    let same = c.mark_field-3.auto.marks ∙ c.mark_field-2.auto.marks ∙ c.mark_field.auto.marks in
    length-asks _ _ _ _ _ c.counted_from-start.ensures c.requires.room same

pub returns : goal.returns
returns c =
    let a = ap not c.if-not-mark_field.false in
    let b = ap not c.if-not-mark_field-2.false in
    let d = ap not c.if-not-mark_field-3.false in
    let same = c.mark_field-3.auto.marks ∙ c.mark_field-2.auto.marks ∙ c.mark_field.auto.marks in
    cell_end _ _ _ c.requires _ c.read-x.ensures _ _ c.mark_field.ensures a _ _ c.mark_field-2.ensures b _ _ c.mark_field-3.ensures d
    c.mark_field.auto.marks same _ c.lower_mark.ensures _ c.counted_from-start.ensures _ c.lower_mark-rest.ensures _ _ c.mark_length.ensures
