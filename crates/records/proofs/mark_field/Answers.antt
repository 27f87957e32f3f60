use mathlib.Core.Path.{refl}
use Rattle.records.specs.Marks.{holds, once}
use Rattle.records.proofs.Judging.{field_plain, field-referred, field-first_cell, element_type, element_term}
use Rattle.records.proofs.mark_field.Goals as goal

pub returns-in-Nil : goal.returns-in-Nil
unfolding holds once
returns-in-Nil c = rw c.in-Nil.is (field_plain _ _ _ _ _ refl refl)

pub returns-in-Any : goal.returns-in-Any
unfolding holds once
returns-in-Any c = rw c.in-Any.is (field_plain _ _ _ _ _ refl refl)

pub returns-in-Small : goal.returns-in-Small
unfolding holds once
returns-in-Small c = rw c.in-Small.is (field_plain _ _ _ _ _ refl refl)

pub returns-in-OfType : goal.returns-in-OfType
unfolding holds once
returns-in-OfType c = rw c.in-OfType.is (field_plain _ _ _ _ _ c.lies.ensures refl)

pub returns-in-OfBase : goal.returns-in-OfBase
unfolding holds once
returns-in-OfBase c = rw c.in-OfBase.is (field_plain _ _ _ _ _ c.lies-in-OfBase.ensures refl)

pub returns-in-OfConstant : goal.returns-in-OfConstant
unfolding holds once
returns-in-OfConstant c = rw c.in-OfConstant.is (field_plain _ _ _ _ _ c.lies-in-OfConstant.ensures refl)

pub returns-in-OfHole : goal.returns-in-OfHole
unfolding holds once
returns-in-OfHole c = rw c.in-OfHole.is (field_plain _ _ _ _ _ c.lies-in-OfHole.ensures refl)

pub returns-in-OfTerm : goal.returns-in-OfTerm
unfolding holds once
returns-in-OfTerm c = rw c.in-OfTerm.is (field-referred _ _ _ _ _ _ _ _ c.mark_referred.ensures refl refl)

pub returns-in-Types : goal.returns-in-Types
unfolding holds once
returns-in-Types c = rw c.in-Types.is (field-first_cell _ _ _ _ _ _ _ _ c.mark_first_cell.ensures refl refl)

pub returns-in-Terms : goal.returns-in-Terms
unfolding holds once
returns-in-Terms c = rw c.in-Terms.is (field-first_cell _ _ _ _ _ _ _ _ c.mark_first_cell-in-Terms.ensures refl refl)

pub returns-then-lies : goal.returns-then-lies
returns-then-lies c = search element_type

pub returns-else-lies : goal.returns-else-lies
returns-else-lies c = search element_term

pub returns-in-Rest : goal.returns-in-Rest
unfolding holds once
returns-in-Rest c = rw c.in-Rest.is (field-first_cell _ _ _ _ _ _ _ _ c.mark_first_cell-in-Rest.ensures refl refl)
