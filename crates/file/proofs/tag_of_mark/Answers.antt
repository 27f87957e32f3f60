-- A mark's number names its two bytes.
use Rattle.std.proofs.Common.{arith, refl}
use Rattle.rules.specs.Lists.{first, both}
use Rattle.rules.specs.File.{marks, tag_of}
use Rattle.file.proofs.Marks.{tag_known, tag_unknown}
use Rattle.file.proofs.tag_of_mark.Goals as goal

pub returns-in-16980 : goal.returns-in-16980
unfolding tag_of first both marks
returns-in-16980 c = tag_known c.args.x c.args.y c.from_be_bytes.result (omega (arith, c.from_be_bytes.ensures)) (omega arith) 66 84 _ (omega arith) c.in-16980.is refl

pub returns-in-16722 : goal.returns-in-16722
unfolding tag_of first both marks
returns-in-16722 c = tag_known c.args.x c.args.y c.from_be_bytes.result (omega (arith, c.from_be_bytes.ensures)) (omega arith) 65 82 _ (omega arith) c.in-16722.is refl

pub returns-in-19279 : goal.returns-in-19279
unfolding tag_of first both marks
returns-in-19279 c = tag_known c.args.x c.args.y c.from_be_bytes.result (omega (arith, c.from_be_bytes.ensures)) (omega arith) 75 79 _ (omega arith) c.in-19279.is refl

pub returns-in-18511 : goal.returns-in-18511
unfolding tag_of first both marks
returns-in-18511 c = tag_known c.args.x c.args.y c.from_be_bytes.result (omega (arith, c.from_be_bytes.ensures)) (omega arith) 72 79 _ (omega arith) c.in-18511.is refl

pub returns-in-17221 : goal.returns-in-17221
unfolding tag_of first both marks
returns-in-17221 c = tag_known c.args.x c.args.y c.from_be_bytes.result (omega (arith, c.from_be_bytes.ensures)) (omega arith) 67 69 _ (omega arith) c.in-17221.is refl

pub returns-in-19521 : goal.returns-in-19521
unfolding tag_of first both marks
returns-in-19521 c = tag_known c.args.x c.args.y c.from_be_bytes.result (omega (arith, c.from_be_bytes.ensures)) (omega arith) 76 65 _ (omega arith) c.in-19521.is refl

pub returns-in-17217 : goal.returns-in-17217
unfolding tag_of first both marks
returns-in-17217 c = tag_known c.args.x c.args.y c.from_be_bytes.result (omega (arith, c.from_be_bytes.ensures)) (omega arith) 67 65 _ (omega arith) c.in-17217.is refl

pub returns-in-22081 : goal.returns-in-22081
unfolding tag_of first both marks
returns-in-22081 c = tag_known c.args.x c.args.y c.from_be_bytes.result (omega (arith, c.from_be_bytes.ensures)) (omega arith) 86 65 _ (omega arith) c.in-22081.is refl

pub returns-in-18497 : goal.returns-in-18497
unfolding tag_of first both marks
returns-in-18497 c = tag_known c.args.x c.args.y c.from_be_bytes.result (omega (arith, c.from_be_bytes.ensures)) (omega arith) 72 65 _ (omega arith) c.in-18497.is refl

pub returns-in-17745 : goal.returns-in-17745
unfolding tag_of first both marks
returns-in-17745 c = tag_known c.args.x c.args.y c.from_be_bytes.result (omega (arith, c.from_be_bytes.ensures)) (omega arith) 69 81 _ (omega arith) c.in-17745.is refl

pub returns-in_default : goal.returns-in_default
returns-in_default c = tag_unknown c.args.x c.args.y c.from_be_bytes.result (omega (arith, c.from_be_bytes.ensures)) (omega arith)
    (search c.in_default) (search c.in_default) (search c.in_default) (search c.in_default) (search c.in_default) (search c.in_default) (search c.in_default) (search c.in_default) (search c.in_default) (search c.in_default)
