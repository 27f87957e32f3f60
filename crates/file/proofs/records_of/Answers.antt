-- Each way that it ends is one of the rules'.
use Rattle.file.proofs.Reading.{too_long, uneven, too_small, unknown_mark, all_read}
use Rattle.file.proofs.records_of.Goals as goal

pub returns-then-len-gt28672 : goal.returns-then-len-gt28672
returns-then-len-gt28672 c = search too_long

pub returns-then-len-ne0 : goal.returns-then-len-ne0
returns-then-len-ne0 c = search uneven

pub returns-then-table-n : goal.returns-then-table-n
returns-then-table-n c = search too_small

pub returns-then-r-n : goal.returns-then-r-n
returns-then-r-n c = search unknown_mark

pub returns : goal.returns
returns c = search all_read
