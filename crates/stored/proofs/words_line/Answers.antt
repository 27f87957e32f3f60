-- The words one after another, then the newline.
use Rattle.stored.proofs.Printing.{words_more, words_end}
use Rattle.stored.proofs.words_line.Goals as goal

pub loop-x-preserved : goal.loop-x-preserved
loop-x-preserved c = search words_more

pub returns : goal.returns
returns c = search words_end
