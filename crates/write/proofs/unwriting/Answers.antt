use Rattle.write.proofs.Ending.{unwriting_case}
use Rattle.write.proofs.unwriting.Goals as goal

pub returns-in-TooMany : goal.returns-in-TooMany
returns-in-TooMany c = search unwriting_case

pub returns-in-Broken : goal.returns-in-Broken
returns-in-Broken c = search unwriting_case

pub returns-in-ShortFile : goal.returns-in-ShortFile
returns-in-ShortFile c = search unwriting_case
