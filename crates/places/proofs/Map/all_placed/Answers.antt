use borrow.Author.Rules.{rules}
use mathlib.Core.Path.{◌∙◌}
use mathlib.Core.Bool.{not}
use lib.Dec.{eqb}
use Rattle.std.proofs.Common.{tests}
use Rattle.std.proofs.lemmas.Iterator.Search.{all_from_yields_List}
use Rattle.std.proofs.lemmas.Iterator.{YieldsList-from_slice}
use Rattle.rules.specs.Words.{NONE}
use Rattle.places.specs.Maps.{places_of}
use Rattle.places.proofs.Placed.{all_placed}
use Rattle.places.proofs.Map.all_placed.Goals as goal

pub returns : goal.returns
returns c =
    all_from_yields_List (λ w. not (eqb w NONE)) _ _ c.all.result c.all.ensures.ran (YieldsList-from_slice (places_of c.args.self) cc) (λ x b q k. search (rules, tests))
    ∙ all_placed c.args.self
