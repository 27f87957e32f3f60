-- One call less is left.
use Rattle.std.proofs.Common.{rules, [], ◌∷◌}
use Rattle.tanczotka.proofs.uninterrupted.Goals as goal

pub returns-in_default : goal.returns-in_default
returns-in_default g c = λ most a. let p = ((c.loop.invariant.1 most a).at (tt ∷ []) _ _ c.call.ensures).0 in search rules

pub loop-preserved : goal.loop-preserved
loop-preserved g c = (
  record { at = λ xs. (c.loop.invariant.0.at (tt ∷ xs)).1 _ _ c.call.ensures },
  λ most a. record { at = λ xs. ((c.loop.invariant.1 most a).at (tt ∷ xs) _ _ c.call.ensures).1 },
)
