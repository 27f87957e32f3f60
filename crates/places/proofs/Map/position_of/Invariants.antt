use Rattle.places.specs.LookingLaws.{Ahead}
use Rattle.places.proofs.Map.position_of.Given as goal

abbrev pub invariant-loop-i : goal.invariant-loop-i
invariant-loop-i l = Ahead l.fn.self l.v.0 l.i
