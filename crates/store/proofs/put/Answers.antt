use native.Mathlib.Omega.{arith}
use mathlib.Core.Path.{refl}
use lib.ListN.{length-set}
use Rattle.rules.specs.Store.{put}
use Rattle.store.proofs.put.Goals as goal

pub bounds-part-i-2 : goal.bounds-part-i-2
unfolding put
bounds-part-i-2 c = simp length-set (omega arith)

pub bounds-part-i-3 : goal.bounds-part-i-3
unfolding put
bounds-part-i-3 c = simp length-set (omega arith)

pub returns : goal.returns
unfolding put
returns c = refl
