-- What the machine's end is, by the functions of Table.
use Rattle.std.specs.Prelude.{ℕ}
use mathlib.Core.List.{List, []}
use Rattle.rules.specs.Store.{Store}
use Rattle.trees.specs.Tree.{PairsTyped}
use Rattle.trees.specs.Moves.{nothing, Run, NoneFrozen}
use Rattle.promise.specs.Table.{constants, holes, sides, solution_of}
use Rattle.promise.specs.Demand.{holes_in}
use Rattle.promise.specs.State.{Holds}

-- s is what a run from the equations among the first n records of ws left behind
pub record Final (ws : List ℕ) (n R : ℕ) (s : Store) : Type 0 where
  pub typed : PairsTyped (constants ws n) (holes ws n) (sides ws n)
  pub run : Run (constants ws n) NoneFrozen (holes ws n) nothing (sides ws n) (holes_in s) (solution_of s) []
  pub holds : Holds R s (holes_in s) (solution_of s)
