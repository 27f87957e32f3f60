-- What is known of the waiting pairs along the run: they read as typed pairs of trees, in a store that says the holes and their solutions.
use Rattle.std.specs.Prelude.{ℕ, List}
use Rattle.std.proofs.Math.Option.{Option}
use Rattle.rules.specs.Store.{Store}
use Rattle.rules.specs.Machine.{Pair}
use Rattle.trees.specs.Tree.{Ty, Sig, Pairs}
use Rattle.trees.specs.Moves.{Solutions, Good}
use Rattle.promise.specs.State.{Holds}
use Rattle.promise.specs.Waiting.{PairsRead}

pub record Known (R : ℕ) (s : Store) (q : List Pair) : Type 0 where
  pub constants : ℕ → Option Ty
  pub sig : Sig
  pub sols : Solutions
  pub holds : Holds R s sig sols
  pub pairs : Pairs
  pub good : Good constants sig sols pairs
  pub reads : PairsRead s.words s.used q pairs
