-- What is known of a side of a pair: it reads as a typed tree, in a store whose solutions are typed.
use Rattle.std.specs.Prelude.{ℕ, List}
use Rattle.std.proofs.Math.Option.{Option}
use Rattle.rules.specs.Store.{Store}
use Rattle.trees.specs.Tree.{Ty, Tree, Sig, Kind, HasTy}
use Rattle.trees.specs.Moves.{Solutions, SolTyped}
use Rattle.promise.specs.Reading.{one, Reads}
use Rattle.promise.specs.State.{Holds}

pub record SideKnown (R : ℕ) (s : Store) (r : ℕ) : Type 0 where
  pub constants : ℕ → Option Ty
  pub sig : Sig
  pub sols : Solutions
  pub holds : Holds R s sig sols
  pub solved : SolTyped constants sig sols
  pub tree : Tree
  pub reads : Reads s.words s.used (one r) tree
  pub context : List Ty
  pub kind : Kind
  pub typed : HasTy constants sig context tree kind
