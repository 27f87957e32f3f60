-- What is known of a term that is walked, copied or shown: it reads as a tree whose holes are declared and whose variables are in scope, in a store that says the holes and their solutions.
use Rattle.std.specs.Prelude.{ℕ, ◌+◌}
use Rattle.rules.specs.Store.{Store}
use Rattle.trees.specs.Tree.{Tree, Holes, Sig}
use Rattle.trees.specs.Moves.{Solutions}
use Rattle.trees.specs.Free.{Scoped}
use Rattle.trees.specs.Typing.{Declared}
use Rattle.trees.specs.Scopes.{SolScoped}
use Rattle.promise.specs.Reading.{one, Reads}
use Rattle.promise.specs.State.{Holds}
use Rattle.promise.specs.Parts.{Applied}

-- record r, under d lambdas in a context of c variables
pub record TermKnown (R : ℕ) (s : Store) (c d r : ℕ) : Type 0 where
  pub sig : Sig
  pub sols : Solutions
  pub holds : Holds R s sig sols
  pub solved : SolScoped sig sols
  pub tree : Tree
  pub reads : Reads s.words s.used (one r) tree
  pub inside : Holes (Declared sig) tree
  pub scoped : Scoped (d + c) tree

-- the argument list l
pub record ListKnown (R : ℕ) (s : Store) (c d l : ℕ) : Type 0 where
  pub sig : Sig
  pub sols : Solutions
  pub holds : Holds R s sig sols
  pub solved : SolScoped sig sols
  pub tree : Tree
  pub applied : Applied s.words s.used l tree
  pub inside : Holes (Declared sig) tree
  pub scoped : Scoped (d + c) tree
