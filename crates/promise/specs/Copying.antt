-- What is asked of a writer that copies.
use Prim.Native.Nat.{ℕ}
use Rattle.rules.specs.Store.{Store}
use Rattle.rules.specs.Map.{Map}
use Rattle.rules.specs.Rewrite.{Writer}
use Rattle.trees.specs.Tree.{Tree, ren}
use Rattle.promise.specs.Reading.{one, Reads}
use Rattle.promise.specs.Outcomes.{Ends, OnlyFull, Fits}
use Rattle.promise.specs.Writing.{Wrote}
use Rattle.promise.specs.Rewriting.{Placed}

module _ (R : ℕ) where
  -- a writer that copies
  abbrev pub Copies : Writer → Type 0
  Copies write = (m : Map) (d r : ℕ) (s : Store) (f : ℕ → ℕ) (t : Tree) → Fits R s → Reads s.words s.used (one r) t → Placed m d f t
      → Ends (Wrote R (ren f t) s) OnlyFull (write m d r s)
