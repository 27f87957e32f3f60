-- The contracts of a writer with fuel.
use Rattle.std.specs.Prelude.{ℕ, suc, ◌<◌, ◌≤◌, ◌≡◌, List}
use Rattle.rules.specs.Words.{elements}
use Rattle.rules.specs.Store.{Store, Out}
use Rattle.rules.specs.Map.{Map}
use Rattle.rules.specs.Rewrite.{Writer, write_all}
use Rattle.laws.specs.Lists.{size}
use Rattle.invariants.specs.Rise.{reach}
use Rattle.store.specs.Said.{Answer, shown, Since}

-- with fuel enough, above the measure of T records over the floor F, a term is written as this
abbrev pub Gives : (ℕ → Writer) → ℕ → ℕ → Map → ℕ → ℕ → Store → Out ℕ → Type 0
Gives write T F m d r s o = (f : ℕ) → reach T F (suc r) < f → write f m d r s ≡ o

-- with fuel enough, a term and a list of the words that are read are written so, and at least n records are used
pub record WritesTerm (write : ℕ → Writer) (T n F : ℕ) (m : Map) (d r : ℕ) (s : Store) (ws₁ ss₁ : List ℕ) (x : Answer) : Type 0 where
  pub run : Gives write T F m d r s (shown ws₁ ss₁ x)
  pub grown : Since n x

pub record WritesList (write : ℕ → Writer) (reads : Store → List ℕ) (R T n F : ℕ) (m : Map) (d l : ℕ) (s : Store) (ws₁ ss₁ : List ℕ) (x : Answer) : Type 0 where
  pub run : (f : ℕ) → reach T F (size l) ≤ f → write_all (write f) R m d (elements (reads s) l) s ≡ shown ws₁ ss₁ x
  pub grown : Since n x
