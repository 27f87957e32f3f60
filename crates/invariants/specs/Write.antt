-- What is said of lists and terms that are appended.
use Rattle.std.specs.Prelude.{ℕ, ◌<◌, ◌≤◌, ◌≡◌, refl, List, [], length}
use Rattle.std.proofs.Common.{arith}
use Rattle.rules.specs.Words.{NONE, tag, elements, CE}
use Rattle.rules.specs.Store.{Store, Out, goes}
use Rattle.laws.specs.Lists.{elements_none}
use Rattle.invariants.specs.Floor.{Sub, Args, Fine, Grows}
use Rattle.invariants.specs.Outside.{outside_refl}
use Rattle.invariants.specs.Push.{ext_refl, map_grows}

-- a list written: terms from record b on, so many
pub record WrittenList (b k : ℕ) (home : ℕ → ℕ) (s : Store) (x : ℕ) : Type 0 where
  pub args : Args s.words home b s.used x
  pub count : length (elements s.words x) ≡ k

-- a term written: its root is not older than u, and homes are from b on
pub record Written (b u : ℕ) (home : ℕ → ℕ) (s : Store) (x : ℕ) : Type 0 where
  pub sub : Sub s.words home b s.used x
  pub new : u ≤ x

-- the solutions are still these
abbrev pub Same : List ℕ → ((ℕ → ℕ) → Store → ℕ → Type 0) → (ℕ → ℕ) → Store → ℕ → Type 0
Same ss Q home s x = Q home s x × (s.solutions ≡ ss)

pub none_written : (b : ℕ) (home : ℕ → ℕ) (s : Store) → WrittenList b 0 home s NONE
none_written b home s =
    let e : elements s.words NONE ≡ [] = elements_none s.words NONE refl in
    record { args = record { here = λ q. absurd (q refl); all = rw e tt }; count = rw e }

pub same_off : (barred : ℕ → Type 0) (Q : (ℕ → ℕ) → Store → ℕ → Type 0) (R n : ℕ) (home : ℕ → ℕ) (s : Store) (o : Out ℕ) (ss : List ℕ)
    → Grows barred (Same ss Q) R n home s o → Grows barred Q R n home s o
same_off barred Q R n home s o ss g = map_grows barred (Same ss Q) Q R n home s o g (λ home₁ s₁ x e f p. p.0)

-- not older than an earlier number
pub grows_since : (barred : ℕ → Type 0) (R n b u v : ℕ) (home : ℕ → ℕ) (s : Store) (o : Out ℕ) (ss : List ℕ) → v ≤ u → Grows barred (Same ss (Written b u)) R n home s o → Grows barred (Same ss (Written b v)) R n home s o
grows_since barred R n b u v home s o ss h g =
    map_grows barred (Same ss (Written b u)) (Same ss (Written b v)) R n home s o g (λ home₁ s₁ x e f p. (record { sub = p.0.sub; new = omega arith }, p.1))

pub stays : {A : Type 0} (barred : ℕ → Type 0) (Q : (ℕ → ℕ) → Store → A → Type 0) (R n : ℕ) (home : ℕ → ℕ) (s : Store) (x : A) → Fine R n home s → Q home s x → Grows barred Q R n home s (goes s x)
stays barred Q R n home s x f q = record { home₁ = home; ext = ext_refl barred home s; outside = outside_refl R n s; fine = f; root = q }

-- a list that may be empty
abbrev pub Chain : (ℕ → ℕ) → Store → ℕ → Type 0
Chain home s x = (x ≡ NONE → ⊥) → (x < s.used) × (tag s.words x ≡ CE)
