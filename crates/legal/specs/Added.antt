-- Terms and lists that were written and that no record refers to.
use Rattle.std.specs.Prelude.{ℕ, ◌<◌, ◌≤◌, ◌≡◌, refl, List, [], true}
use Rattle.std.proofs.Common.{arith}
use Rattle.rules.specs.Words.{NONE, is_term, elements}
use Rattle.rules.specs.Store.{Store}
use Rattle.laws.specs.Lists.{elements_none}
use Rattle.laws.specs.Members.{Begins}
use Rattle.legal.specs.Right.{Free}
use Rattle.legal.specs.Cells.{Kind, of}

-- a term written since s₀ that no record refers to
pub record Root (s₀ s : Store) (x : ℕ) : Type 0 where
  pub new : s₀.used ≤ x
  pub below : x < s.used
  pub term : is_term s.words x ≡ true
  pub free : Free s.words s.used x

-- a list of these records, written since s₀, that no record refers to
pub record Chain (k : Kind) (s₀ s : Store) (l : ℕ) (xs : List ℕ) : Type 0 where
  pub begins : Begins (of k s.words) s.words s.used l
  pub new : (l ≡ NONE → ⊥) → s₀.used ≤ l
  pub free : (l ≡ NONE → ⊥) → Free s.words s.used l
  pub is : elements s.words l ≡ xs

pub no_chain : (k : Kind) (s₀ s : Store) → Chain k s₀ s NONE []
no_chain k s₀ s = record { begins = λ z. absurd (z refl); new = λ z. absurd (z refl); free = λ z. absurd (z refl); is = elements_none s.words NONE refl }

-- a term written since a later store
pub root_since : {s₀ s s₁ : Store} (x : ℕ) → s₀.used ≤ s.used → Root s s₁ x → Root s₀ s₁ x
root_since x le r = let n = r.new in record { new = omega arith; below = r.below; term = r.term; free = r.free }

pub chain_since : {k : Kind} {s₀ s s₁ : Store} {l : ℕ} {xs : List ℕ} → s₀.used ≤ s.used → Chain k s s₁ l xs → Chain k s₀ s₁ l xs
chain_since le c = record { begins = c.begins; new = λ z. let n = c.new z in omega arith; free = c.free; is = c.is }
