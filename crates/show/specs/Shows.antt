-- The contracts of showing.
use Rattle.std.specs.Prelude.{ℕ, ◌≤◌, ◌≡◌, List, false}
use Rattle.places.specs.declared.Map.{Map}
use Rattle.rules.specs.Show.{show_hole, show_term}
use Rattle.invariants.specs.Rise.{reach}
use Rattle.store.specs.Said.{Answer, store, shown, Since}
use Rattle.places.specs.Maps.{map_of}
use Rattle.rewrite.specs.Writes.{WritesTerm, WritesList}

-- with fuel enough, a term, a list and a hole are shown so
abbrev pub ShowsTerm : ℕ → Map → List ℕ → List ℕ → List ℕ → ℕ → ℕ → ℕ → ℕ → List ℕ → Answer → Type 0
ShowsTerm O m ws ss os used F d r os₁ x = WritesTerm (λ f. show_term f O ws) 4096 0 F (map_of false m) d r (store os ss used) os₁ ss x

abbrev pub ShowsList : ℕ → Map → List ℕ → List ℕ → List ℕ → ℕ → ℕ → ℕ → ℕ → List ℕ → Answer → Type 0
ShowsList O m ws ss os used F d l os₁ x = WritesList (λ f. show_term f O ws) (λ _. ws) O 4096 0 F (map_of false m) d l (store os ss used) os₁ ss x

pub record ShowsHole (O : ℕ) (m : Map) (ws ss os : List ℕ) (used F h : ℕ) (os₁ : List ℕ) (x : Answer) : Type 0 where
  pub run : (f : ℕ) → reach 4096 F 4097 ≤ f → show_hole (show_term f O ws) O h (map_of false m) (store os ss used) ≡ shown os₁ ss x
  pub grown : Since 0 x
