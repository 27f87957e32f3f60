-- An array of places filled along arguments of each of which something holds.
use Rattle.std.specs.Prelude.{ℕ, ◌≤◌, ◌≡◌, List, ◌∷◌, map, length}
use Rattle.places.specs.declared.Map.{Map}
use Rattle.rules.specs.Words.{field_a}
use Rattle.invariants.specs.Floor.{All}
use Rattle.places.specs.Maps.{Unplaced, Pushed}
use Rattle.places.specs.FillingLaws.{Filling, filling-first, filling-more}

-- filling, and P holds of each argument that is left
pub record Along (P : ℕ → Type 0) (g : ℕ → ℕ → ℕ) (ws ys : List ℕ) (m : Map) (xs : List ℕ) : Type 0 where
  pub filling : Filling g ys m xs
  pub each : All P (map (λ x. field_a ws x) xs)

module _ (P : ℕ → Type 0) (g : ℕ → ℕ → ℕ) (ws ys : List ℕ) (m : Map) where
  pub along_first : length ys ≤ 16 → All P (map (λ x. field_a ws x) ys) → Unplaced m → Along P g ws ys m ys
  along_first f a e = record { filling = filling-first g ys m f e; each = a }

  module _ (xs : List ℕ) (h : Along P g ws ys m xs) (x : ℕ) (zs : List ℕ) (e : xs ≡ x ∷ zs) where
    both : All P (field_a ws x ∷ map (λ y. field_a ws y) zs)
    both = rw e at h.each

    pub along_here : (v : ℕ) → field_a ws x ≡ v → P v
    along_here v q = rw (← q) both.0

    pub along_more : (v : ℕ) (m₁ : Map) → g m.len x ≡ v → Pushed m v m₁ → Along P g ws ys m₁ zs
    along_more v m₁ q p = record { filling = filling-more g ys m xs h.filling x zs e v m₁ q p; each = both.1 }
