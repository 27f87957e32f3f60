-- How many records a term takes up, with its parts and the cells of its lists; fuel bounds its nesting.
use Prim.Native.Nat.{ℕ, zero, suc, ◌+◌, ◌≤◌}
use Rattle.std.specs.Prelude.{◌≡◌, refl, List, [], ◌∷◌}
use Rattle.std.proofs.Common.{arith}
use Rattle.std.proofs.Math.Decide.{ℕ_discrete}
use Rattle.rules.specs.Words.{tag, field_a, field_b, lambda, constant, variable, hole, form, elements, arguments, LA, CA, VA}
use Rattle.invariants.specs.Forms.{form_6, form_7, form_8, form_9}
use Rattle.invariants.specs.Floor.{All}

-- a list takes up what its elements take up, and a cell for each
unfoldable pub extents : (ℕ → ℕ) → List ℕ → ℕ
extents extent [] = 0
extents extent (x ∷ xs) = suc (extent x + extents extent xs)

-- a term takes up one record, and what its body or its arguments take up
unfoldable pub extent : ℕ → List ℕ → ℕ → ℕ
extent zero ws r = 0
extent (suc f) ws r =
    suc (elim (form ws r) [
      | lambda ↦ extent f ws (field_a ws r)
      | constant ↦ extents (λ x. extent f ws x) (arguments ws r)
      | variable ↦ extents (λ x. extent f ws x) (arguments ws r)
      | hole ↦ extents (λ x. extent f ws x) (arguments ws r)
    ])

module _ (f : ℕ) (ws : List ℕ) (r : ℕ) where
  pub extent_lambda : tag ws r ≡ LA → extent (suc f) ws r ≡ suc (extent f ws (field_a ws r))
  unfolding extent
  extent_lambda e = rw (form_6 ws r e, extent)

  pub extent-applied : 7 ≤ tag ws r → tag ws r ≤ 9 → extent (suc f) ws r ≡ suc (extents (λ x. extent f ws x) (elements ws (field_b ws r)))
  unfolding extent arguments
  extent-applied lo hi = go (ℕ_discrete (tag ws r) CA) (ℕ_discrete (tag ws r) VA)
    where
      go : Dec (tag ws r ≡ CA) → Dec (tag ws r ≡ VA) → extent (suc f) ws r ≡ suc (extents (λ x. extent f ws x) (elements ws (field_b ws r)))
      go (yes c) v = rw (form_7 ws r c, extent)
      go (no c) (yes v) = rw (form_8 ws r v, extent)
      go (no c) (no v) = rw (form_9 ws r (omega arith), extent)

-- elements that take up the same
pub extents_same : (f g : ℕ → ℕ) (P : ℕ → Type 0) → ((x : ℕ) → P x → f x ≡ g x) → (xs : List ℕ) → All P xs → extents f xs ≡ extents g xs
unfolding extents
extents_same f g P same [] h = refl
extents_same f g P same (x ∷ xs) h = rw (same x h.0, extents_same f g P same xs h.1)
