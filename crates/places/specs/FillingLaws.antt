-- An array of places filled along a list of the table, from the first position on.
use Rattle.std.specs.Prelude.{ℕ, suc, ◌+◌, ◌<◌, ◌≤◌, ◌≡◌, refl}
use Rattle.std.proofs.Math.Path.{sym, ap}
use Rattle.std.proofs.Common.{◌∙◌, add-one, take-suc-set}
use mathlib.Core.List.{List, [], ◌∷◌, ◌++◌, append-nil, append_assoc}
use native.Mathlib.Omega.{arith}
use Rattle.std.proofs.Math.ListN.{length}
use Rattle.places.specs.declared.Map.{Map}
use Rattle.places.specs.Maps.{places_of, Unplaced, Pushed}
use Rattle.places.specs.MapsLaws.{places_length}

-- what is filled in for these elements, from position j on
unfoldable pub fill : (ℕ → ℕ → ℕ) → ℕ → List ℕ → List ℕ
fill g j [] = []
fill g j (x ∷ xs) = g j x ∷ fill g (j + 1) xs

-- filling: the places of the map, and what is to be filled in for the elements xs that are left, are what the elements ys ask for
pub record Filling (g : ℕ → ℕ → ℕ) (ys : List ℕ) (m : Map) (xs : List ℕ) : Type 0 where
  pub room : m.len + length xs ≤ 16
  pub same : places_of m ++ fill g m.len xs ≡ fill g 0 ys

-- filled
pub record Filled (g : ℕ → ℕ → ℕ) (ys : List ℕ) (r : Map) : Type 0 where
  pub places : places_of r ≡ fill g 0 ys
  pub len : r.len ≡ length ys

pub fill-length : (g : ℕ → ℕ → ℕ) (j : ℕ) (xs : List ℕ) → length (fill g j xs) ≡ length xs
unfolding fill
fill-length g j [] = refl
fill-length g j (x ∷ xs) = ap suc (fill-length g (j + 1) xs)

module _ (g : ℕ → ℕ → ℕ) (ys : List ℕ) (m : Map) where
  pub filling-first : length ys ≤ 16 → Unplaced m → Filling g ys m ys
  filling-first f e = let z = e.len in record { room = omega arith; same = rw z }

  module _ (xs : List ℕ) (h : Filling g ys m xs) where
    pub filling_end : xs ≡ [] → Filled g ys m
    unfolding fill
    filling_end e =
        let s : places_of m ≡ fill g 0 ys = sym (append-nil (places_of m)) ∙ (rw e at h.same) in
        record { places = s; len = sym (places_length m) ∙ ap length s ∙ fill-length g 0 ys }

    module _ (x : ℕ) (zs : List ℕ) (e : xs ≡ x ∷ zs) where
      room_rest : (m.len + 1) + length zs ≤ 16
      room_rest = let c : m.len + length (x ∷ zs) ≤ 16 = rw e at h.room in omega arith

      pub filling_room : m.len < 16
      filling_room = let r = room_rest in omega arith

      pub filling-more : (v : ℕ) (m₁ : Map) → g m.len x ≡ v → Pushed m v m₁ → Filling g ys m₁ zs
      unfolding fill
      filling-more v m₁ q p =
          let a = m.whole in
          let r = filling_room in
          let k : m.len < length m.places = omega arith in
          let z = p.len in
          let t : places_of m₁ ≡ places_of m ++ (v ∷ []) = rw (p.len, p.places, add-one m.len) (take-suc-set m.places m.len v k) in
          let c : places_of m ++ (g m.len x ∷ fill g (m.len + 1) zs) ≡ fill g 0 ys = rw e at h.same in
          record { room = rw z room_rest; same = rw (t, z, append_assoc (places_of m) (v ∷ []), ← q) c }
