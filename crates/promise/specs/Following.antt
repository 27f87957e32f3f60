-- The map that follows a hole's arguments, and the positions that it keeps.
use Prim.Native.Nat.{ℕ, zero, suc, ◌+◌, ◌<◌, ◌≤◌}
use Rattle.std.specs.Prelude.{◌≡◌, Option, ℕ, Some, None}
use Rattle.std.proofs.Math.Path.{refl, sym, ap, ap₂}
use Rattle.std.proofs.Common.{◌∙◌}
use mathlib.Core.List.{List, [], ◌∷◌, map}
use Rattle.std.proofs.Math.Option.{some, none-ne-some}
use native.Mathlib.Omega.{arith}
use Rattle.std.proofs.Math.Decide.{ℕ_discrete}
use Rattle.std.proofs.Math.ListN.{length}
use Rattle.rules.specs.Map.{Map, sources, targets, lookup, place_of, follow}
use Rattle.trees.specs.Tree.{AllL, Distinct, nth}
use Rattle.trees.specs.Moves.{omap2, map_m, Def, Place, Covers, After}
use Rattle.trees.specs.Free.{AllL-map}
use Rattle.promise.specs.Maps.{option, option_at, place, place_zero, lookup-here, lookup_on}
use Rattle.promise.specs.Positions.{StandsIn, stands_on, stands_here, stands_whole}

module _ (m : Map) (d : ℕ) where
  follow-placed : (i x w : ℕ) (xs : List ℕ) → place_of m d x ≡ Some w → follow m d i (x ∷ xs) ≡ (i, w) ∷ follow m d (i + 1) xs
  unfolding follow
  follow-placed i x w xs e = rw (e, follow)

  follow_dropped : (i x : ℕ) (xs : List ℕ) → place_of m d x ≡ None → follow m d i (x ∷ xs) ≡ follow m d (i + 1) xs
  unfolding follow
  follow_dropped i x xs e = rw (e, follow)

  follow_low : (i : ℕ) (xs : List ℕ) (v : ℕ) → v < i → lookup (follow m d i xs) v ≡ None
  unfolding follow lookup
  follow_low i [] v h = refl
  follow_low i (x ∷ xs) v h = go (place_of m d x) refl (follow_low (i + 1) xs v (omega arith))
    where
      go : (o : Option ℕ) → place_of m d x ≡ o → lookup (follow m d (i + 1) xs) v ≡ None → lookup (follow m d i (x ∷ xs)) v ≡ None
      go (Some w) e ih =
          let n : i ≡ v → ⊥ = omega arith in
          ap (λ z. lookup z v) (follow-placed i x w xs e) ∙ lookup_on i w (follow m d (i + 1) xs) v n ∙ ih
      go None e ih = ap (λ z. lookup z v) (follow_dropped i x xs e) ∙ ih

  follow_at_lem : (i : ℕ) (xs : List ℕ) (j : ℕ) → j < length xs → option (lookup (follow m d i xs) (i + j)) ≡ place m d (nth xs j)
  follow_at_lem i [] j h = absurd (omega arith)
  follow_at_lem i (x ∷ xs) zero h = go (place_of m d x) refl
    where
      go : (o : Option ℕ) → place_of m d x ≡ o → option (lookup (follow m d i (x ∷ xs)) (i + 0)) ≡ option (place_of m d x)
      go (Some w) e =
          ap (λ z. option (lookup z (i + 0))) (follow-placed i x w xs e) ∙ ap option (lookup-here i w (follow m d (i + 1) xs) (i + 0) (omega arith))
          ∙ sym (ap option e)
      go None e =
          ap (λ z. option (lookup z (i + 0))) (follow_dropped i x xs e) ∙ ap option (follow_low (i + 1) xs (i + 0) (omega arith)) ∙ sym (ap option e)
  follow_at_lem i (x ∷ xs) (suc j) h = go (place_of m d x) refl (follow_at_lem (i + 1) xs j (omega arith))
    where
      k : i + 1 + j ≡ i + suc j
      k = omega arith

      go : (o : Option ℕ) → place_of m d x ≡ o → option (lookup (follow m d (i + 1) xs) (i + 1 + j)) ≡ place m d (nth xs j)
          → option (lookup (follow m d i (x ∷ xs)) (i + suc j)) ≡ place m d (nth xs j)
      go (Some w) e ih =
          let n : i ≡ i + suc j → ⊥ = omega arith in
          ap (λ z. option (lookup z (i + suc j))) (follow-placed i x w xs e) ∙ ap option (lookup_on i w (follow m d (i + 1) xs) (i + suc j) n)
          ∙ (rw k at ih)
      go None e ih = ap (λ z. option (lookup z (i + suc j))) (follow_dropped i x xs e) ∙ (rw k at ih)

  -- below a solved hole
  pub follow_after : (ys : List ℕ) → After (place m d) ys (place (follow m d 0 ys) 0)
  follow_after ys j h =
      let e : j ≡ 0 + j = omega arith in
      place_zero (follow m d 0 ys) j ∙ ap (λ k. option (lookup (follow m d 0 ys) k)) e ∙ follow_at_lem 0 ys j h

  -- all kept
  follow-length : (i : ℕ) (xs : List ℕ) → length (follow m d i xs) ≤ length xs
  unfolding follow
  follow-length i [] = omega arith
  follow-length i (x ∷ xs) = go (place_of m d x) refl (follow-length (i + 1) xs)
    where
      go : (o : Option ℕ) → place_of m d x ≡ o → length (follow m d (i + 1) xs) ≤ length xs → length (follow m d i (x ∷ xs)) ≤ suc (length xs)
      go (Some w) e ih = rw (follow-placed i x w xs e) (omega arith)
      go None e ih = rw (follow_dropped i x xs e) (omega arith)

  pub follow-all : (i : ℕ) (xs : List ℕ) → length (follow m d i xs) ≡ length xs → map_m (place m d) xs ≡ some (targets (follow m d i xs))
  unfolding follow
  follow-all i [] h = refl
  follow-all i (x ∷ xs) h = go (place_of m d x) refl (follow-all (i + 1) xs)
    where
      go : (o : Option ℕ) → place_of m d x ≡ o → (length (follow m d (i + 1) xs) ≡ length xs → map_m (place m d) xs ≡ some (targets (follow m d (i + 1) xs)))
          → map_m (place m d) (x ∷ xs) ≡ some (targets (follow m d i (x ∷ xs)))
      go (Some w) e ih =
          let k : suc (length (follow m d (i + 1) xs)) ≡ suc (length xs) = sym (ap length (follow-placed i x w xs e)) ∙ h in
          ap₂ (omap2 ◌∷◌) (ap option e) (ih (omega arith)) ∙ sym (ap (λ z. some (targets z)) (follow-placed i x w xs e))
      go None e ih =
          let k : length (follow m d (i + 1) xs) ≡ suc (length xs) = sym (ap length (follow_dropped i x xs e)) ∙ h in
          let l = follow-length (i + 1) xs in
          absurd (omega arith)

  -- the kept positions
  kept_between : (i : ℕ) (xs : List ℕ) → AllL (λ k. (i ≤ k) × (k < i + length xs)) (sources (follow m d i xs))
  unfolding follow
  kept_between i [] = tt
  kept_between i (x ∷ xs) = go (place_of m d x) refl (AllL-map (λ k h. (omega arith, omega arith)) (sources (follow m d (i + 1) xs)) (kept_between (i + 1) xs))
    where
      go : (o : Option ℕ) → place_of m d x ≡ o → AllL (λ k. (i + 1 ≤ k) × (k < i + length (x ∷ xs))) (sources (follow m d (i + 1) xs))
          → AllL (λ k. (i ≤ k) × (k < i + length (x ∷ xs))) (sources (follow m d i (x ∷ xs)))
      go (Some w) e ih = rw (follow-placed i x w xs e) ((omega arith, omega arith), AllL-map (λ k h. (omega arith, omega arith)) (sources (follow m d (i + 1) xs)) ih)
      go None e ih = rw (follow_dropped i x xs e) (AllL-map (λ k h. (omega arith, omega arith)) (sources (follow m d (i + 1) xs)) ih)

  pub kept-distinct : (i : ℕ) (xs : List ℕ) → Distinct (sources (follow m d i xs))
  unfolding follow
  kept-distinct i [] = tt
  kept-distinct i (x ∷ xs) = go (place_of m d x) refl (kept-distinct (i + 1) xs)
    where
      go : (o : Option ℕ) → place_of m d x ≡ o → Distinct (sources (follow m d (i + 1) xs)) → Distinct (sources (follow m d i (x ∷ xs)))
      go (Some w) e ih =
          rw (follow-placed i x w xs e) (AllL-map (λ k h. omega arith) (sources (follow m d (i + 1) xs)) (kept_between (i + 1) xs), ih)
      go None e ih = rw (follow_dropped i x xs e) ih

  kept-map_m : (i : ℕ) (xs ys : List ℕ) → StandsIn i xs ys
      → map_m (λ k. place m d (nth ys k)) (sources (follow m d i xs)) ≡ some (targets (follow m d i xs))
  unfolding follow
  kept-map_m i [] ys s = refl
  kept-map_m i (x ∷ xs) ys s = go (place_of m d x) refl (kept-map_m (i + 1) xs ys (stands_on i x xs ys s))
    where
      go : (o : Option ℕ) → place_of m d x ≡ o → map_m (λ k. place m d (nth ys k)) (sources (follow m d (i + 1) xs)) ≡ some (targets (follow m d (i + 1) xs))
          → map_m (λ k. place m d (nth ys k)) (sources (follow m d i (x ∷ xs))) ≡ some (targets (follow m d i (x ∷ xs)))
      go (Some w) e ih =
          rw (follow-placed i x w xs e) (ap₂ (omap2 ◌∷◌) (ap (place m d) (stands_here i x xs ys s) ∙ ap option e) ih)
      go None e ih = rw (follow_dropped i x xs e) ih

  kept-place : (i : ℕ) (xs ys : List ℕ) → StandsIn i xs ys → (j : ℕ) → i ≤ j → j < i + length xs → Def (λ k. place m d (nth ys k)) j
      → Place (sources (follow m d i xs)) j
  kept-place i [] ys s j a b c = absurd (omega arith)
  kept-place i (x ∷ xs) ys s j a b c = go (place_of m d x) refl (ℕ_discrete i j) (λ z. kept-place (i + 1) xs ys (stands_on i x xs ys s) j z (omega arith) c)
    where
      go : (o : Option ℕ) → place_of m d x ≡ o → Dec (i ≡ j) → (i + 1 ≤ j → Place (sources (follow m d (i + 1) xs)) j)
          → Place (sources (follow m d i (x ∷ xs))) j
      go (Some w) e (yes q) ih = rw (follow-placed i x w xs e) (0, omega arith, q)
      go (Some w) e (no q) ih = let z = ih (omega arith) in rw (follow-placed i x w xs e) (suc z.0, omega (arith, z.1), z.2)
      go None e (yes q) ih =
          absurd (none-ne-some c.0 (sym (ap option e) ∙ ap (place m d) (sym (stands_here i x xs ys s) ∙ ap (nth ys) q) ∙ c.1))
      go None e (no q) ih = rw (follow_dropped i x xs e) (ih (omega arith))

  pub kept_covers : (ys : List ℕ) → Covers (Def (λ j. place m d (nth ys j))) (length ys) (sources (follow m d 0 ys))
  kept_covers ys j h c = kept-place 0 ys ys (stands_whole ys) j (omega arith) (omega arith) c

  pub kept-written : (ys : List ℕ) → map_m (λ j. place m d (nth ys j)) (sources (follow m d 0 ys)) ≡ some (targets (follow m d 0 ys))
  kept-written ys = kept-map_m 0 ys ys (stands_whole ys)

  pub kept-below : (ys : List ℕ) → AllL (λ j. j < length ys) (sources (follow m d 0 ys))
  kept-below ys = AllL-map (λ k h. omega (arith, h.1)) (sources (follow m d 0 ys)) (kept_between 0 ys)

  -- where every argument has a place
  pub follow_total : (f : ℕ → ℕ) (i : ℕ) (xs : List ℕ) → AllL (λ j. place m d j ≡ some (f j)) xs → targets (follow m d i xs) ≡ map f xs
  unfolding follow
  follow_total f i [] h = refl
  follow_total f i (x ∷ xs) h =
      ap targets (follow-placed i x (f x) xs (option_at (place_of m d x) (f x) h.0)) ∙ ap (f x ∷◌) (follow_total f (i + 1) xs h.1)
