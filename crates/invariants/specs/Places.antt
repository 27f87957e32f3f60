-- How high a map leads, and how long it is.
use Rattle.std.specs.Prelude.{ℕ, suc, ◌+◌, ◌-◌, ◌<◌, ◌≤◌, ◌≡◌, refl, List, [], ◌∷◌, length, Option, Some, None}
use Rattle.std.proofs.Common.{arith, lt-ltb, le-ltb, eq-eqb, ne_eqb}
use Rattle.std.proofs.Math.Decide.{dec_lt, ℕ_discrete}
use Rattle.rules.specs.Map.{Map, sources, targets, lookup, place_of, to_positions, to_variables, follow}
use Rattle.invariants.specs.Floor.{All}
use Rattle.invariants.specs.Grow.{all_map}

-- the places lead no higher than T
pub record Low (m : Map) (T : ℕ) : Type 0 where
  pub low : (v w : ℕ) → lookup m v ≡ Some w → w ≤ T

low_none : (T : ℕ) → Low [] T
unfolding lookup
low_none T = record { low = λ v w e. let z : ◌≡◌ {A = ℕ} 0 1 = cc in absurd (omega arith) }

low_more : (j y T : ℕ) (m : Map) → y ≤ T → Low m T → Low ((j, y) ∷ m) T
unfolding lookup
low_more j y T m h l = record { low = λ v w q. at v w q (ℕ_discrete j v) }
  where
    at : (v w : ℕ) → lookup ((j, y) ∷ m) v ≡ Some w → Dec (j ≡ v) → w ≤ T
    at v w q (yes f) = let g : Some y ≡ Some w = (rw (eq-eqb _ _ f, lookup) at q) in let z : y ≡ w = cc in omega arith
    at v w q (no f) = let g : lookup m v ≡ Some w = (rw (ne_eqb _ _ f, lookup) at q) in l.low v w g

pub place_low : (m : Map) (d T v w : ℕ) → Low m T → place_of m d v ≡ Some w → w ≤ T + d
unfolding place_of
place_low m d T v w h e = go (dec_lt v d) (lookup m (v - d)) refl
  where
    go : Dec (v < d) → (s : Option ℕ) → lookup m (v - d) ≡ s → w ≤ T + d
    go (yes l) s p = let q : Some v ≡ Some w = (rw (lt-ltb _ _ l, place_of) at e) in let z : v ≡ w = cc in omega arith
    go (no l) (Some x) p =
        let le : d ≤ v = omega arith in
        let q : Some (x + d) ≡ Some w = (rw (le-ltb _ _ le, place_of, p) at e) in
        let z : x + d ≡ w = cc in
        let k = h.low (v - d) x p in
        omega arith
    go (no l) None p =
        let le : d ≤ v = omega arith in
        let q : None ≡ Some w = (rw (le-ltb _ _ le, place_of, p) at e) in
        let z : ◌≡◌ {A = ℕ} 0 1 = cc in absurd (omega arith)

-- what is said of a map that follows arguments
pub record Followed (j k T : ℕ) (m : Map) : Type 0 where
  pub low : Low m T
  pub few : length m ≤ k
  pub to : All (λ w. w ≤ T) (targets m)
  pub from : All (λ w. w < j + k) (sources m)

pub followed_wider : (j k l T most : ℕ) (m : Map) → k ≤ l → T ≤ most → Followed j k T m → Followed j l most m
followed_wider j k l T most m h g f =
    let fe = f.few in
    record {
      low = record { low = λ v w q. let le = f.low.low v w q in omega arith };
      few = omega arith;
      to = all_map (λ w. w ≤ T) (λ w. w ≤ most) (λ w q. omega arith) (targets m) f.to;
      from = all_map (λ w. w < j + k) (λ w. w < j + l) (λ w q. omega arith) (sources m) f.from;
    }

-- the map that follows leads no higher than T + d, and is no longer than the arguments
pub followed : (m : Map) (d T j : ℕ) (xs : List ℕ) → Low m T → Followed j (length xs) (T + d) (follow m d j xs)
unfolding follow
followed m d T j [] h = record { low = low_none (T + d); few = omega arith; to = tt; from = tt }
followed m d T j (x ∷ xs) h = go (place_of m d x) refl (followed m d T (j + 1) xs h)
  where
    go : (p : Option ℕ) → place_of m d x ≡ p → Followed (j + 1) (length xs) (T + d) (follow m d (j + 1) xs) → Followed j (suc (length xs)) (T + d) (follow m d j (x ∷ xs))
    go None e ih =
        rw (e, follow) (record { low = ih.low; few = omega arith; to = ih.to; from = all_map (λ w. w < j + 1 + length xs) (λ w. w < j + suc (length xs)) (λ w l. omega arith) (sources (follow m d (j + 1) xs)) ih.from })
    go (Some y) e ih =
        let y_low = place_low m d T x y h e in
        rw (e, follow)
        (record {
          low = low_more j y (T + d) (follow m d (j + 1) xs) y_low ih.low;
          few = omega arith;
          to = (y_low, ih.to);
          from = (omega arith, all_map (λ w. w < j + 1 + length xs) (λ w. w < j + suc (length xs)) (λ w l. omega arith) (sources (follow m d (j + 1) xs)) ih.from);
        })

-- to each variable from its position
pub variables_low : (j T : ℕ) (xs : List ℕ) → All (λ v. v ≤ T) xs → Low (to_variables j xs) T
unfolding to_variables
variables_low j T [] h = low_none T
variables_low j T (x ∷ xs) h = low_more j x T (to_variables (j + 1) xs) h.0 (variables_low (j + 1) T xs h.1)

-- to each position from its variable
pub positions_low : (j T : ℕ) (xs : List ℕ) → j + length xs ≤ T → Low (to_positions j xs) T
unfolding to_positions
positions_low j T [] h = low_none T
positions_low j T (x ∷ xs) h = low_more x j T (to_positions (j + 1) xs) (omega arith) (positions_low (j + 1) T xs (omega arith))
