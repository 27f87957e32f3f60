-- The maps of the rules as partial maps: what a map says at a depth, from positions to variables and back.
use Rattle.std.specs.Prelude.{ℕ, zero, suc, ◌+◌, ◌-◌, ◌<◌, ◌≤◌, ◌≡◌, refl, List, [], ◌∷◌, ◌≢◌, length, Option as Found, Some, None}
use Rattle.std.proofs.Common.{sym, ap, ◌∙◌, arith, lt-ltb, le-ltb, eq-eqb, ne_eqb}
use Rattle.std.proofs.Math.Path.{fun_ext}
use Rattle.std.proofs.Math.Option.{Option, none, some, none-ne-some, some-injective}
use Rattle.std.proofs.Math.Decide.{dec_lt, ℕ_discrete}
use Rattle.rules.specs.Map.{Map, lookup, place_of, to_positions, to_variables}
use Rattle.trees.specs.Tree.{AllL, Distinct, nth}
use Rattle.trees.specs.Moves.{omap, liftp, Inverts}

-- a search's answer as an option
abbrev pub option : Found ℕ → Option ℕ
option (Some v) = some v
option None = none

pub option_at : (x : Found ℕ) (v : ℕ) → option x ≡ some v → x ≡ Some v
option_at (Some w) v e = ap Some (some-injective w v e)
option_at None v e = absurd (none-ne-some v e)

-- the partial map that a map is, under d lambdas
abbrev pub place : Map → ℕ → ℕ → Option ℕ
place m d v = option (place_of m d v)

-- one more lambda
shifted : (d : ℕ) (x : Found ℕ) → option (elim x as (λ _. Found ℕ) [ Some w ↦ Some (w + (d + 1)) | None ↦ None ]) ≡ omap suc (option (elim x as (λ _. Found ℕ) [ Some w ↦ Some (w + d) | None ↦ None ]))
shifted d (Some w) = ap some (omega arith)
shifted d None = refl

pub place-lift : (m : Map) (d : ℕ) → place m (d + 1) ≡ liftp (place m d)
unfolding place_of
place-lift m d = fun_ext (elim [ zero ↦ at_zero | suc v ↦ at_suc v (dec_lt v d) ])
  where
    at_zero : place m (d + 1) 0 ≡ some 0
    at_zero = let h : 0 < d + 1 = omega arith in rw (lt-ltb 0 (d + 1) h, place_of)

    at_suc : (v : ℕ) → Dec (v < d) → place m (d + 1) (suc v) ≡ omap suc (place m d v)
    at_suc v (yes h) = let k : suc v < d + 1 = omega arith in rw (lt-ltb (suc v) (d + 1) k, lt-ltb v d h, place_of)
    at_suc v (no h) =
        let k : d + 1 ≤ suc v = omega arith in
        let l : d ≤ v = omega arith in
        let e : suc v - (d + 1) ≡ v - d = omega arith in
        rw (le-ltb (suc v) (d + 1) k, le-ltb v d l, place_of, e) (shifted d (lookup m (v - d)))

-- the map at depth 0 is the lookup
zeroed : (x : Found ℕ) → option (elim x as (λ _. Found ℕ) [ Some w ↦ Some (w + 0) | None ↦ None ]) ≡ option x
zeroed (Some w) = ap some (omega arith)
zeroed None = refl

pub place_zero : (m : Map) (v : ℕ) → place m 0 v ≡ option (lookup m v)
unfolding place_of
place_zero m v = let h : 0 ≤ v = omega arith in let e : v - 0 ≡ v = omega arith in rw (le-ltb v 0 h, place_of, e) (zeroed (lookup m v))

pub lookup-here : (x y : ℕ) (m : Map) (v : ℕ) → x ≡ v → lookup ((x, y) ∷ m) v ≡ Some y
unfolding lookup
lookup-here x y m v e = rw (eq-eqb x v e, lookup)

pub lookup_on : (x y : ℕ) (m : Map) (v : ℕ) → (x ≡ v → ⊥) → lookup ((x, y) ∷ m) v ≡ lookup m v
unfolding lookup
lookup_on x y m v e = rw (ne_eqb x v e, lookup)

-- from each position to its variable
variables_at : (i : ℕ) (xs : List ℕ) (j : ℕ) → j < length xs → option (lookup (to_variables i xs) (i + j)) ≡ some (nth xs j)
unfolding to_variables
variables_at i [] j h = absurd (omega arith)
variables_at i (x ∷ xs) zero h = ap option (lookup-here i x (to_variables (i + 1) xs) (i + 0) (omega arith))
variables_at i (x ∷ xs) (suc j) h =
    let n : i ≡ i + suc j → ⊥ = omega arith in
    let e : i + suc j ≡ i + 1 + j = omega arith in
    ap option (lookup_on i x (to_variables (i + 1) xs) (i + suc j) n) ∙ rw e (variables_at (i + 1) xs j (omega arith))

pub place-variables : (xs : List ℕ) (j : ℕ) → j < length xs → place (to_variables 0 xs) 0 j ≡ some (nth xs j)
place-variables xs j h = place_zero (to_variables 0 xs) j ∙ (let e : j ≡ 0 + j = omega arith in ap (λ k. option (lookup (to_variables 0 xs) k)) e ∙ variables_at 0 xs j h)

-- from each variable to its position: the inverse of different arguments
positions_at : (i : ℕ) (xs : List ℕ) → Distinct xs → (j : ℕ) → j < length xs → option (lookup (to_positions i xs) (nth xs j)) ≡ some (i + j)
unfolding to_positions
positions_at i [] d j h = absurd (omega arith)
positions_at i (x ∷ xs) d zero h = ap option (lookup-here x i (to_positions (i + 1) xs) x refl) ∙ ap some (omega arith)
positions_at i (x ∷ xs) d (suc j) h =
    ap option (lookup_on x i (to_positions (i + 1) xs) (nth xs j) (λ e. other xs d.0 j (omega arith) (sym e))) ∙ positions_at (i + 1) xs d.1 j (omega arith)
    ∙ ap some (omega arith)
  where
    other : (ys : List ℕ) → AllL (λ y. y ≢ x) ys → (j : ℕ) → j < length ys → nth ys j ≡ x → ⊥
    other [] a j h = absurd (omega arith)
    other (y ∷ ys) a zero h = a.0
    other (y ∷ ys) a (suc j) h = other ys a.1 j (omega arith)

positions_back : (i : ℕ) (xs : List ℕ) (v w : ℕ) → option (lookup (to_positions i xs) v) ≡ some w → (j : ℕ) × (w ≡ i + j) × (j < length xs) × (nth xs j ≡ v)
unfolding to_positions lookup
positions_back i [] v w e = absurd (none-ne-some w e)
positions_back i (x ∷ xs) v w e = go (ℕ_discrete x v) (positions_back (i + 1) xs v w)
  where
    go : Dec (x ≡ v) → (option (lookup (to_positions (i + 1) xs) v) ≡ some w → (j : ℕ) × (w ≡ i + 1 + j) × (j < length xs) × (nth xs j ≡ v))
        → (j : ℕ) × (w ≡ i + j) × (j < suc (length xs)) × (nth (x ∷ xs) j ≡ v)
    go (yes q) r =
        let z : i ≡ w = some-injective i w (sym (ap option (lookup-here x i (to_positions (i + 1) xs) v q)) ∙ e) in
        (0, omega arith, omega arith, q)
    go (no q) r =
        let b = r (sym (ap option (lookup_on x i (to_positions (i + 1) xs) v q)) ∙ e) in
        (suc b.0, omega (arith, b.1), omega (arith, b.2), b.3)

pub place_inverts : (xs : List ℕ) → Distinct xs → Inverts (place (to_positions 0 xs) 0) xs
place_inverts xs d = (
  λ j h. place_zero (to_positions 0 xs) (nth xs j) ∙ positions_at 0 xs d j h ∙ ap some (omega arith),
  λ v w e.
      let b = positions_back 0 xs v w (sym (place_zero (to_positions 0 xs) v) ∙ e) in
      let z : w ≡ b.0 = omega (arith, b.1) in
      rw z (b.2, b.3),
)
