-- How high a map leads, exactly: below the number of variables in scope where the term is written; and where it leads everywhere.
use Rattle.std.specs.Prelude.{ℕ, ◌+◌, ◌-◌, ◌<◌, ◌≤◌, ◌≡◌, refl, List, [], ◌∷◌, length, Option, Some, None}
use Rattle.std.proofs.Common.{sym, ◌∙◌, arith, lt-ltb, le-ltb}
use Rattle.std.proofs.Math.Decide.{dec_lt, ℕ_discrete}
use Rattle.rules.specs.Map.{Map, sources, targets, lookup, place_of, to_positions, to_variables, follow}
use Rattle.invariants.specs.Floor.{All}
use Rattle.invariants.specs.Places.{followed as weakly}
use Rattle.promise.specs.Maps.{lookup-here, lookup_on}

-- every place is below T
abbrev pub Leads : Map → ℕ → Type 0
Leads m T = (v w : ℕ) → lookup m v ≡ Some w → w < T

leads_none : (T : ℕ) → Leads [] T
unfolding lookup
leads_none T v w e = let z : ◌≡◌ {A = ℕ} 0 1 = cc in absurd (omega arith)

leads-more : (j y T : ℕ) (m : Map) → y < T → Leads m T → Leads ((j, y) ∷ m) T
leads-more j y T m h l v w q = at (ℕ_discrete j v)
  where
    at : Dec (j ≡ v) → w < T
    at (yes f) = let g : Some y ≡ Some w = sym (lookup-here j y m v f) ∙ q in let z : y ≡ w = cc in omega arith
    at (no f) = l v w (sym (lookup_on j y m v f) ∙ q)

-- under d lambdas
pub place-below : (m : Map) (d T v w : ℕ) → Leads m T → place_of m d v ≡ Some w → w < T + d
unfolding place_of
place-below m d T v w h e = go (dec_lt v d) (lookup m (v - d)) refl
  where
    go : Dec (v < d) → (s : Option ℕ) → lookup m (v - d) ≡ s → w < T + d
    go (yes l) s p = let q : Some v ≡ Some w = (rw (lt-ltb _ _ l, place_of) at e) in let z : v ≡ w = cc in omega arith
    go (no l) (Some x) p =
        let le : d ≤ v = omega arith in
        let q : Some (x + d) ≡ Some w = (rw (le-ltb _ _ le, place_of, p) at e) in
        let z : x + d ≡ w = cc in
        let k = h (v - d) x p in
        omega arith
    go (no l) None p =
        let le : d ≤ v = omega arith in
        let q : None ≡ Some w = (rw (le-ltb _ _ le, place_of, p) at e) in
        let z : ◌≡◌ {A = ℕ} 0 1 = cc in absurd (omega arith)

-- a map that follows k arguments, counted from j
pub record Followed (j k T : ℕ) (m : Map) : Type 0 where
  pub leads : Leads m T
  pub few : length m ≤ k
  pub to : All (λ w. w < T) (targets m)
  pub from : All (λ w. w < j + k) (sources m)

follow-leads : (m : Map) (d T j : ℕ) (xs : List ℕ) → Leads m T → Leads (follow m d j xs) (T + d) × All (λ w. w < T + d) (targets (follow m d j xs))
unfolding follow
follow-leads m d T j [] h = (leads_none (T + d), tt)
follow-leads m d T j (x ∷ xs) h = go (place_of m d x) refl (follow-leads m d T (j + 1) xs h)
  where
    go : (p : Option ℕ) → place_of m d x ≡ p → Leads (follow m d (j + 1) xs) (T + d) × All (λ w. w < T + d) (targets (follow m d (j + 1) xs))
        → Leads (follow m d j (x ∷ xs)) (T + d) × All (λ w. w < T + d) (targets (follow m d j (x ∷ xs)))
    go None e ih = rw (e, follow) ih
    go (Some y) e ih = let low = place-below m d T x y h e in rw (e, follow) (leads-more j y (T + d) (follow m d (j + 1) xs) low ih.0, (low, ih.1))

pub followed : (m : Map) (d T j : ℕ) (xs : List ℕ) → Leads m T → Followed j (length xs) (T + d) (follow m d j xs)
followed m d T j xs h =
    let p = follow-leads m d T j xs h in
    let q = weakly m d T j xs (record { low = λ v w e. let l = h v w e in omega arith }) in
    record { leads = p.0; few = q.few; to = p.1; from = q.from }

pub variables_lead : (j T : ℕ) (xs : List ℕ) → All (λ v. v < T) xs → Leads (to_variables j xs) T
unfolding to_variables
variables_lead j T [] h = leads_none T
variables_lead j T (x ∷ xs) h = leads-more j x T (to_variables (j + 1) xs) h.0 (variables_lead (j + 1) T xs h.1)

pub positions_lead : (j T : ℕ) (xs : List ℕ) → j + length xs ≤ T → Leads (to_positions j xs) T
unfolding to_positions
positions_lead j T [] h = leads_none T
positions_lead j T (x ∷ xs) h = leads-more x j T (to_positions (j + 1) xs) (omega arith) (positions_lead (j + 1) T xs (omega arith))

-- every variable below b has a place
abbrev pub Total : Map → ℕ → Type 0
Total m b = (v : ℕ) → v < b → (w : ℕ) × (lookup m v ≡ Some w)

total_from : (j v : ℕ) (xs : List ℕ) → j ≤ v → v < j + length xs → (w : ℕ) × (lookup (to_variables j xs) v ≡ Some w)
unfolding to_variables
total_from j v [] lo hi = absurd (omega arith)
total_from j v (x ∷ xs) lo hi = go (ℕ_discrete j v) (total_from (j + 1) v xs)
  where
    go : Dec (j ≡ v) → (j + 1 ≤ v → v < j + 1 + length xs → (w : ℕ) × (lookup (to_variables (j + 1) xs) v ≡ Some w)) → (w : ℕ) × (lookup ((j, x) ∷ to_variables (j + 1) xs) v ≡ Some w)
    go (yes e) ih = (x, lookup-here j x (to_variables (j + 1) xs) v e)
    go (no e) ih = let p = ih (omega arith) (omega arith) in (p.0, lookup_on j x (to_variables (j + 1) xs) v e ∙ p.1)

pub variables_total : (xs : List ℕ) → Total (to_variables 0 xs) (length xs)
variables_total xs v h = total_from 0 v xs (omega arith) (omega arith)

placed : (m : Map) (b d v : ℕ) → Total m b → v < b + d → (w : ℕ) × (place_of m d v ≡ Some w)
unfolding place_of
placed m b d v t h = go (dec_lt v d)
  where
    go : Dec (v < d) → (w : ℕ) × (place_of m d v ≡ Some w)
    go (yes l) = (v, rw (lt-ltb _ _ l, place_of))
    go (no l) = let le : d ≤ v = omega arith in let p = t (v - d) (omega arith) in (p.0 + d, rw (le-ltb _ _ le, place_of, p.1))

-- then no argument is dropped
pub follow-all : (m : Map) (b d j : ℕ) (xs : List ℕ) → Total m b → All (λ v. v < b + d) xs → length (follow m d j xs) ≡ length xs
unfolding follow
follow-all m b d j [] t h = refl
follow-all m b d j (x ∷ xs) t h =
    let p = placed m b d x t h.0 in
    let ih = follow-all m b d (j + 1) xs t h.1 in
    rw (p.1, follow, ih)
