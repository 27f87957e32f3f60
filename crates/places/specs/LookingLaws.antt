-- Where a map leads, alone and under lambdas.
use Rattle.std.specs.Prelude.{ℕ, zero, suc, ◌+◌, ◌-◌, ◌<◌, ◌≤◌, ◌≡◌, List, [], ◌∷◌, Bool, true, false, length, get_or, drop, eqb, Option, Some, None, Option, Some, None}
use Rattle.std.proofs.Math.Path.{refl}
use Rattle.std.proofs.Common.{sym, ◌∙◌, add-one, drop-cons, drop_of_length-le, get_or-take, Fits}
use native.Mathlib.Omega.{arith}
use Rattle.std.proofs.Math.Decide.{ℕ_discrete}
use Rattle.std.proofs.Math.ListN.{get_or-eq_default}
use Rattle.std.specs.Int.{w32}
use borrow.Author.Tests.{lt-ltb, le-ltb, eq-eqb, ne_eqb}
use Rattle.table.specs.declared.Variable.{Variable}
use Rattle.places.specs.declared.Map.{Map}
use Rattle.rules.specs.Words.{NONE}
use Rattle.rules.specs.Map.{Map as Pairs, lookup, place_of, to_positions}
use Rattle.places.specs.Maps.{leads, places_of, map_of}
use Rattle.places.specs.MapsLaws.{leads_none, leads_some, places_length}
use Rattle.places.specs.Looking.{found_at, Looks, Within, seat}

-- the search for a place from the i-th position on
abbrev pub Ahead : Map → ℕ → ℕ → Type 0
Ahead m w i = lookup (map_of true m) w ≡ lookup (to_positions i (drop i (places_of m))) w

module _ (m : Map) (w : ℕ) where
  pub ahead-first : Ahead m w 0
  unfolding map_of
  ahead-first = refl

  module _ (i : ℕ) (h : Ahead m w i) where
    next : i < length (places_of m) → drop i (places_of m) ≡ get_or (places_of m) i 0 ∷ drop (i + 1) (places_of m)
    next g = rw (add-one i) (drop-cons (places_of m) i 0 g)

    pub ahead_hit : i < length (places_of m) → get_or (places_of m) i 0 ≡ w → lookup (map_of true m) w ≡ Some i
    unfolding to_positions lookup
    ahead_hit g e = h ∙ rw (next g, eq-eqb _ _ e, lookup)

    pub ahead_on : i < length (places_of m) → (get_or (places_of m) i 0 ≡ w → ⊥) → Ahead m w (i + 1)
    unfolding to_positions lookup
    ahead_on g e = h ∙ rw (next g, ne_eqb _ _ e, lookup)

    pub ahead_end : length (places_of m) ≤ i → lookup (map_of true m) w ≡ None
    unfolding to_positions lookup
    ahead_end g = h ∙ rw (drop_of_length-le (places_of m) g)

-- what a place says: NONE is no place
unfoldable pub found : ℕ → Option ℕ
found w = elim (eqb w NONE) [ true ↦ None | false ↦ Some w ]

found_none : (w : ℕ) → w ≡ NONE → found w ≡ None
unfolding found
found_none w e = rw (eq-eqb _ _ e, found)

found_some : (w : ℕ) → (w ≡ NONE → ⊥) → found w ≡ Some w
unfolding found
found_some w n = rw (ne_eqb _ _ n, found)

leads-below : (j : ℕ) (ws : List ℕ) (v : ℕ) → v < j → lookup (leads j ws) v ≡ None
unfolding leads lookup
leads-below j [] v h = refl
leads-below j (w ∷ ws) v h = go (ℕ_discrete w NONE) (leads-below (j + 1) ws v (omega arith))
  where
    go : Dec (w ≡ NONE) → lookup (leads (j + 1) ws) v ≡ None → lookup (leads j (w ∷ ws)) v ≡ None
    go (yes e) ih = rw (leads_none j w ws e) ih
    go (no e) ih = let n : j ≡ v → ⊥ = omega arith in rw (leads_some j w ws e, ne_eqb _ _ n, lookup) ih

leads_at : (j : ℕ) (ws : List ℕ) (v : ℕ) → lookup (leads j ws) (j + v) ≡ found (get_or ws v NONE)
unfolding leads lookup
leads_at j [] v = sym (found_none NONE refl)
leads_at j (w ∷ ws) zero = go (ℕ_discrete w NONE)
  where
    z : j + 0 ≡ j
    z = omega arith

    go : Dec (w ≡ NONE) → lookup (leads j (w ∷ ws)) (j + 0) ≡ found w
    go (yes e) = rw (leads_none j w ws e, z, found_none w e) (leads-below (j + 1) ws j (omega arith))
    go (no e) = rw (leads_some j w ws e, found_some w e, z, eq-eqb j j refl, lookup)
leads_at j (w ∷ ws) (suc v) = go (ℕ_discrete w NONE) (leads_at (j + 1) ws v)
  where
    z : j + suc v ≡ (j + 1) + v
    z = omega arith

    go : Dec (w ≡ NONE) → lookup (leads (j + 1) ws) ((j + 1) + v) ≡ found (get_or ws v NONE) → lookup (leads j (w ∷ ws)) (j + suc v) ≡ found (get_or ws v NONE)
    go (yes e) ih = rw (leads_none j w ws e, z) ih
    go (no e) ih = let n : j ≡ j + suc v → ⊥ = omega arith in rw (leads_some j w ws e, ne_eqb _ _ n, lookup, z) ih

get_d_within : (l : List ℕ) (i a b : ℕ) → i < length l → get_or l i a ≡ get_or l i b
get_d_within [] i a b h = absurd (omega arith)
get_d_within (x ∷ l) zero a b h = refl
get_d_within (x ∷ l) (suc i) a b h = get_d_within l i a b (omega arith)

module _ (m : Map) (v : ℕ) where
  found_at_lem : lookup (map_of false m) v ≡ found (get_or (places_of m) v NONE)
  unfolding map_of
  found_at_lem = let z : 0 + v ≡ v = omega arith in rw z at (leads_at 0 (places_of m) v)

  pub place_beyond : m.len ≤ v → lookup (map_of false m) v ≡ None
  place_beyond h =
      let l = places_length m in
      let k : length (places_of m) ≤ v = omega arith in
      found_at_lem ∙ found_none _ (get_or-eq_default (places_of m) NONE k)

  at_place : v < m.len → get_or (places_of m) v NONE ≡ get_or m.places v 0
  at_place h =
      let a = m.whole in
      let f = m.few in
      get_or-take m.len m.places v NONE h ∙ get_d_within m.places v NONE 0 (omega arith)

  pub place_none : v < m.len → get_or m.places v 0 ≡ NONE → lookup (map_of false m) v ≡ None
  place_none h e = found_at_lem ∙ found_none _ (at_place h ∙ e)

  pub place_some : v < m.len → (get_or m.places v 0 ≡ NONE → ⊥) → lookup (map_of false m) v ≡ Some (get_or m.places v 0)
  place_some h e = rw (found_at_lem, at_place h) (found_some _ e)

-- a way to read the map
pub look_above : (m : Map) (b : Bool) (v : ℕ) (r : Option ℕ) → b ≡ true → lookup (map_of true m) v ≡ r → lookup (map_of b m) v ≡ r
look_above m b v r e h = rw e h

pub look_inside : (m : Map) (b : Bool) (v : ℕ) (r : Option ℕ) → b ≡ false → lookup (map_of false m) v ≡ r → lookup (map_of b m) v ≡ r
look_inside m b v r e h = rw e h

module _ (m : Pairs) (d v : ℕ) where
  pub place_inner : v < d → place_of m d v ≡ Some v
  unfolding place_of
  place_inner h = rw (lt-ltb _ _ h, place_of)

  pub place_out : d ≤ v → lookup m (v - d) ≡ None → place_of m d v ≡ None
  unfolding place_of
  place_out h e = rw (le-ltb _ _ h, place_of, e)

  pub place_at : (w : ℕ) → d ≤ v → lookup m (v - d) ≡ Some w → place_of m d v ≡ Some (w + d)
  unfolding place_of
  place_at w h e = rw (le-ltb _ _ h, place_of, e)

  module _ (x : Option Variable) (h : d ≤ v) (e : lookup m (v - d) ≡ found_at x) where
    pub led_out : x ≡ None → place_of m d v ≡ None
    led_out f = place_out h (e ∙ rw f)

    pub led_at : (w : Variable) → x ≡ Some w → place_of m d v ≡ Some (w.0 + d)
    led_at w f = place_at w.0 h (e ∙ rw f)

pub place-fits : (b : Bool) (m : Map) (d v w : ℕ) → Looks b m d → lookup (map_of b m) v ≡ Some w → Fits w32 (w + d)
place-fits b m d v w h e = let k = h.low.low v w e in let g = h.fits in record { fits = omega arith }

pub led-fits : (b : Bool) (m : Map) (d v : ℕ) (x : Option Variable) (w : Variable) → Looks b m d → lookup (map_of b m) v ≡ found_at x → x ≡ Some w → Fits w32 (w.0 + d)
led-fits b m d v x w h e f = place-fits b m d v w.0 h (e ∙ rw f)

pub within_out : (b : Bool) (m : Map) (d v : ℕ) → Within b m d v → d ≤ v → Within b m 0 (v - d)
within_out b m d v h le = record { within = λ e. let k = h.within e in omega arith }

pub within_at : (b : Bool) (m : Map) (v : ℕ) → Within b m 0 v → b ≡ false → v < m.len
within_at b m v h e = let k = h.within e in omega arith

pub seat_at : (p s : Option ℕ) (w : ℕ) → p ≡ s → s ≡ Some w → seat p ≡ w
unfolding seat
seat_at p s w e f = rw (e, f)

pub placed-seat : (p : Option ℕ) (x : Option Variable) (v : Variable) → p ≡ found_at x → x ≡ Some v → seat p ≡ v.0
unfolding seat
placed-seat p x v e f = rw (e, f)

pub no_seat : (p : Option ℕ) (x : Option Variable) → p ≡ found_at x → x ≡ None → seat p ≡ NONE
unfolding seat
no_seat p x e f = rw (e, f)
