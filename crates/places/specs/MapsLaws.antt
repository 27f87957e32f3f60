-- A map read position by position.
use Rattle.std.specs.Prelude.{ℕ, suc, ◌+◌, ◌<◌, ◌≤◌, ◌≡◌, List, [], ◌∷◌, length, get_or, drop}
use Rattle.std.proofs.Common.{arith, add-one, drop_of_length-le, drop-cons, get_or-take, length-take-le, eq-eqb, ne_eqb}
use Rattle.std.proofs.Math.Decide.{ℕ_discrete}
use Rattle.rules.specs.Words.{NONE}
use Rattle.places.specs.declared.Map.{Map}
use Rattle.places.specs.Maps.{leads, places_of}

pub leads_none : (j w : ℕ) (ws : List ℕ) → w ≡ NONE → leads j (w ∷ ws) ≡ leads (j + 1) ws
unfolding leads
leads_none j w ws e = rw (eq-eqb _ _ e, leads)

pub leads_some : (j w : ℕ) (ws : List ℕ) → (w ≡ NONE → ⊥) → leads j (w ∷ ws) ≡ (j, w) ∷ leads (j + 1) ws
unfolding leads
leads_some j w ws n = rw (ne_eqb _ _ n, leads)

pub leads_few : (j : ℕ) (ws : List ℕ) → length (leads j ws) ≤ length ws
unfolding leads
leads_few j [] = omega arith
leads_few j (w ∷ ws) = go (ℕ_discrete w NONE) (leads_few (j + 1) ws)
  where
    go : Dec (w ≡ NONE) → length (leads (j + 1) ws) ≤ length ws → length (leads j (w ∷ ws)) ≤ suc (length ws)
    go (yes e) h = rw (leads_none j w ws e) (omega arith)
    go (no e) h = rw (leads_some j w ws e) (omega arith)

module _ (m : Map) where
  pub places_length : length (places_of m) ≡ m.len
  places_length = let a = m.whole in let f = m.few in length-take-le m.len m.places (omega arith)

  -- the places from the i-th on
  pub places_more : (i : ℕ) → i < m.len → drop i (places_of m) ≡ get_or m.places i 0 ∷ drop (i + 1) (places_of m)
  places_more i g =
      let l = places_length in
      let k : i < length (places_of m) = omega arith in
      rw (add-one i, drop-cons (places_of m) i 0 k, get_or-take m.len m.places i 0 g)

  pub places_end : (i : ℕ) → m.len ≤ i → drop i (places_of m) ≡ []
  places_end i g = let l = places_length in let k : length (places_of m) ≤ i = omega arith in drop_of_length-le (places_of m) k
