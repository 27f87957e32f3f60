-- Whether every position of a map has a place.
use Prim.Native.Nat.{ℕ, suc, ◌+◌}
use mathlib.Core.Path.{◌≡◌, sym, ap, ◌∙◌}
use mathlib.Core.Bool.{false, not}
use mathlib.Core.List.{List, [], ◌∷◌}
use native.Mathlib.Omega.{arith}
use native.Mathlib.Decide.{ℕ_discrete}
use lib.ListN.{length}
use lib.Dec.{eqb}
use borrow.Author.Tests.{eq-eqb, ne_eqb}
use Rattle.std.specs.List.{list_all}
use Rattle.rules.specs.Words.{NONE}
use Rattle.places.specs.declared.Map.{Map}
use Rattle.places.specs.Maps.{leads, places_of, map_of}
use Rattle.places.specs.MapsLaws.{leads_none, leads_some, leads_few, places_length}

eqb_suc : (a b : ℕ) → eqb a b ≡ eqb (suc a) (suc b)
eqb_suc a b = go (ℕ_discrete a b)
  where
    go : Dec (a ≡ b) → eqb a b ≡ eqb (suc a) (suc b)
    go (yes e) = eq-eqb _ _ e ∙ sym (eq-eqb _ _ (ap suc e))
    go (no n) = let k : suc a ≡ suc b → ⊥ = λ e. n (omega arith) in ne_eqb _ _ n ∙ sym (ne_eqb _ _ k)

-- no place is NONE where each position leads somewhere
lead_all : (j : ℕ) (ws : List ℕ) → list_all (λ w. not (eqb w NONE)) ws ≡ eqb (length (leads j ws)) (length ws)
unfolding leads
lead_all j [] = sym (eq-eqb 0 0 (omega arith))
lead_all j (w ∷ ws) = go (ℕ_discrete w NONE) (lead_all (j + 1) ws)
  where
    go : Dec (w ≡ NONE) → list_all (λ v. not (eqb v NONE)) ws ≡ eqb (length (leads (j + 1) ws)) (length ws)
        → list_all (λ v. not (eqb v NONE)) (w ∷ ws) ≡ eqb (length (leads j (w ∷ ws))) (length (w ∷ ws))
    go (yes e) ih =
        let f = leads_few (j + 1) ws in
        let n : length (leads (j + 1) ws) ≡ suc (length ws) → ⊥ = omega arith in
        rw (eq-eqb _ _ e, leads_none j w ws e) (sym (ne_eqb _ _ n))
    go (no n) ih = rw (ne_eqb _ _ n, leads_some j w ws n) (ih ∙ eqb_suc _ _)

pub all_placed : (m : Map) → list_all (λ w. not (eqb w NONE)) (places_of m) ≡ eqb (length (map_of false m)) m.len
unfolding map_of
all_placed m = lead_all 0 (places_of m) ∙ ap (λ (n : ℕ). eqb (length (leads 0 (places_of m))) n) (places_length m)
