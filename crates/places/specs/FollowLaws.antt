-- The map that follows a hole's arguments, filled argument by argument.
use Rattle.std.specs.Prelude.{ℕ, ◌+◌, ◌<◌, ◌≡◌, refl, List, [], ◌∷◌, map, Bool, Option, Some, None}
use Rattle.std.proofs.Common.{◌∙◌, arith}
use Rattle.places.specs.declared.Map.{Map}
use Rattle.rules.specs.Words.{NONE, field_a, elements}
use Rattle.rules.specs.Map.{Map as Pairs, place_of, follow}
use Rattle.invariants.specs.Places.{Low, place_low}
use Rattle.places.specs.Maps.{leads, map_of, Pushed}
use Rattle.places.specs.MapsLaws.{leads_none, leads_some}
use Rattle.places.specs.Looking.{Looks, Within, seat}
use Rattle.places.specs.FillingLaws.{fill, Filled}
use Rattle.places.specs.AlongLaws.{Along, along_here, along_more}
use Rattle.places.specs.Follow.{Followed}

-- what is filled in: the place of an argument's variable
abbrev pub follow_at : List ℕ → Pairs → ℕ → ℕ → ℕ → ℕ
follow_at ws m d j x = seat (place_of m d (field_a ws x))

leads-follow : (ws : List ℕ) (m : Pairs) (d T j : ℕ) (xs : List ℕ) → Low m T → T + d < NONE → leads j (fill (follow_at ws m d) j xs) ≡ follow m d j (map (λ x. field_a ws x) xs)
unfolding leads fill follow seat
leads-follow ws m d T j [] l h = refl
leads-follow ws m d T j (x ∷ xs) l h = go (place_of m d (field_a ws x)) refl (leads-follow ws m d T (j + 1) xs l h)
  where
    go : (p : Option ℕ) → place_of m d (field_a ws x) ≡ p → leads (j + 1) (fill (follow_at ws m d) (j + 1) xs) ≡ follow m d (j + 1) (map (λ y. field_a ws y) xs)
        → leads j (fill (follow_at ws m d) j (x ∷ xs)) ≡ follow m d j (field_a ws x ∷ map (λ y. field_a ws y) xs)
    go (Some w) e ih =
        let lo = place_low m d T (field_a ws x) w l e in
        let s : follow_at ws m d j x ≡ w = rw e in
        let n : follow_at ws m d j x ≡ NONE → ⊥ = omega arith in
        leads_some j (follow_at ws m d j x) (fill (follow_at ws m d) (j + 1) xs) n ∙ rw (s, e, follow, ih)
    go None e ih =
        let s : follow_at ws m d j x ≡ NONE = rw e in
        leads_none j (follow_at ws m d j x) (fill (follow_at ws m d) (j + 1) xs) s ∙ rw (e, follow, ih)

pub follow-here : (ws : List ℕ) (b : Bool) (m : Map) (d : ℕ) (ys : List ℕ) (r : Map) (xs : List ℕ) (x : ℕ) (zs : List ℕ) (v : ℕ) → Along (Within b m d) (follow_at ws (map_of b m) d) ws ys r xs
    → xs ≡ x ∷ zs → field_a ws x ≡ v → Within b m d v
follow-here ws b m d ys r xs x zs v h e p = along_here (Within b m d) (follow_at ws (map_of b m) d) ws ys r xs h x zs e v p

pub follow-more : (P : ℕ → Type 0) (ws : List ℕ) (b : Bool) (m : Map) (d : ℕ) (ys : List ℕ) (r : Map) (xs : List ℕ) (x : ℕ) (zs : List ℕ) (v w : ℕ) (r₁ : Map)
    → Along P (follow_at ws (map_of b m) d) ws ys r xs → xs ≡ x ∷ zs → field_a ws x ≡ v → seat (place_of (map_of b m) d v) ≡ w → Pushed r w r₁ → Along P (follow_at ws (map_of b m) d) ws ys r₁ zs
follow-more P ws b m d ys r xs x zs v w r₁ h e p q z = along_more P (follow_at ws (map_of b m) d) ws ys r xs h x zs e w r₁ (rw p q) z

pub follows : (ws : List ℕ) (b : Bool) (m : Map) (d l : ℕ) (r : Map) → Looks b m d → Filled (follow_at ws (map_of b m) d) (elements ws l) r → Followed ws b m d l r
unfolding map_of
follows ws b m d l r k h =
    let f = k.fits in
    record { run = rw h.places (leads-follow ws (map_of b m) d k.top 0 (elements ws l) k.low (omega arith)); len = h.len }
