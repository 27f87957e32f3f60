-- The map of renamed arguments, filled one by one.
use Rattle.std.specs.Prelude.{Some}
use Prim.Native.Nat.{ℕ}
use mathlib.Core.Path.{◌≡◌, refl}
use mathlib.Core.List.{List, ◌∷◌}
use mathlib.Core.Bool.{false}
use Rattle.rules.specs.Words.{field_a, elements}
use Rattle.rules.specs.Map.{place_of}
use Rattle.places.specs.declared.Map.{Map}
use Rattle.places.specs.Maps.{map_of, Unplaced, Pushed}
use Rattle.places.specs.LookingLaws.{seat_at}
use Rattle.places.specs.AlongLaws.{Along, along_first, along_here}
use Rattle.places.specs.FollowLaws.{follow_at, follow-more}
use Rattle.rewrite.specs.Renamed.{Renaming}
use Rattle.rewrite.specs.Renamings.{Has, Renamings}

-- the places filled in, and that each argument that is left has one
abbrev pub Turn : List ℕ → Map → ℕ → List ℕ → Map → List ℕ → Type 0
Turn ws m d ys r xs = Along (Has m d) (follow_at ws (map_of false m) d) ws ys r xs

module _ (ws : List ℕ) (m : Map) (d l : ℕ) (h : Renamings ws m d l) (r : Map) where
  pub turn_first : Unplaced r → Turn ws m d (elements ws l) r (elements ws l)
  turn_first e = along_first (Has m d) (follow_at ws (map_of false m) d) ws (elements ws l) r h.counts.few h.have e

  module _ (ys xs : List ℕ) (t : Turn ws m d ys r xs) (x : ℕ) (zs : List ℕ) (e : xs ≡ x ∷ zs) (v : ℕ) (q : field_a ws x ≡ v) where
    pub turn_renames : Renaming m d v
    turn_renames = let p = along_here (Has m d) (follow_at ws (map_of false m) d) ws ys r xs t x zs e v q in record { looks = h.looks; to = p.0; has = p.1 }

    pub turn_next : (w : ℕ) (r₁ : Map) → place_of (map_of false m) d v ≡ Some w → Pushed r w r₁ → Turn ws m d ys r₁ zs
    turn_next w r₁ p z = follow-more (Has m d) ws false m d ys r xs x zs v w r₁ t e q (seat_at (place_of (map_of false m) d v) (Some w) w p refl) z
