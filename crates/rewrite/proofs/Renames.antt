-- A variable that has a place is found there.
use Rattle.std.specs.Prelude.{Some, None}
use Prim.Native.Nat.{ℕ, ◌+◌, ◌-◌, ◌<◌, ◌≤◌}
use mathlib.Core.Path.{◌≡◌, sym, ◌∙◌}
use mathlib.Core.Bool.{false}
use native.Mathlib.Omega.{arith}
use native.Mathlib.Decide.{dec_lt}
use lib.ListN.{get_or}
use mir.Syntax.{w32}
use mir.Val.{Fits}
use Rattle.rules.specs.Map.{lookup, place_of}
use Rattle.places.specs.declared.Map.{Map}
use Rattle.places.specs.Maps.{map_of}
use Rattle.places.specs.LookingLaws.{place_beyond, place_none, place_some, place_inner, place_out, place_at, place-fits}
use Rattle.rewrite.specs.Renamed.{Renaming}

module _ (m : Map) (d v : ℕ) where
  pub renamed_inner : v < d → place_of (map_of false m) d v ≡ Some v
  renamed_inner h = place_inner (map_of false m) d v h

  module _ (r : Renaming m d v) (le : d ≤ v) where
    not_out : lookup (map_of false m) (v - d) ≡ None → ⊥
    not_out e = let q : Some r.to ≡ None = sym r.has ∙ place_out (map_of false m) d v le e in let z : ◌≡◌ {A = ℕ} 0 1 = cc in absurd (omega arith)

    inside : v - d < m.len
    inside = go (dec_lt (v - d) m.len)
      where
        go : Dec (v - d < m.len) → v - d < m.len
        go (yes h) = h
        go (no h) = absurd (not_out (place_beyond m (v - d) (omega arith)))

    leads_to : lookup (map_of false m) (v - d) ≡ Some (get_or m.places (v - d) 0)
    leads_to = place_some m (v - d) inside (λ e. not_out (place_none m (v - d) inside e))

    pub renamed_in : v - d < 16
    renamed_in = let h = inside in let f = m.few in omega arith

    pub renamed_fits : Fits w32 (get_or m.places (v - d) 0 + d)
    renamed_fits = place-fits false m d (v - d) _ r.looks leads_to

    pub renamed_outer : place_of (map_of false m) d v ≡ Some (get_or m.places (v - d) 0 + d)
    renamed_outer = place_at (map_of false m) d v _ le leads_to
