-- The map of arguments, and that of a context, filled position by position.
use Prim.Native.Nat.{ℕ, zero, suc, ◌+◌, ◌<◌}
use mathlib.Core.Path.{◌≡◌, refl, ap, ◌∙◌}
use mathlib.Core.List.{List, [], ◌∷◌, map}
use native.Mathlib.Omega.{arith}
use lib.ListN.{length}
use Rattle.places.specs.declared.Map.{Map}
use Rattle.rules.specs.Lists.{from, below}
use Rattle.rules.specs.Words.{NONE, field_a, elements}
use Rattle.invariants.specs.Floor.{All}
use Rattle.places.specs.Maps.{places_of, map_of}
use Rattle.places.specs.FillingLaws.{fill, Filled}
use Rattle.places.specs.Arguments.{Arguments, Ordered}
use Rattle.places.specs.ArgumentsLaws.{leads-variables}

-- what is filled in
abbrev pub variable_at : List ℕ → ℕ → ℕ → ℕ
variable_at ws j x = field_a ws x

fill-variables : (ws : List ℕ) (j : ℕ) (xs : List ℕ) → fill (variable_at ws) j xs ≡ map (λ x. field_a ws x) xs
unfolding fill
fill-variables ws j [] = refl
fill-variables ws j (x ∷ xs) = ap (λ (l : List ℕ). field_a ws x ∷ l) (fill-variables ws (j + 1) xs)

pub arguments_are : (ws : List ℕ) (l : ℕ) (r : Map) → Filled (variable_at ws) (elements ws l) r → Arguments ws l r
arguments_are ws l r h = record { run = h.places ∙ fill-variables ws 0 (elements ws l); len = h.len }

-- what is filled in
abbrev pub position_at : ℕ → ℕ → ℕ
position_at j x = j

fill_positions : (j : ℕ) (xs : List ℕ) → fill position_at j xs ≡ from j (length xs)
unfolding fill from
fill_positions j [] = refl
fill_positions j (x ∷ xs) = ap (λ (l : List ℕ). j ∷ l) (fill_positions (j + 1) xs)

from_low : (i k : ℕ) → i + k < NONE → All (λ v. v < NONE) (from i k)
unfolding from
from_low i zero h = tt
from_low i (suc k) h = (omega arith, from_low (i + 1) k (omega arith))

pub in_order : (ws : List ℕ) (l : ℕ) (r : Map) → Filled position_at (elements ws l) r → Ordered ws l r
unfolding map_of below
in_order ws l r h =
    let f = r.few in
    let n = h.len in
    let p : places_of r ≡ from 0 (length (elements ws l)) = h.places ∙ fill_positions 0 (elements ws l) in
    record { run = rw p (leads-variables 0 (from 0 (length (elements ws l))) (from_low 0 (length (elements ws l)) (omega arith))); len = n }
