-- The map that follows the arguments of an occurrence, and the highest variable that a walk writes.
use Prim.Native.Nat.{ℕ, ◌+◌, ◌≤◌}
use Rattle.std.specs.Prelude.{List}
use Rattle.std.proofs.Math.Nat.{le_refl}
use Rattle.std.proofs.Math.ListN.{length}
use Rattle.rules.specs.Words.{field_b, elements, variables}
use Rattle.rules.specs.Map.{Map, follow}
use Rattle.invariants.specs.Forms.{variables_few}
use Rattle.invariants.specs.Places.{Low, Followed, followed, followed_wider}

-- the map that follows the arguments of an occurrence
pub followed_occurrence : (m : Map) (d T r : ℕ) (ws : List ℕ) → Low m T → length (elements ws (field_b ws r)) ≤ 16 → Followed 0 16 (T + d) (follow m d 0 (variables ws r))
followed_occurrence m d T r ws low few = followed_wider 0 (length (variables ws r)) 16 (T + d) (T + d) _ (variables_few ws r few) (le_refl _) (followed m d T 0 (variables ws r) low)

-- no variable that a walk writes is higher
abbrev pub highest : ℕ
highest = 33554432
