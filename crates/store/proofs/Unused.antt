-- The first record that was not written, found by halves.
use Prim.Native.Nat.{ℕ, ◌+◌, ◌-◌, ◌*◌, ◌/◌, ◌<◌, ◌≤◌}
use mathlib.Core.Path.{◌≡◌}
use mathlib.Core.List.{List}
use native.Mathlib.Omega.{arith}
use native.Mathlib.Nat.{le_refl}
use lib.ListN.{get_or}
use Rattle.store.specs.Unused.{Unused}

-- the search
module _ (n R : ℕ) (ws : List ℕ) where
  pub unused_all : n ≤ R → Unused n R ws n R
  unused_all h = record { since = le_refl _; order = h; within = le_refl _; tagged = λ l. absurd (omega arith); blank = λ l. absurd (omega arith) }

  module _ (low high : ℕ) (p : Unused n R ws low high) where
    pub unused_found : high ≤ low → Unused n R ws low low
    unused_found h =
        let o = p.order in
        let z : high ≡ low = omega arith in
        record { since = p.since; order = le_refl _; within = rw z at p.within; tagged = p.tagged; blank = rw z at p.blank }

    module _ (h : low < high) where
      pub unused_lower : get_or ws (4 * (low + (high - low) / 2)) 0 ≡ 0 → Unused n R ws low (low + (high - low) / 2)
      unused_lower e = let w = p.within in record { since = p.since; order = omega arith; within = omega arith; tagged = p.tagged; blank = λ l. e }

      pub unused_higher : (get_or ws (4 * (low + (high - low) / 2)) 0 ≡ 0 → ⊥) → Unused n R ws (low + (high - low) / 2 + 1) high
      unused_higher ne =
          let s = p.since in
          let z : low + (high - low) / 2 + 1 - 1 ≡ low + (high - low) / 2 = omega arith in
          record { since = omega arith; order = omega arith; within = p.within; tagged = λ l. rw z (omega arith); blank = p.blank }
