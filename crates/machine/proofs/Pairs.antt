-- C: how many pairs the queue words have room for.
use Prim.Native.Nat.{ℕ, ◌+◌, ◌*◌, ◌≤◌}
use mathlib.Core.Path.{◌≡◌, sym}
use mathlib.Core.List.{List}
use native.Mathlib.Omega.{arith}
use lib.ListN.{length, take}
use lib.Seq.{length-take-le}
use mir.Syntax.{w64}
use mir.Val.{Fits}
use Rattle.rules.specs.Answers.{pairs}

module _ (qs : List ℕ) where
  pub pairs_held : (C : ℕ) → pairs qs ≡ C → 2 * C ≤ length qs
  unfolding pairs
  pairs_held C e = omega arith

  module _ (C : ℕ) (e : pairs qs ≡ C) where
    -- the part of the queue that is lent on
    pub lent_length : length (take (2 * C) qs) ≡ 2 * C
    lent_length = length-take-le (2 * C) qs (pairs_held C e)

    pub lent_whole : 2 * C ≡ length (take (2 * C) qs)
    lent_whole = sym lent_length

    pub pairs_fit : Fits w64 (2 * C)
    unfolding pairs
    pairs_fit = record { fits = omega arith }

    pub pairs-filled : (qs₁ : List ℕ) → length qs₁ ≡ length qs → 0 + 2 * C ≤ length qs₁
    pairs-filled qs₁ l = let h = pairs_held C e in omega arith
