-- The numbers that pass a test are noted one after another, in order.
use Prim.Native.Nat.{ℕ, zero, suc, ◌+◌, ◌<◌, ◌≤◌}
use Rattle.std.specs.Prelude.{◌≡◌, Bool, get_or, set}
use Rattle.std.proofs.Math.Path.{refl, sym}
use Rattle.std.proofs.Common.{◌∙◌, add-one, take-suc-set}
use Rattle.std.proofs.Math.Bool.{true, false}
use mathlib.Core.List.{List, [], ◌∷◌, ◌++◌, append-nil}
use native.Mathlib.Omega.{arith}
use Rattle.std.proofs.Math.ListN.{length, take}
use Rattle.std.proofs.Math.Seq.{length-take-le, get_or-take}
use Rattle.rules.specs.Lists.{those, from, below}

-- the first k of the notes are the numbers below r that pass
pub record Noted (ok : ℕ → Bool) (notes : List ℕ) (k r : ℕ) : Type 0 where
  pub noted : take k notes ≡ those ok (below r)
  pub few : k ≤ r

from_more : (k i : ℕ) → from i (suc k) ≡ from i k ++ ((i + k) ∷ [])
unfolding from
from_more zero i = let e : i + 0 ≡ i = omega arith in rw e
from_more (suc k) i = let e : i + suc k ≡ i + 1 + k = omega arith in rw (e, from_more k (i + 1))

pub below_more : (r : ℕ) → below (suc r) ≡ below r ++ (r ∷ [])
unfolding below
below_more r = let z : 0 + r ≡ r = omega arith in rw z at (from_more r 0)

module _ (ok : ℕ → Bool) where
  pub those-append : (xs ys : List ℕ) → those ok (xs ++ ys) ≡ those ok xs ++ those ok ys
  unfolding those
  those-append [] ys = refl
  those-append (x ∷ xs) ys = go (ok x) refl (those-append xs ys)
    where
      go : (b : Bool) → ok x ≡ b → those ok (xs ++ ys) ≡ those ok xs ++ those ok ys → those ok ((x ∷ xs) ++ ys) ≡ those ok (x ∷ xs) ++ those ok ys
      go true q ih = rw (q, those, ih)
      go false q ih = rw (q, those, ih)

  those_member : (i k j : ℕ) → j < length (those ok (from i k)) → (get_or (those ok (from i k)) j 0 < i + k) × (ok (get_or (those ok (from i k)) j 0) ≡ true)
  unfolding those from
  those_member i zero j h = absurd (omega arith)
  those_member i (suc k) j h = go (ok i) refl (λ j l. those_member (i + 1) k j l) j h
    where
      go : (b : Bool) → ok i ≡ b
          → ((j : ℕ) → j < length (those ok (from (i + 1) k)) → (get_or (those ok (from (i + 1) k)) j 0 < i + 1 + k) × (ok (get_or (those ok (from (i + 1) k)) j 0) ≡ true))
          → (j : ℕ) → j < length (those ok (i ∷ from (i + 1) k)) → (get_or (those ok (i ∷ from (i + 1) k)) j 0 < i + suc k) × (ok (get_or (those ok (i ∷ from (i + 1) k)) j 0) ≡ true)
      go true e ih zero l = rw (e, those) (omega arith, e)
      go true e ih (suc j) l =
          let l₁ : suc j < suc (length (those ok (from (i + 1) k))) = rw (e, those) at l in
          let z = ih j (omega arith) in
          let z₀ = z.0 in
          rw (e, those) (omega arith, z.1)
      go false e ih j l = let z = ih j (rw (e, those) at l) in let z₀ = z.0 in rw (e, those) (omega arith, z.1)

  -- what is noted is below r, and passes
  pub noted_member : (notes : List ℕ) (k r i : ℕ) → take k notes ≡ those ok (below r) → k ≤ length notes → i < k → (get_or notes i 0 < r) × (ok (get_or notes i 0) ≡ true)
  unfolding below
  noted_member notes k r i e held h =
      let l : i < length (those ok (from 0 r)) = rw (← e, length-take-le k notes held) h in
      let m = rw (← e, get_or-take k notes i 0 h) at (those_member 0 r i l) in
      let m₀ = m.0 in
      (omega arith, m.1)

  -- nothing is passed yet
  pub noted_start : (notes : List ℕ) → Noted ok notes 0 0
  unfolding below those from
  noted_start notes = record { noted = refl; few = omega arith }

  module _ (notes : List ℕ) (k r : ℕ) (lower : Noted ok notes k r) where
    next : those ok (below (r + 1)) ≡ take k notes ++ those ok (r ∷ [])
    next = rw (add-one r, below_more r, lower.noted) (those-append (below r) (r ∷ []))

    -- the next number does not pass
    pub noted_other : ok r ≡ false → Noted ok notes k (r + 1)
    unfolding those
    noted_other z =
        let f = lower.few in
        let e : those ok (r ∷ []) ≡ [] = rw (z, those) in
        record { noted = sym (rw (e, append-nil (take k notes)) at next); few = omega arith }

    -- the next number passes, and is noted
    pub noted_one : ok r ≡ true → k < length notes → Noted ok (set notes k r) (k + 1) (r + 1)
    unfolding those
    noted_one z room =
        let f = lower.few in
        let e : those ok (r ∷ []) ≡ r ∷ [] = rw (z, those) in
        let t : take (k + 1) (set notes k r) ≡ take k notes ++ (r ∷ []) = rw (add-one k) (take-suc-set notes k r room) in
        record { noted = t ∙ sym (rw e at next); few = omega arith }
