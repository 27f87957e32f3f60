-- The holes are noted record after record.
use Prim.Native.Nat.{ℕ, ◌+◌, ◌<◌, ◌≤◌}
use mathlib.Core.Path.{◌≡◌, ◌∙◌}
use mathlib.Core.List.{List}
use native.Mathlib.Omega.{arith}
use lib.ListN.{length}
use Rattle.rules.specs.Words.{HO, has}
use Rattle.laws.specs.Noted.{noted_start}
use Rattle.records.specs.Noting.{NoteAsks}
use Rattle.lines.specs.Holes.{Holes, Notable}

-- the loop: r records are passed
pub record Passed (ws hs₀ hs : List ℕ) (n k r : ℕ) : Type 0 where
  pub all : Notable ws hs₀ n
  pub same : length hs ≡ length hs₀
  pub low : r ≤ n
  pub holes : Holes ws hs k r

module _ (ws hs₀ : List ℕ) (n : ℕ) where
  pub passed_none : Notable ws hs₀ n → Passed ws hs₀ hs₀ n 0 0
  passed_none a = record { all = a; same = refl_length; low = omega arith; holes = noted_start (λ h. has ws h HO) hs₀ }
    where
      refl_length : length hs₀ ≡ length hs₀
      refl_length = omega arith

  module _ (hs : List ℕ) (k r : ℕ) (p : Passed ws hs₀ hs n k r) where
    pub passed_asks : r < n → NoteAsks HO ws hs k r
    passed_asks lt =
        let i = p.all.inside in
        let f = p.all.few in
        let m = p.all.room in
        let s = p.same in
        record { inside = omega arith; low = omega arith; room = omega arith; lower = p.holes }

    pub passed_more : (hs₁ : List ℕ) (j : ℕ) → r < n → length hs₁ ≡ length hs → Holes ws hs₁ j (r + 1) → Passed ws hs₀ hs₁ n j (r + 1)
    passed_more hs₁ j lt l h = record { all = p.all; same = l ∙ p.same; low = omega arith; holes = h }

    pub passed_all : n ≤ r → Holes ws hs k n
    passed_all le = let l = p.low in let e : r ≡ n = omega arith in rw e at p.holes
