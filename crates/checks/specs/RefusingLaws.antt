-- What an input that is refused, or admitted, is.
use Rattle.std.specs.Prelude.{ℕ, ◌*◌, ◌≤◌, ◌≡◌, List, Bool, length}
use Rattle.std.proofs.Math.Path.{refl}
use Rattle.std.proofs.Math.Bool.{true, false}
use native.Mathlib.Omega.{arith}
use borrow.Author.Tests.{ltb-false}
use Rattle.rules.specs.declared.Refused.TheVariants.{NoRoom}
use Rattle.rules.specs.Lists.{either}
use Rattle.rules.specs.Answers.{records}
use Rattle.rules.specs.Solve.{Refusal as Refuses, refused, refusal}
use Rattle.checks.specs.Refusing.{typed, asking, sound, outside}

-- 4, then the others
module _ (ws ss : List ℕ) (n : ℕ) where
  pub outside_refused : (b : Bool) → outside ws ss n ≡ true → refusal b ws ss n ≡ refused NoRoom
  unfolding refusal outside
  outside_refused b e = rw (e, refusal)

  module _ (e : outside ws ss n ≡ false) where
    pub inside_sound : (b : Bool) (y : Refuses) → sound b ws n ≡ y → refusal b ws ss n ≡ y
    unfolding refusal outside sound asking typed
    inside_sound b y h = rw (e, refusal) h

    pub in_table : (n ≤ 4096) × (4 * n ≤ length ws)
    unfolding outside either records
    in_table = let l : n ≤ records ws = ltb-false (records ws) n (neither _ _ e) in (omega arith, omega arith)
      where
        neither : (a b : Bool) → either a b ≡ false → a ≡ false
        neither true b z = z
        neither false b z = refl
