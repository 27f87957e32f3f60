-- Words filled from bytes one after another.
use Prim.Native.Nat.{ℕ, zero, suc, ◌+◌, ◌*◌, ◌<◌}
use mathlib.Core.Path.{◌≡◌, ap}
use mathlib.Core.List.{List, [], ◌∷◌, ◌++◌}
use native.Mathlib.Omega.{arith}
use native.Mathlib.Numerals.{add-one}
use lib.ListN.{length, set, drop}
use Rattle.rules.specs.File.{word}
use Rattle.stored.specs.Words.{words_from}

set_next : (bytes words : List ℕ) (first i : ℕ) → i < length words
    → set (words_from bytes first i ++ drop i words) i (word bytes (4 * (first + i))) ≡ words_from bytes first (suc i) ++ drop (suc i) words
unfolding words_from
set_next bytes [] first i h = absurd (omega arith)
set_next bytes (y ∷ words) first zero h = let e : first + 0 ≡ first = omega arith in rw e
set_next bytes (y ∷ words) first (suc i) h =
    let e : first + suc i ≡ first + 1 + i = omega arith in
    rw e (ap (λ (rest : List ℕ). word bytes (4 * first) ∷ rest) (set_next bytes words (first + 1) i (omega arith)))

-- the first i words are filled, the others are as they were
module _ (bytes before words : List ℕ) (first i : ℕ) (e : words ≡ words_from bytes first i ++ drop i before) where
  pub filled_more : (x : ℕ) → i < length before → word bytes (4 * (first + i)) ≡ x → set words i x ≡ words_from bytes first (i + 1) ++ drop (i + 1) before
  filled_more x h w = rw (e, ← w, add-one) (set_next bytes before first i h)
