-- File records written to a table one after another.
use Rattle.std.specs.Prelude.{ℕ, Some}
use Prim.Native.Nat.{ℕ, suc, ◌+◌, ◌*◌, ◌<◌, ◌≤◌}
use mathlib.Core.Path.{◌≡◌, refl}
use mathlib.Core.List.{List, ◌++◌}
use native.Mathlib.Omega.{arith}
use lib.ListN.{length, set, drop}
use Rattle.rules.specs.File.{marked, word, tag_word, file_words}
use Rattle.laws.specs.Rows.{rows_more}
use Rattle.laws.specs.FileRows.{record_words, file_words-rows}
use Rattle.file.specs.Writing.{Fitting, stored}

pub stored_by : (bs ws : List ℕ) (r t a b c : ℕ) → marked bs r ≡ Some t → word bs (14 * r + 2) ≡ a → word bs (14 * r + 6) ≡ b → word bs (14 * r + 10) ≡ c
    → stored bs r ws ≡ set (set (set (set ws (4 * r) t) (4 * r + 1) a) (4 * r + 2) b) (4 * r + 3) c
unfolding stored tag_word
stored_by bs ws r t a b c p ea eb ec =
    let one : 4 * r + 1 ≡ suc (4 * r) = omega arith in
    let two : 4 * r + 2 ≡ suc (suc (4 * r)) = omega arith in
    let three : 4 * r + 3 ≡ suc (suc (suc (4 * r))) = omega arith in
    rw (p, tag_word, ea, eb, ec, one, two, three)

-- one record more is written
pub stored_more : (bs ws₀ ws ws₁ : List ℕ) (r n : ℕ) → r < n → Fitting bs ws₀ n → ws ≡ file_words bs 0 r ++ drop (4 * r) ws₀
    → stored bs r ws ≡ ws₁ → ws₁ ≡ file_words bs 0 (r + 1) ++ drop (4 * (r + 1)) ws₀
unfolding stored
stored_more bs ws₀ ws ws₁ r n h f e s =
    let room = f.room in
    let fit : 4 * (r + 1) ≤ length ws₀ = omega arith in
    rw (← s, e, file_words-rows bs 0 r, file_words-rows bs 0 (r + 1)) (rows_more (record_words bs) 4 (λ j. refl) ws₀ r fit)
