-- Each way that reading a file ends.
use Rattle.std.specs.Prelude.{Option, ℕ, Some, None}
use Rattle.std.specs.Option.{unwrap_or}
use Prim.Native.Nat.{ℕ, ◌*◌, ◌/◌, ◌%◌, ◌<◌, ◌≤◌, min}
use mathlib.Core.Path.{◌≡◌, refl}
use mathlib.Core.Bool.{Bool, false, not}
use mathlib.Core.List.{List, ◌++◌}
use native.Mathlib.Omega.{arith}
use lib.ListN.{length, drop}
use lib.Dec.{ltb}
use borrow.Author.Tests.{lt-ltb, le-ltb, eq-eqb, ne_eqb}
use Rattle.rules.specs.declared.Reply.{Reply}
use Rattle.rules.specs.declared.Unread.TheVariants.{BadLength, SmallTable, UnknownMark}
use Rattle.rules.specs.Lists.{either, lowest}
use Rattle.laws.specs.Search.{lowest-below}
use Rattle.rules.specs.Answers.{reply, unreading, records}
use Rattle.rules.specs.File.{marked, is_known, file_words, read}

-- a number below n is what was found
found : (f : Option ℕ) (n k : ℕ) → unwrap_or f n ≡ k → k < n → f ≡ Some k
found (Some j) n k e l = rw e
found None n k e l = absurd (omega arith)

-- with no number below n nothing was found
none_found : (n : ℕ) (ok : ℕ → Bool) (f : Option ℕ) (k : ℕ) → lowest n ok ≡ f → unwrap_or f n ≡ k → n ≤ k → lowest n ok ≡ None
none_found n ok (Some j) k p e l = absurd (let h = lowest-below n ok j p in omega arith)
none_found n ok None k p e l = p

module _ (bs ws : List ℕ) where
  -- reading leaves such words and says so
  abbrev pub Ends : List ℕ → Reply → Type 0
  Ends ws₁ said = read bs ws ≡ record { table = ws₁; said = said }

  pub too_long : 28672 < length bs → Ends ws (unreading BadLength)
  unfolding read either
  too_long h = rw (lt-ltb _ _ h, read)

  pub uneven : length bs ≤ 28672 → (length bs % 14 ≡ 0 → ⊥) → Ends ws (unreading BadLength)
  unfolding read either
  uneven g h = rw (le-ltb _ _ g, ne_eqb _ _ h, read)

  module _ (short : length bs ≤ 28672) (whole : length bs % 14 ≡ 0) where
    pub too_small : length ws / 4 < length bs / 14 → Ends ws (unreading SmallTable)
    unfolding read either records
    too_small h =
        let m : min (length ws / 4) 4096 < length bs / 14 = omega arith in
        rw (le-ltb _ _ short, eq-eqb _ _ whole, lt-ltb _ _ m, read)

    module _ (room : length bs / 14 ≤ length ws / 4) where
      -- the search for a mark that is unknown
      abbrev pub searched : Option ℕ
      searched = lowest (length bs / 14) (λ j. not (is_known (marked bs j)))

      -- the lowest of the file's records whose mark is unknown, or their number
      abbrev pub Search : ℕ → Type 0
      Search k = unwrap_or searched (length bs / 14) ≡ k

      roomy : ltb (records ws) (length bs / 14) ≡ false
      unfolding records
      roomy = le-ltb _ _ (let m : length bs / 14 ≤ min (length ws / 4) 4096 = omega arith in m)

      pub unknown_mark : (k : ℕ) → Search k → k < length bs / 14 → Ends ws (unreading (UnknownMark k))
      unfolding read either
      unknown_mark k e l = rw (le-ltb _ _ short, eq-eqb _ _ whole, roomy, found searched _ k e l, read)

      pub all_read : (k : ℕ) (ws₁ : List ℕ) → Search k → length bs / 14 ≤ k → ws₁ ≡ file_words bs 0 (length bs / 14) ++ drop (4 * (length bs / 14)) ws
          → Ends ws₁ (reply 0 0 (length bs / 14))
      unfolding read either
      all_read k ws₁ e l w = rw (w, le-ltb _ _ short, eq-eqb _ _ whole, roomy, none_found _ _ _ k refl e l, read)
