-- Each way that writing ends.
use Rattle.std.specs.Prelude.{ℕ, Some, None, Result, Ok, Err}
use Prim.Native.Nat.{ℕ, ◌*◌, ◌/◌, ◌<◌, ◌≤◌, min}
use mathlib.Core.Path.{◌≡◌, refl, ap, ◌∙◌}
use mathlib.Core.Bool.{Bool, true, false}
use mathlib.Core.List.{List, ◌++◌}
use native.Mathlib.Omega.{arith}
use lib.ListN.{length, drop}
use lib.Dec.{ltb}
use borrow.Author.Tests.{lt-ltb, le-ltb}
use Rattle.rules.specs.declared.Reply.{Reply}
use Rattle.rules.specs.declared.Unwritten.{Unwritten}
use Rattle.rules.specs.declared.Unwritten.TheVariants.{TooMany, Broken, ShortFile}
use Rattle.rules.specs.Lists.{either}
use Rattle.rules.specs.Answers.{reply, unwriting, records}
use Rattle.rules.specs.Records.{broken}
use Rattle.rules.specs.FileWrite.{file_bytes, write}
use Rattle.std.specs.Result.{IsErr, IsErrAnd}
use Rattle.laws.specs.Tests.{false_true}
use Rattle.laws.specs.Members.{broken_legal}
use Rattle.records.specs.declared.Broken.{Broken as BrokenRecord}
use Rattle.records.specs.Noting.{found_of}
use Rattle.write.specs.Asks.{RecordsAsk, said}

-- the reply to a table that is not written is that to its case
pub unwriting_case : (x y : Unwritten) (r : Reply) → x ≡ y → unwriting y ≡ r → unwriting x ≡ r
unwriting_case x y r e q = ap unwriting e ∙ q

module _ (ws : List ℕ) (n : ℕ) (bs : List ℕ) where
  -- writing leaves such bytes and says so
  abbrev pub Ends : List ℕ → Reply → Type 0
  Ends bs₁ said = write ws n bs ≡ record { file = bs₁; said = said }

  pub above_most : 2048 < n → write ws n bs ≡ record { file = bs; said = unwriting TooMany }
  unfolding write either
  above_most h = go (ltb (records ws) n) refl
    where
      go : (b : Bool) → ltb (records ws) n ≡ b → write ws n bs ≡ record { file = bs; said = unwriting TooMany }
      go true q = rw (q, write)
      go false q = rw (q, lt-ltb _ _ h, write)

  module _ (few : n ≤ 2048) where
    pub above_table : length ws / 4 < n → Ends bs (unwriting TooMany)
    unfolding write either records
    above_table h = let m : min (length ws / 4) 4096 < n = omega arith in rw (lt-ltb _ _ m, write)

    module _ (held : n ≤ length ws / 4) where
      roomy : ltb (records ws) n ≡ false
      unfolding records
      roomy = le-ltb _ _ (let m : n ≤ min (length ws / 4) 4096 = omega arith in m)

      none-found : (x : Result ℕ BrokenRecord) → broken ws n ≡ found_of x → (k : ℕ) → x ≡ Ok k → broken ws n ≡ None
      none-found x e k p = e ∙ ap found_of p

      broken-found : (r : ℕ) → broken ws n ≡ Some r → Ends bs (unwriting (Broken r))
      unfolding write either
      broken-found r e = rw (roomy, le-ltb _ _ few, e, write)

      pub broken_ends : (x : Result ℕ BrokenRecord) → broken ws n ≡ found_of x → (b : BrokenRecord) → x ≡ Err b
          → (r : Result ℕ Unwritten) → IsErr r × IsErrAnd r (λ u. u ≡ Broken b.0) → Ends bs (said r)
      broken_ends x e b p (Err u) w = rw w.1 (broken-found b.0 (e ∙ ap found_of p))
      broken_ends x e b p (Ok k) w = absurd (false_true w.0)

      module _ (x : Result ℕ BrokenRecord) (e : broken ws n ≡ found_of x) (k : ℕ) (p : x ≡ Ok k) where
        pub short_file : length bs / 14 < n → Ends bs (unwriting ShortFile)
        unfolding write either
        short_file h = let s : length bs < 14 * n = omega arith in rw (roomy, le-ltb _ _ few, none-found x e k p, write, lt-ltb _ _ s)

        module _ (fits : n ≤ length bs / 14) where
          pub records_ask : RecordsAsk ws bs n
          records_ask = record { legal = broken_legal ws n (omega arith, omega arith) (none-found x e k p); room = omega arith }

          pub all-written : (bs₁ : List ℕ) → bs₁ ≡ file_bytes ws 0 n ++ drop (14 * n) bs → Ends bs₁ (reply 0 0 n)
          unfolding write either
          all-written bs₁ w = let s : 14 * n ≤ length bs = omega arith in rw (w, roomy, le-ltb _ _ few, none-found x e k p, write, le-ltb _ _ s)
