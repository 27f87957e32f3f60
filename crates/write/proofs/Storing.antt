-- The bytes that are stored for a word, for a record and for records one after another are the rules'.
use Prim.Native.Nat.{ℕ, suc, ◌+◌, ◌-◌, ◌*◌, ◌<◌, ◌≤◌}
use mathlib.Core.Path.{◌≡◌, refl, sym, ◌∙◌}
use mathlib.Core.List.{List, ◌++◌}
use native.Mathlib.Omega.{arith}
use lib.ListN.{length, drop}
use lib.Seq.{sets, sets-eq, take_all}
use borrow.Rule.Slice.PartMut.{put_mid}
use mir.Syntax.{w32}
use Rattle.std.specs.Int.{to_le_bytes}
use Rattle.std.proofs.lemmas.Slice.{put_mid-paste}
use Rattle.rules.specs.FileWrite.{word_bytes, mark_bytes, record_bytes, file_bytes}
use Rattle.laws.specs.Sound.{known-tag}
use Rattle.laws.specs.Rows.{rows_more}
use Rattle.laws.specs.FileRows.{file_bytes-rows, length-record_bytes}
use Rattle.table.specs.declared.Record.{Record}
use Rattle.table.specs.Reading.{IsRecord}
use Rattle.write.specs.Asks.{RecordAsks, RecordsAsk}

pub mark_is : (t k : ℕ) (m : List ℕ) → t ≡ k → mark_bytes k ≡ m → mark_bytes t ≡ m
mark_is t k m e p = rw e p

-- bytes that are copied into a part are set one after another
copied : (bs vs ys : List ℕ) (i k : ℕ) → ys ≡ vs → k ≡ i + length vs → k ≤ length bs → sets bs i vs ≡ put_mid i (k - i) bs ys
copied bs vs ys i k e q h =
    let n : length vs ≡ k - i = omega arith in
    sets-eq vs bs i (omega arith) ∙ sym (put_mid-paste i (k - i) bs ys vs (length vs) e n refl ∙ rw (take_all (length vs) vs (omega arith)))

pub word-stored : (bs ys : List ℕ) (i w : ℕ) → ys ≡ to_le_bytes w32 w → i + 3 < length bs → sets bs i (word_bytes w) ≡ put_mid i (i + 4 - i) bs ys
unfolding word_bytes
word-stored bs ys i w e h = copied bs (word_bytes w) ys i (i + 4) e refl (omega arith)

pub mark-stored : (bs ys m : List ℕ) (i t : ℕ) → mark_bytes t ≡ m → ys ≡ m → i + 1 < length bs → sets bs i (mark_bytes t) ≡ put_mid i (i + 2 - i) bs ys
unfolding mark_bytes
mark-stored bs ys m i t e q h = copied bs (mark_bytes t) ys i (i + 2) (q ∙ sym e) refl (omega arith)

-- a mark and three words are a record
pub record_stored : (ws bs bs₀ bs₁ bs₂ bs₃ : List ℕ) (r : ℕ) (x : Record) → IsRecord ws r x → sets bs (14 * r) (mark_bytes x.tag) ≡ bs₀
    → sets bs₀ (14 * r + 2) (word_bytes x.a) ≡ bs₁ → sets bs₁ (14 * r + 6) (word_bytes x.b) ≡ bs₂ → sets bs₂ (14 * r + 10) (word_bytes x.c) ≡ bs₃
    → sets bs (14 * r) (record_bytes ws r) ≡ bs₃
unfolding record_bytes mark_bytes word_bytes
record_stored ws bs bs₀ bs₁ bs₂ bs₃ r x w k a b c =
    let i = 14 * r in
    let two : i + 2 ≡ suc (suc i) = omega arith in
    let six : i + 6 ≡ suc (suc (suc (suc (suc (suc i))))) = omega arith in
    let ten : i + 10 ≡ suc (suc (suc (suc (suc (suc (suc (suc (suc (suc i))))))))) = omega arith in
    rw (← w.tag_is, ← w.a_is, ← w.b_is, ← w.c_is, ← c, ← b, ← a, ← k, two, six, ten)

module _ (ws bs₀ : List ℕ) (n : ℕ) (asks : RecordsAsk ws bs₀ n) where
  pub next_asks : (bs : List ℕ) (r : ℕ) → r < n → length bs ≡ length bs₀ → RecordAsks ws bs r
  next_asks bs r h e =
      let inside = asks.legal.inside in
      let room = asks.room in
      let k = known-tag ws n asks.legal.sound r h in
      record { inside = omega arith; known = record { low = k.0; high = k.1 }; room = omega arith }

  -- one record more is written
  pub more-stored : (bs bs₁ : List ℕ) (r : ℕ) → r < n → bs ≡ file_bytes ws 0 r ++ drop (14 * r) bs₀ → sets bs (14 * r) (record_bytes ws r) ≡ bs₁
      → bs₁ ≡ file_bytes ws 0 (r + 1) ++ drop (14 * (r + 1)) bs₀
  more-stored bs bs₁ r h e s =
      let room = asks.room in
      let fit : 14 * (r + 1) ≤ length bs₀ = omega arith in
      rw (← s, e, file_bytes-rows ws 0 r, file_bytes-rows ws 0 (r + 1)) (rows_more (record_bytes ws) 14 (length-record_bytes ws) bs₀ r fit)
