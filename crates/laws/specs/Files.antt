-- Reading what was written gives the same records, and writing what was read gives the same bytes.
use Rattle.std.specs.Prelude.{ℕ, ◌*◌, ◌/◌, ◌%◌, ◌<◌, ◌≤◌, min, ◌≡◌, refl, Bool, true, false, not, List, ◌++◌, length, take, drop, eqb, ltb, Option, Some, None}
use Rattle.std.proofs.Common.{ap, ◌∙◌, arith, take_at, take_all, ltb-false, le-ltb, eqb-true, eq-eqb}
use Rattle.std.proofs.lemmas.Bool.{not-false}
use Rattle.rules.specs.declared.Reply.{Reply}
use Rattle.rules.specs.Lists.{either, lowest}
use Rattle.rules.specs.Answers.{reply, records}
use Rattle.rules.specs.Records.{broken}
use Rattle.rules.specs.File.{marked, is_known, file_words, read}
use Rattle.rules.specs.FileWrite.{file_bytes, record_bytes, Wrote, write}
use Rattle.laws.specs.Tests.{lowest_none}
use Rattle.laws.specs.Search.{lowest_nowhere}
use Rattle.laws.specs.Sound.{broken_none}
use Rattle.laws.specs.Rows.{length-rows}
use Rattle.laws.specs.FileRows.{Words, Bytes, file_bytes-rows, length-record_bytes}
use Rattle.laws.specs.FileRecords.{marked_again, words_again, file_again}

-- Answer 0

-- what writing that answers 0 has found, and what it leaves
record Written (ws : List ℕ) (n : ℕ) (bs : List ℕ) : Type 0 where
  few : n ≤ 2048
  held : n ≤ records ws
  none : broken ws n ≡ None
  is : write ws n bs ≡ record { file = file_bytes ws 0 n ++ drop (14 * n) bs; said = reply 0 0 n }

written : (ws : List ℕ) (n : ℕ) (bs : List ℕ) → (write ws n bs).said.answer ≡ 0 → Written ws n bs
unfolding write either
written ws n bs z = go (ltb (records ws) n) refl (ltb 2048 n) refl (broken ws n) refl (ltb (length bs) (14 * n)) refl
  where
    go : (a : Bool) → ltb (records ws) n ≡ a → (b : Bool) → ltb 2048 n ≡ b → (f : Option ℕ) → broken ws n ≡ f → (c : Bool) → ltb (length bs) (14 * n) ≡ c → Written ws n bs
    go true p b q f r c s = absurd (let e : ◌≡◌ {A = ℕ} 4 0 = (rw (p, write) at z) in omega arith)
    go false p true q f r c s = absurd (let e : ◌≡◌ {A = ℕ} 4 0 = (rw (p, q, write) at z) in omega arith)
    go false p false q (Some k) r c s = absurd (let e : ◌≡◌ {A = ℕ} 5 0 = (rw (p, q, r, write) at z) in omega arith)
    go false p false q None r true s = absurd (let e : ◌≡◌ {A = ℕ} 14 0 = (rw (p, q, r, s, write) at z) in omega arith)
    go false p false q None r false s = record { few = ltb-false _ _ q; held = ltb-false _ _ p; none = r; is = rw (p, q, r, s, write) }

-- a whole file with known marks, for which the table has room, is read
read_known : (bs ws : List ℕ) (n : ℕ) → length bs ≡ 14 * n → n ≤ 2048 → n ≤ records ws → ((r : ℕ) → r < n → is_known (marked bs r) ≡ true)
    → read bs ws ≡ record { table = file_words bs 0 n ++ drop (4 * n) ws; said = reply 0 0 n }
unfolding read either
read_known bs ws n whole few held known =
    let short : length bs ≤ 28672 = omega arith in
    let even : length bs % 14 ≡ 0 = omega arith in
    let m : length bs / 14 ≡ n = omega arith in
    let room : length bs / 14 ≤ records ws = omega arith in
    let all = lowest_nowhere (length bs / 14) (λ r. not (is_known (marked bs r))) (λ r h. ap not (known r (omega arith))) in
    rw (le-ltb _ _ short, eq-eqb _ _ even, le-ltb _ _ room, all, read, m)

-- what reading that answers 0 has found, and what it leaves
record Taken (bs ws : List ℕ) (n : ℕ) : Type 0 where
  whole : length bs ≡ 14 * n
  known : (r : ℕ) → r < n → is_known (marked bs r) ≡ true
  is : (read bs ws).table ≡ file_words bs 0 n ++ drop (4 * n) ws

taken : (bs ws : List ℕ) (n : ℕ) → (read bs ws).said ≡ reply 0 0 n → Taken bs ws n
unfolding read either
taken bs ws n z = go (ltb 28672 (length bs)) refl (eqb (length bs % 14) 0) refl (ltb (records ws) (length bs / 14)) refl (lowest (length bs / 14) (λ r. not (is_known (marked bs r)))) refl
  where
    go : (a : Bool) → ltb 28672 (length bs) ≡ a → (b : Bool) → eqb (length bs % 14) 0 ≡ b → (c : Bool) → ltb (records ws) (length bs / 14) ≡ c
        → (f : Option ℕ) → lowest (length bs / 14) (λ r. not (is_known (marked bs r))) ≡ f → Taken bs ws n
    go true p b q c r f s = absurd (let e : ◌≡◌ {A = ℕ} 12 0 = ap (λ (x : Reply). x.answer) (rw (p, read) at z) in omega arith)
    go false p false q c r f s = absurd (let e : ◌≡◌ {A = ℕ} 12 0 = ap (λ (x : Reply). x.answer) (rw (p, q, read) at z) in omega arith)
    go false p true q true r f s = absurd (let e : ◌≡◌ {A = ℕ} 4 0 = ap (λ (x : Reply). x.answer) (rw (p, q, r, read) at z) in omega arith)
    go false p true q false r (Some k) s = absurd (let e : ◌≡◌ {A = ℕ} 13 0 = ap (λ (x : Reply). x.answer) (rw (p, q, r, s, read) at z) in omega arith)
    go false p true q false r None s =
        let m : length bs / 14 ≡ n = ap (λ (x : Reply). x.used) (rw (p, q, r, s, read) at z) in
        let even : length bs % 14 ≡ 0 = eqb-true _ _ q in
        record {
          whole = omega arith;
          known = λ j h. not-false _ (lowest_none (length bs / 14) (λ r. not (is_known (marked bs r))) s j (omega arith));
          is = rw (p, q, r, s, read, m);
        }

-- Round trips

-- where n records were written, reading the file gives the same n records, in any table that has room for them
pub read-written : (ws : List ℕ) (n : ℕ) (bs ws' : List ℕ) → Words ws → (write ws n bs).said.answer ≡ 0 → n ≤ records ws'
    → read (take (14 * n) (write ws n bs).file) ws' ≡ record { table = take (4 * n) ws ++ drop (4 * n) ws'; said = reply 0 0 n }
unfolding records is_known
read-written ws n bs ws' fits z room =
    let w = written ws n bs z in
    let g = broken_none ws n w.none in
    let long : length (file_bytes ws 0 n) ≡ 14 * n = ap length (file_bytes-rows ws 0 n) ∙ length-rows (record_bytes ws) 14 (length-record_bytes ws) 0 n in
    let file : take (14 * n) (write ws n bs).file ≡ file_bytes ws 0 n =
    ap (λ (x : Wrote). take (14 * n) x.file) w.is ∙ take_at (file_bytes ws 0 n) (drop (14 * n) bs) (14 * n) long
    in
    let held : n ≤ min (length ws / 4) 4096 = w.held in
    let inside : 4 * n ≤ length ws = omega arith in
    rw (file, ← words_again ws n g fits inside) (read_known (file_bytes ws 0 n) ws' n long w.few room (λ r h. ap is_known (marked_again ws n g fits r h)))

-- where n records were read, writing them gives the same bytes, and bytes past them stay
pub written_read : (bs ws : List ℕ) (n : ℕ) (bs' : List ℕ) → Bytes bs → (read bs ws).said ≡ reply 0 0 n → (write (read bs ws).table n bs').said.answer ≡ 0
    → write (read bs ws).table n bs' ≡ record { file = bs ++ drop (14 * n) bs'; said = reply 0 0 n }
written_read bs ws n bs' fits z y =
    let t = taken bs ws n z in
    let whole = t.whole in
    let same : file_bytes (read bs ws).table 0 n ≡ bs =
    ap (λ (xs : List ℕ). file_bytes xs 0 n) t.is ∙ file_again bs ws n fits t.known (omega arith) ∙ take_all (14 * n) bs (omega arith)
    in
    (written (read bs ws).table n bs' y).is ∙ ap (λ (xs : List ℕ). record { file = xs ++ drop (14 * n) bs'; said = reply 0 0 n }) same
