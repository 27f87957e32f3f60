-- One record of a file: its bytes give its words back, and its words its bytes.
use Rattle.std.specs.Prelude.{ℕ, zero, suc, ◌+◌, ◌*◌, ◌/◌, ◌%◌, ◌<◌, ◌≤◌, ◌≡◌, not, List, [], ◌∷◌, ◌++◌, length, get_or, take, drop, eqb, Option, Some, None}
use Rattle.std.proofs.Math.Path.{refl}
use Rattle.std.proofs.Common.{sym, ap, ◌∙◌, eqb-true}
use Rattle.std.proofs.Math.Bool.{true}
use native.Mathlib.Omega.{arith}
use Rattle.std.proofs.Math.ListN.{get_or-append}
use Rattle.std.proofs.lemmas.Bool.{not-false}
use Rattle.rules.specs.Lists.{both, first, lowest}
use Rattle.rules.specs.Words.{BT, EQ, tag, field_a, field_b, field_c}
use Rattle.rules.specs.File.{marks, tag_of, byte, marked, word, is_known, tag_word, file_words}
use Rattle.rules.specs.FileWrite.{word_bytes, mark_bytes, record_bytes, file_bytes}
use Rattle.laws.specs.Tests.{false_true, both_true, lowest_none}
use Rattle.laws.specs.Search.{first_passes}
use Rattle.laws.specs.Sound.{Sound, known-tag}
use Rattle.laws.specs.Rows.{stretch, cut_stretch, rows_same, rows_cut, get_d_rows, length-rows}
use Rattle.laws.specs.FileRows.{Words, Bytes, record_words, file_words-rows, file_bytes-rows, length-record_bytes}

-- Marks and tags

-- the mark of each of the ten tags names that tag, as computed for each
all_tags : lowest 10 (λ j. not (eqb (tag_word (tag_of (get_or marks (suc j) (0, 0)).0 (get_or marks (suc j) (0, 0)).1)) (suc j))) ≡ None
unfolding lowest first tag_of marks both tag_word
all_tags = refl

pub tag_again : (t : ℕ) → BT ≤ t → t ≤ EQ → tag_of (get_or marks t (0, 0)).0 (get_or marks t (0, 0)).1 ≡ Some t
unfolding tag_word
tag_again zero low high = absurd (omega arith)
tag_again (suc j) low high = go _ refl (eqb-true _ _ (not-false _ (lowest_none 10 _ all_tags j (omega arith))))
  where
    go : (f : Option ℕ) → tag_of (get_or marks (suc j) (0, 0)).0 (get_or marks (suc j) (0, 0)).1 ≡ f → tag_word (tag_of (get_or marks (suc j) (0, 0)).0 (get_or marks (suc j) (0, 0)).1) ≡ suc j
        → tag_of (get_or marks (suc j) (0, 0)).0 (get_or marks (suc j) (0, 0)).1 ≡ Some (suc j)
    go (Some k) e q = e ∙ ap Some (rw e at q)
    go None e q = absurd (let z : 0 ≡ suc j = (rw e at q) in omega arith)

pub mark_again : (x y t : ℕ) → tag_of x y ≡ Some t → mark_bytes t ≡ x ∷ y ∷ []
unfolding tag_of mark_bytes
mark_again x y t e =
    let p = both_true _ _ (first_passes 10 _ 1 t e) in
    let a : (get_or marks t (0, 0)).0 ≡ x = eqb-true _ _ p.0 in
    let b : (get_or marks t (0, 0)).1 ≡ y = eqb-true _ _ p.1 in
    rw (a, b)

-- Words and bytes

-- the word of four bytes
abbrev value : ℕ → ℕ → ℕ → ℕ → ℕ
value a b c d = a + 256 * (b + 256 * (c + 256 * d))

shifted : (w : ℕ) → (w / 65536 ≡ w / 256 / 256) × (w / 16777216 ≡ w / 256 / 256 / 256)
shifted w = (omega arith, omega arith)

pub word_again : (w : ℕ) → w < 4294967296 → word (word_bytes w) 0 ≡ w
unfolding word word_bytes
word_again w h =
    let s = shifted w in
    let d : w / 256 / 256 / 256 % 256 ≡ w / 256 / 256 / 256 = omega arith in
    let c : w / 256 / 256 % 256 + 256 * (w / 256 / 256 / 256) ≡ w / 256 / 256 = omega arith in
    let b : w / 256 % 256 + 256 * (w / 256 / 256) ≡ w / 256 = omega arith in
    rw (s.0, s.1, d, c, b) (omega arith)

bytes_of-value : (a b c d : ℕ) → a < 256 → b < 256 → c < 256 → d < 256 → word_bytes (value a b c d) ≡ a ∷ b ∷ c ∷ d ∷ []
unfolding word_bytes
bytes_of-value a b c d k l m n =
    let w = value a b c d in
    let s = shifted w in
    let p : w % 256 ≡ a = omega arith in
    let q : w / 256 ≡ b + 256 * (c + 256 * d) = omega arith in
    let e : (b + 256 * (c + 256 * d)) / 256 ≡ c + 256 * d = omega arith in
    let f : (c + 256 * d) / 256 ≡ d = omega arith in
    let x : (b + 256 * (c + 256 * d)) % 256 ≡ b = omega arith in
    let y : (c + 256 * d) % 256 ≡ c = omega arith in
    let z : d % 256 ≡ d = omega arith in
    rw (s.0, s.1, p, q, e, f, x, y, z)

-- a word's bytes are those that it was read from
pub bytes_again : (bs : List ℕ) → Bytes bs → (i k : ℕ) → word_bytes (word bs (i + k)) ≡ stretch bs i k 4
unfolding word stretch
bytes_again bs fits i k =
    let one : i + k + 1 ≡ i + suc k = omega arith in
    let two : i + k + 2 ≡ i + suc (suc k) = omega arith in
    let three : i + k + 3 ≡ i + suc (suc (suc k)) = omega arith in
    rw (one, two, three) (bytes_of-value _ _ _ _ (fits (i + k)) (fits (i + suc k)) (fits (i + suc (suc k))) (fits (i + suc (suc (suc k)))))

-- What is written is read again

-- the words of record r
table_row : (ws : List ℕ) (r : ℕ) → 4 * r + 4 ≤ length ws → take 4 (drop (4 * r) ws) ≡ tag ws r ∷ field_a ws r ∷ field_b ws r ∷ field_c ws r ∷ []
unfolding stretch
table_row ws r h = let z : 4 * r + 0 ≡ 4 * r = omega arith in rw z at (cut_stretch ws (4 * r) 0 4 (omega arith))

module _ (ws : List ℕ) (n : ℕ) where
  byte_at : (r i : ℕ) → r < n → i < 14 → byte (file_bytes ws 0 n) (14 * r + i) ≡ get_or (record_bytes ws r) i 0
  byte_at r i h l = rw (file_bytes-rows ws 0 n) (get_d_rows (record_bytes ws) 14 (length-record_bytes ws) n r i h l)

  word_at : (r k : ℕ) → r < n → k + 3 < 14 → word (file_bytes ws 0 n) (14 * r + k) ≡ word (record_bytes ws r) k
  unfolding word
  word_at r k h l =
      let one : 14 * r + k + 1 ≡ 14 * r + (k + 1) = omega arith in
      let two : 14 * r + k + 2 ≡ 14 * r + (k + 2) = omega arith in
      let three : 14 * r + k + 3 ≡ 14 * r + (k + 3) = omega arith in
      let d = byte_at r (k + 3) h l in
      let c = byte_at r (k + 2) h (omega arith) in
      let b = byte_at r (k + 1) h (omega arith) in
      let a = byte_at r k h (omega arith) in
      rw (one, two, three, a, b, c, d)

  module _ (g : Sound ws n) (fits : Words ws) where
    pub marked_again : (r : ℕ) → r < n → marked (file_bytes ws 0 n) r ≡ Some (tag ws r)
    unfolding marked record_bytes mark_bytes
    marked_again r h =
        let z : 14 * r + 0 ≡ 14 * r = omega arith in
        let k = known-tag ws n g r h in
        let a = rw z at (byte_at r 0 h (omega arith)) in
        let b = byte_at r 1 h (omega arith) in
        rw (a, b) (tag_again (tag ws r) k.0 k.1)

    record_again : (r : ℕ) → r < n → record_words (file_bytes ws 0 n) r ≡ tag ws r ∷ field_a ws r ∷ field_b ws r ∷ field_c ws r ∷ []
    unfolding word record_bytes mark_bytes word_bytes tag_word
    record_again r h =
        let a = word_at r 2 h (omega arith) ∙ word_again (field_a ws r) (fits (4 * r + 1)) in
        let b = word_at r 6 h (omega arith) ∙ word_again (field_b ws r) (fits (4 * r + 2)) in
        let c = word_at r 10 h (omega arith) ∙ word_again (field_c ws r) (fits (4 * r + 3)) in
        rw (marked_again r h, a, b, c)

    pub words_again : 4 * n ≤ length ws → file_words (file_bytes ws 0 n) 0 n ≡ take (4 * n) ws
    words_again inside =
        file_words-rows (file_bytes ws 0 n) 0 n
        ∙ rows_same (record_words (file_bytes ws 0 n)) (λ r. take 4 (drop (4 * r) ws)) 0 n (λ r a b. record_again r (omega arith) ∙ sym (table_row ws r (omega arith)))
        ∙ rows_cut 4 ws n

-- What is read is written again

module _ (bs ws : List ℕ) (n : ℕ) where
  -- the table that reading leaves
  abbrev left : List ℕ
  left = file_words bs 0 n ++ drop (4 * n) ws

  word-left : (r i : ℕ) → r < n → i < 4 → get_or left (4 * r + i) 0 ≡ get_or (record_words bs r) i 0
  word-left r i h l =
      let m : length (file_words bs 0 n) ≡ 4 * n = ap length (file_words-rows bs 0 n) ∙ length-rows (record_words bs) 4 (λ j. refl) 0 n in
      get_or-append (file_words bs 0 n) (drop (4 * n) ws) 0 (4 * r + i) (omega arith)
      ∙ ap (λ (xs : List ℕ). get_or xs (4 * r + i) 0) (file_words-rows bs 0 n)
      ∙ get_d_rows (record_words bs) 4 (λ j. refl) n r i h l

  module _ (fits : Bytes bs) (known : (r : ℕ) → r < n → is_known (marked bs r) ≡ true) where
    mark-left : (r : ℕ) → r < n → mark_bytes (tag_word (marked bs r)) ≡ stretch bs (14 * r) 0 2
    unfolding marked tag_word is_known stretch
    mark-left r h = go (marked bs r) refl (known r h)
      where
        go : (f : Option ℕ) → marked bs r ≡ f → is_known f ≡ true → mark_bytes (tag_word f) ≡ stretch bs (14 * r) 0 2
        go (Some t) e k = let z : 14 * r + 0 ≡ 14 * r = omega arith in rw z (mark_again _ _ t e)
        go None e k = absurd (false_true k)

    record_left : (r : ℕ) → r < n → record_bytes left r ≡ stretch bs (14 * r) 0 14
    unfolding record_bytes stretch
    record_left r h =
        let z : 4 * r + 0 ≡ 4 * r = omega arith in
        let t = rw z at (word-left r 0 h (omega arith)) in
        let a = word-left r 1 h (omega arith) in
        let b = word-left r 2 h (omega arith) in
        let c = word-left r 3 h (omega arith) in
        rw (t, a, b, c, mark-left r h, bytes_again bs fits (14 * r) 2, bytes_again bs fits (14 * r) 6, bytes_again bs fits (14 * r) 10)

    pub file_again : 14 * n ≤ length bs → file_bytes left 0 n ≡ take (14 * n) bs
    file_again inside =
        file_bytes-rows left 0 n
        ∙ rows_same (record_bytes left) (λ r. take 14 (drop (14 * r) bs)) 0 n (λ r a b. record_left r (omega arith) ∙ sym (bytes_row r (omega arith)))
        ∙ rows_cut 14 bs n
      where
        bytes_row : (r : ℕ) → 14 * r + 14 ≤ length bs → take 14 (drop (14 * r) bs) ≡ stretch bs (14 * r) 0 14
        bytes_row r h = let z : 14 * r + 0 ≡ 14 * r = omega arith in rw z at (cut_stretch bs (14 * r) 0 14 (omega arith))
