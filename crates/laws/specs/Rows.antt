-- Rows of one length, one after another: a table's records, a file's records.
use Prim.Native.Nat.{ℕ, zero, suc, ◌+◌, ◌*◌, ◌<◌, ◌≤◌}
use Rattle.std.specs.Prelude.{◌≡◌, get_or, take, drop}
use Rattle.std.proofs.Math.Path.{refl, sym}
use Rattle.std.proofs.Common.{ap, ◌∙◌, length-drop, take_at, drop-drop, take-add, drop-cons, get_or-append-add}
use mathlib.Core.List.{List, [], ◌∷◌, ◌++◌, append_assoc, append-nil}
use native.Mathlib.Omega.{arith}
use Rattle.std.proofs.Math.Nat.{mul-suc}
use Rattle.std.proofs.Math.ListN.{length, length-append, get_or-append}
use Rattle.std.proofs.lemmas.List.Edits.{sets, sets-eq}
use Rattle.std.proofs.Math.Seq.{drop-append-add}

-- k rows from row r on
unfoldable pub rows : (ℕ → List ℕ) → ℕ → ℕ → List ℕ
rows row r zero = []
rows row r (suc k) = row r ++ rows row (r + 1) k

module _ (row : ℕ → List ℕ) where
  pub rows_last : (r k : ℕ) → rows row r (suc k) ≡ rows row r k ++ row (r + k)
  unfolding rows
  rows_last r zero = let z : r + 0 ≡ r = omega arith in rw (z, append-nil)
  rows_last r (suc k) =
      let e : r + suc k ≡ r + 1 + k = omega arith in
      rw (e, append_assoc) (ap (λ (xs : List ℕ). row r ++ xs) (rows_last (r + 1) k))

  -- rows that are alike
  pub rows_same : (other : ℕ → List ℕ) (r k : ℕ) → ((j : ℕ) → r ≤ j → j < r + k → row j ≡ other j) → rows row r k ≡ rows other r k
  unfolding rows
  rows_same other r zero h = refl
  rows_same other r (suc k) h = rw (h r (omega arith) (omega arith), rows_same other (r + 1) k (λ j a b. h j (omega arith) (omega arith)))

  module _ (d : ℕ) (wide : (r : ℕ) → length (row r) ≡ d) where
    pub length-rows : (r k : ℕ) → length (rows row r k) ≡ d * k
    unfolding rows
    length-rows r zero = sym (let z : d * 0 ≡ 0 = omega arith in z)
    length-rows r (suc k) =
        let ih = length-rows (r + 1) k in
        let w = wide r in
        let m = mul-suc d k in
        let a = length-append (row r) (rows row (r + 1) k) in
        omega arith

    -- element i of row r + j
    from_row : (r k j i : ℕ) → j < k → i < d → get_or (rows row r k) (d * j + i) 0 ≡ get_or (row (r + j)) i 0
    unfolding rows
    from_row r zero j i h l = absurd (omega arith)
    from_row r (suc k) zero i h l =
        let w = wide r in
        let z : d * 0 + i ≡ i = omega arith in
        let o : r + 0 ≡ r = omega arith in
        rw (z, o) (get_or-append (row r) (rows row (r + 1) k) 0 i (omega arith))
    from_row r (suc k) (suc j) i h l =
        let w = wide r in
        let m = mul-suc d j in
        let z : d * suc j + i ≡ length (row r) + (d * j + i) = omega arith in
        let o : r + suc j ≡ r + 1 + j = omega arith in
        rw (z, o, get_or-append-add) (from_row (r + 1) k j i (omega arith) l)

    -- element i of row j
    pub get_d_rows : (k j i : ℕ) → j < k → i < d → get_or (rows row 0 k) (d * j + i) 0 ≡ get_or (row j) i 0
    get_d_rows k j i h l = let z : 0 + j ≡ j = omega arith in from_row 0 k j i h l ∙ ap (λ (r : ℕ). get_or (row r) i 0) z

-- k elements of a list from element i + j on
unfoldable pub stretch : List ℕ → ℕ → ℕ → ℕ → List ℕ
stretch xs i j zero = []
stretch xs i j (suc k) = get_or xs (i + j) 0 ∷ stretch xs i (suc j) k

pub cut_stretch : (xs : List ℕ) (i j k : ℕ) → i + j + k ≤ length xs → take k (drop (i + j) xs) ≡ stretch xs i j k
unfolding stretch
cut_stretch xs i j zero h = refl
cut_stretch xs i j (suc k) h =
    let l : i + j < length xs = omega arith in
    let e : suc (i + j) ≡ i + suc j = omega arith in
    rw (drop-cons xs (i + j) 0 l, e, cut_stretch xs i (suc j) k (omega arith))

-- a list cut into rows
pub rows_cut : (d : ℕ) (xs : List ℕ) (k : ℕ) → rows (λ r. take d (drop (d * r) xs)) 0 k ≡ take (d * k) xs
unfolding rows
rows_cut d xs zero = let z : d * 0 ≡ 0 = omega arith in rw z
rows_cut d xs (suc k) =
    let z : 0 + k ≡ k = omega arith in
    (rw z at (rows_last (λ r. take d (drop (d * r) xs)) 0 k))
    ∙ ap (λ (ys : List ℕ). ys ++ take d (drop (d * k) xs)) (rows_cut d xs k)
    ∙ sym (take-add (d * k) d xs)
    ∙ ap (λ (i : ℕ). take i xs) (sym (mul-suc d k))

-- a row written after others, over what was there
row_written : (xs p row : List ℕ) (i : ℕ) → length p ≡ i → i + length row ≤ length xs → sets (p ++ drop i xs) i row ≡ p ++ row ++ drop (i + length row) xs
row_written xs p row i l fit =
    let m = length-append p (drop i xs) in
    let n = length-drop i xs in
    let room : i + length row ≤ length (p ++ drop i xs) = omega arith in
    let past : drop (i + length row) (p ++ drop i xs) ≡ drop (i + length row) xs =
    rw (← l) (drop-append-add p (drop (length p) xs) (length row) ∙ drop-drop (length row) (length p) xs)
    in
    sets-eq row (p ++ drop i xs) i room
    ∙ rw (take_at p (drop i xs) i l, past)

-- one row more is written
pub rows_more : (row : ℕ → List ℕ) (d : ℕ) → ((r : ℕ) → length (row r) ≡ d) → (xs : List ℕ) (r : ℕ) → d * (r + 1) ≤ length xs
    → sets (rows row 0 r ++ drop (d * r) xs) (d * r) (row r) ≡ rows row 0 (r + 1) ++ drop (d * (r + 1)) xs
rows_more row d wide xs r fit =
    let w = wide r in
    let o : r + 1 ≡ suc r = omega arith in
    let m = mul-suc d r in
    let e : d * r + length (row r) ≡ d * suc r = omega arith in
    let z : 0 + r ≡ r = omega arith in
    let last = rows_last row 0 r in
    rw (o, last, z, ← e) (row_written xs (rows row 0 r) (row r) (d * r) (length-rows row d wide 0 r) (rw e (rw o at fit)))
