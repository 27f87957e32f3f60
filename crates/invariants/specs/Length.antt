-- How long a printed text is: at most 14 bytes for each record that a term takes up, where words are below 2 to the 32nd.
use Prim.Native.Nat.{ℕ, zero, suc, ◌+◌, ◌*◌, ◌/◌, ◌%◌, ◌<◌, ◌≤◌}
use Rattle.std.specs.Prelude.{◌≡◌, List, [], ◌∷◌, ◌++◌, map, get_or}
use Rattle.std.proofs.Math.Path.{refl}
use native.Mathlib.Omega.{arith}
use Rattle.std.proofs.Math.Decide.{dec_lt}
use Rattle.std.proofs.Math.ListN.{length}
use Rattle.std.proofs.Common.{length-append, lt-ltb, le-ltb}
use Rattle.rules.specs.Lists.{enough}
use Rattle.rules.specs.Words.{field_a, Form, lambda, constant, variable, hole, form, arguments}
use Rattle.rules.specs.Text.{Bytes, digits, decimal, commas, brackets, print_term, printed}
use Rattle.invariants.specs.Extent.{extent, extents}

-- a power of ten
tens : ℕ → ℕ
tens zero = 1
tens (suc k) = 10 * tens k

digits_few : (k f x : ℕ) → x < 10 * tens k → length (digits f x) ≤ suc k
unfolding digits tens
digits_few k zero x h = omega arith
digits_few k (suc f) x h = go k (dec_lt x 10) h (λ j l. digits_few j f (x / 10) l)
  where
    go : (k : ℕ) → Dec (x < 10) → x < 10 * tens k → ((j : ℕ) → x / 10 < 10 * tens j → length (digits f (x / 10)) ≤ suc j) → length (digits (suc f) x) ≤ suc k
    go k (yes l) h ih = rw (lt-ltb _ _ l, digits) (omega arith)
    go zero (no l) h ih = absurd (omega arith)
    go (suc j) (no l) h ih =
        let le : 10 ≤ x = omega arith in
        let i = ih j (omega arith) in
        rw (le-ltb _ _ le, digits, length-append (digits f (x / 10)) ((48 + x % 10) ∷ [])) (omega arith)

-- a word is printed in at most ten digits
pub decimal_short : (x : ℕ) → x < 4294967296 → length (decimal x) ≤ 10
unfolding decimal tens
decimal_short x h = digits_few 9 enough x (omega arith)

commas-length : (print : ℕ → Bytes) (xs : List ℕ) → length (commas (map print xs)) ≡ extents (λ x. length (print x)) xs
unfolding commas extents
commas-length print [] = refl
commas-length print (x ∷ xs) = rw (length-append (print x) (commas (map print xs)), commas-length print xs)

brackets-length : (print : ℕ → Bytes) (xs : List ℕ) → length (brackets (map print xs)) ≤ suc (extents (λ x. length (print x)) xs)
unfolding brackets extents
brackets-length print [] = omega arith
brackets-length print (x ∷ xs) =
    rw (length-append (print x) (commas (map print xs) ++ (41 ∷ [])), length-append (commas (map print xs)) (41 ∷ []), commas-length print xs) (omega arith)

extents-most : (f g : ℕ → ℕ) → ((x : ℕ) → f x ≤ 14 * g x) → (xs : List ℕ) → extents f xs ≤ 14 * extents g xs
unfolding extents
extents-most f g h [] = omega arith
extents-most f g h (x ∷ xs) = let a = h x in let b = extents-most f g h xs in omega arith

module _ (ws : List ℕ) (fits : (i : ℕ) → get_or ws i 0 < 4294967296) where
  pub printed-length : (f r : ℕ) → length (printed f ws r) ≤ 14 * extent f ws r
  unfolding printed extent print_term
  printed-length zero r = omega arith
  printed-length (suc f) r = go (form ws r) refl (λ x. printed-length f x)
    where
      applied : ((x : ℕ) → length (printed f ws x) ≤ 14 * extent f ws x)
          → suc (length (decimal (field_a ws r) ++ brackets (map (λ x. printed f ws x) (arguments ws r)))) ≤ 14 * suc (extents (λ x. extent f ws x) (arguments ws r))
      applied ih =
          let d = decimal_short (field_a ws r) (fits (4 * r + 1)) in
          let b = brackets-length (λ x. printed f ws x) (arguments ws r) in
          let e = extents-most (λ x. length (printed f ws x)) (λ x. extent f ws x) ih (arguments ws r) in
          rw (length-append (decimal (field_a ws r)) (brackets (map (λ x. printed f ws x) (arguments ws r)))) (omega arith)

      go : (x : Form) → form ws r ≡ x → ((x : ℕ) → length (printed f ws x) ≤ 14 * extent f ws x) → length (printed (suc f) ws r) ≤ 14 * extent (suc f) ws r
      go lambda e ih = let i = ih (field_a ws r) in rw (e, print_term, extent) (omega arith)
      go constant e ih = rw (e, print_term, extent) (applied ih)
      go variable e ih = rw (e, print_term, extent) (applied ih)
      go hole e ih = rw (e, print_term, extent) (applied ih)
