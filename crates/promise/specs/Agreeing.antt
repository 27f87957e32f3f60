-- The positions at which two lists of arguments agree, as the machine's step 4 computes them.
use Rattle.std.specs.Prelude.{ℕ, suc, ◌+◌, ◌<◌, ◌≤◌, ◌≡◌, refl, List, [], ◌∷◌, length}
use Rattle.std.proofs.Common.{sym, ap, ap₂, ◌∙◌, arith, eq-eqb, ne_eqb}
use Rattle.std.proofs.Math.Decide.{ℕ_discrete}
use Rattle.rules.specs.Machine.{agreeing}
use Rattle.trees.specs.Tree.{AllL, Distinct, nth}
use Rattle.trees.specs.Moves.{Place, Covers}
use Rattle.trees.specs.Free.{AllL-map}
use Rattle.promise.specs.Positions.{StandsIn, stands_on, stands_here, stands_whole}

module _ (i x y : ℕ) (xs ys : List ℕ) where
  agreeing-here : x ≡ y → agreeing i (x ∷ xs) (y ∷ ys) ≡ i ∷ agreeing (i + 1) xs ys
  unfolding agreeing
  agreeing-here e = rw (eq-eqb x y e, agreeing)

  agreeing_on : (x ≡ y → ⊥) → agreeing i (x ∷ xs) (y ∷ ys) ≡ agreeing (i + 1) xs ys
  unfolding agreeing
  agreeing_on e = rw (ne_eqb x y e, agreeing)

between : (i : ℕ) (xs ys : List ℕ) → AllL (λ k. (i ≤ k) × (k < i + length xs)) (agreeing i xs ys)
unfolding agreeing
between i [] ys = tt
between i (x ∷ xs) [] = tt
between i (x ∷ xs) (y ∷ ys) = go (ℕ_discrete x y) (AllL-map (λ k h. (omega arith, omega arith)) (agreeing (i + 1) xs ys) (between (i + 1) xs ys))
  where
    go : Dec (x ≡ y) → AllL (λ k. (i ≤ k) × (k < i + length (x ∷ xs))) (agreeing (i + 1) xs ys)
        → AllL (λ k. (i ≤ k) × (k < i + length (x ∷ xs))) (agreeing i (x ∷ xs) (y ∷ ys))
    go (yes e) ih = rw (agreeing-here i x y xs ys e) ((omega arith, omega arith), ih)
    go (no e) ih = rw (agreeing_on i x y xs ys e) ih

distinct_from : (i : ℕ) (xs ys : List ℕ) → Distinct (agreeing i xs ys)
unfolding agreeing
distinct_from i [] ys = tt
distinct_from i (x ∷ xs) [] = tt
distinct_from i (x ∷ xs) (y ∷ ys) = go (ℕ_discrete x y) (distinct_from (i + 1) xs ys)
  where
    go : Dec (x ≡ y) → Distinct (agreeing (i + 1) xs ys) → Distinct (agreeing i (x ∷ xs) (y ∷ ys))
    go (yes e) ih = rw (agreeing-here i x y xs ys e) (AllL-map (λ k h. omega arith) (agreeing (i + 1) xs ys) (between (i + 1) xs ys), ih)
    go (no e) ih = rw (agreeing_on i x y xs ys e) ih

agree_from : (i : ℕ) (xs ys us vs : List ℕ) → StandsIn i xs us → StandsIn i ys vs → AllL (λ k. nth us k ≡ nth vs k) (agreeing i xs ys)
unfolding agreeing
agree_from i [] ys us vs s t = tt
agree_from i (x ∷ xs) [] us vs s t = tt
agree_from i (x ∷ xs) (y ∷ ys) us vs s t = go (ℕ_discrete x y) (agree_from (i + 1) xs ys us vs (stands_on i x xs us s) (stands_on i y ys vs t))
  where
    go : Dec (x ≡ y) → AllL (λ k. nth us k ≡ nth vs k) (agreeing (i + 1) xs ys) → AllL (λ k. nth us k ≡ nth vs k) (agreeing i (x ∷ xs) (y ∷ ys))
    go (yes e) ih = rw (agreeing-here i x y xs ys e) (stands_here i x xs us s ∙ e ∙ sym (stands_here i y ys vs t), ih)
    go (no e) ih = rw (agreeing_on i x y xs ys e) ih

place-from : (i : ℕ) (xs ys us vs : List ℕ) → length xs ≡ length ys → StandsIn i xs us → StandsIn i ys vs → (j : ℕ) → i ≤ j → j < i + length xs → nth us j ≡ nth vs j
    → Place (agreeing i xs ys) j
place-from i [] ys us vs l s t j a b c = absurd (omega arith)
place-from i (x ∷ xs) [] us vs l s t j a b c = absurd (omega arith)
place-from i (x ∷ xs) (y ∷ ys) us vs l s t j a b c =
    go (ℕ_discrete x y) (ℕ_discrete i j) (λ z. place-from (i + 1) xs ys us vs (omega arith) (stands_on i x xs us s) (stands_on i y ys vs t) j z (omega arith) c)
  where
    go : Dec (x ≡ y) → Dec (i ≡ j) → (i + 1 ≤ j → Place (agreeing (i + 1) xs ys) j) → Place (agreeing i (x ∷ xs) (y ∷ ys)) j
    go (yes e) (yes q) ih = rw (agreeing-here i x y xs ys e) (0, omega arith, q)
    go (yes e) (no q) ih = let z = ih (omega arith) in rw (agreeing-here i x y xs ys e) (suc z.0, omega (arith, z.1), z.2)
    go (no e) (yes q) ih = absurd (e (sym (stands_here i x xs us s) ∙ (rw (← q) at c) ∙ stands_here i y ys vs t))
    go (no e) (no q) ih = rw (agreeing_on i x y xs ys e) (ih (omega arith))

agreeing-length : (i : ℕ) (xs ys : List ℕ) → length (agreeing i xs ys) ≤ length xs
unfolding agreeing
agreeing-length i [] ys = omega arith
agreeing-length i (x ∷ xs) [] = omega arith
agreeing-length i (x ∷ xs) (y ∷ ys) = go (ℕ_discrete x y) (agreeing-length (i + 1) xs ys)
  where
    go : Dec (x ≡ y) → length (agreeing (i + 1) xs ys) ≤ length xs → length (agreeing i (x ∷ xs) (y ∷ ys)) ≤ suc (length xs)
    go (yes e) ih = rw (agreeing-here i x y xs ys e) (omega arith)
    go (no e) ih = rw (agreeing_on i x y xs ys e) (omega arith)

equal_from : (i : ℕ) (xs ys : List ℕ) → length xs ≡ length ys → length (agreeing i xs ys) ≡ length xs → xs ≡ ys
unfolding agreeing
equal_from i [] [] l h = refl
equal_from i [] (y ∷ ys) l h = absurd (omega arith)
equal_from i (x ∷ xs) [] l h = absurd (omega arith)
equal_from i (x ∷ xs) (y ∷ ys) l h = go (ℕ_discrete x y) (equal_from (i + 1) xs ys (omega arith))
  where
    go : Dec (x ≡ y) → (length (agreeing (i + 1) xs ys) ≡ length xs → xs ≡ ys) → x ∷ xs ≡ y ∷ ys
    go (yes e) ih =
        let k : suc (length (agreeing (i + 1) xs ys)) ≡ suc (length xs) = sym (ap length (agreeing-here i x y xs ys e)) ∙ h in
        ap₂ ◌∷◌ e (ih (omega arith))
    go (no e) ih =
        let k : length (agreeing (i + 1) xs ys) ≡ suc (length xs) = sym (ap length (agreeing_on i x y xs ys e)) ∙ h in
        let m = agreeing-length (i + 1) xs ys in
        absurd (omega arith)

module _ (xs ys : List ℕ) where
  pub agreeing-below : AllL (λ k. k < length xs) (agreeing 0 xs ys)
  agreeing-below = AllL-map (λ k h. omega (arith, h.1)) (agreeing 0 xs ys) (between 0 xs ys)

  pub agreeing-distinct : Distinct (agreeing 0 xs ys)
  agreeing-distinct = distinct_from 0 xs ys

  pub agreeing-all : AllL (λ k. nth xs k ≡ nth ys k) (agreeing 0 xs ys)
  agreeing-all = agree_from 0 xs ys xs ys (stands_whole xs) (stands_whole ys)

  pub agreeing_covers : length xs ≡ length ys → Covers (λ k. nth xs k ≡ nth ys k) (length xs) (agreeing 0 xs ys)
  agreeing_covers l j h c = place-from 0 xs ys xs ys l (stands_whole xs) (stands_whole ys) j (omega arith) (omega arith) c

  pub agreeing_full : length xs ≡ length ys → length (agreeing 0 xs ys) ≡ length xs → xs ≡ ys
  agreeing_full l h = equal_from 0 xs ys l h
