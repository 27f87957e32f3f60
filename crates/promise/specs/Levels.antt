-- As many levels as there are records expand every solved hole: the run's filling is the expansion of the solutions.
use Prim.Native.Nat.{ℕ, zero, suc, ◌<◌, ◌≤◌}
use Rattle.std.specs.Prelude.{◌≡◌, true, false, ltb}
use Rattle.std.proofs.Math.Path.{refl, sym, ap}
use Rattle.std.proofs.Common.{◌∙◌, lt-ltb, le-ltb}
use Rattle.std.proofs.Math.Option.{Option, none, some}
use native.Mathlib.Omega.{arith}
use Rattle.std.proofs.Math.Decide.{dec_lt, ℕ_discrete}
use Rattle.rules.specs.Store.{Store}
use Rattle.trees.specs.Tree.{Tree, nil, Holes}
use Rattle.trees.specs.Statements.{expand_at, Expansion}
use Rattle.trees.specs.Filling.{Holes-both, Holes-map, inst_agree}
use Rattle.trees.specs.Order.{Ranked}
use Rattle.promise.specs.Table.{holes, solution_of, expanded, filling}

-- how many of the numbers below n have a rank below x
count : (ℕ → ℕ) → ℕ → ℕ → ℕ
count r zero x = 0
count r (suc n) x = elim (ltb (r n) x) [ true ↦ suc (count r n x) | false ↦ count r n x ]

module _ (r : ℕ → ℕ) where
  count_in : (n x : ℕ) → r n < x → count r (suc n) x ≡ suc (count r n x)
  unfolding count
  count_in n x h = rw (lt-ltb (r n) x h, count)

  count_out : (n x : ℕ) → x ≤ r n → count r (suc n) x ≡ count r n x
  unfolding count
  count_out n x h = rw (le-ltb (r n) x h, count)

  count-below : (n x : ℕ) → count r n x ≤ n
  unfolding count
  count-below zero x = omega arith
  count-below (suc n) x = go (dec_lt (r n) x) (count-below n x)
    where
      go : Dec (r n < x) → count r n x ≤ n → count r (suc n) x ≤ suc n
      go (yes h) ih = omega (arith, count_in n x h)
      go (no h) ih = let k : x ≤ r n = omega arith in omega (arith, count_out n x k)

  count_grows : (n x y : ℕ) → x ≤ y → count r n x ≤ count r n y
  unfolding count
  count_grows zero x y l = omega arith
  count_grows (suc n) x y l = go (dec_lt (r n) x) (dec_lt (r n) y) (count_grows n x y l)
    where
      go : Dec (r n < x) → Dec (r n < y) → count r n x ≤ count r n y → count r (suc n) x ≤ count r (suc n) y
      go (yes h) (yes k) ih = omega (arith, count_in n x h, count_in n y k)
      go (yes h) (no k) ih = absurd (omega arith)
      go (no h) (yes k) ih = let z : x ≤ r n = omega arith in omega (arith, count_out n x z, count_in n y k)
      go (no h) (no k) ih = let z : x ≤ r n = omega arith in let w : y ≤ r n = omega arith in omega (arith, count_out n x z, count_out n y w)

  count_rises : (n g y : ℕ) → g < n → r g < y → count r n (r g) < count r n y
  unfolding count
  count_rises zero g y l h = absurd (omega arith)
  count_rises (suc n) g y l h = go (ℕ_discrete g n) (dec_lt (r n) (r g)) (dec_lt (r n) y) (λ k. count_rises n g y k h)
    where
      go : Dec (g ≡ n) → Dec (r n < r g) → Dec (r n < y) → (g < n → count r n (r g) < count r n y) → count r (suc n) (r g) < count r (suc n) y
      go (yes e) a b ih =
          let z : r n ≡ r g = ap r (sym e) in
          let k : r g ≤ r n = omega arith in
          let m : r n < y = omega arith in
          omega (arith, count_out n (r g) k, count_in n y m, count_grows n (r g) y (omega arith))
      go (no e) (yes a) (yes b) ih = let i = ih (omega arith) in omega (arith, count_in n (r g) a, count_in n y b)
      go (no e) (yes a) (no b) ih = absurd (omega arith)
      go (no e) (no a) (yes b) ih = let i = ih (omega arith) in let z : r g ≤ r n = omega arith in omega (arith, count_out n (r g) z, count_in n y b)
      go (no e) (no a) (no b) ih =
          let i = ih (omega arith) in
          let z : r g ≤ r n = omega arith in
          let w : y ≤ r n = omega arith in
          omega (arith, count_out n (r g) z, count_out n y w)

module _ (s : Store) (r : ℕ → ℕ) (w : Ranked r (solution_of s)) (solved_low : (h : ℕ) (t : Tree) → solution_of s h ≡ some t → h < s.used)
    (inside_low : (h : ℕ) (t : Tree) → solution_of s h ≡ some t → Holes (λ g _. g < s.used) t) (F : ℕ → Tree) (x : Expansion (holes s.words s.used) (solution_of s) F) where
  level : ℕ → ℕ
  level h = count r s.used (r h)

  -- a hole that is solved has a level below k
  expanded_is : (k h : ℕ) → ((t : Tree) → solution_of s h ≡ some t → level h < k) → expanded k s h ≡ F h
  unfolding expanded level
  expanded_is zero h l = go (solution_of s h) refl ∙ sym (x h)
    where
      go : (o : Option Tree) → solution_of s h ≡ o → expand_at (holes s.words s.used) (λ g. nil) none h ≡ expand_at (holes s.words s.used) F o h
      go none e = refl
      go (some t) e = absurd (let z = l t e in omega arith)
  expanded_is (suc k) h l = go (solution_of s h) refl (λ g m. expanded_is k g m) ∙ sym (x h)
    where
      go : (o : Option Tree) → solution_of s h ≡ o → ((g : ℕ) → ((t : Tree) → solution_of s g ≡ some t → level g < k) → expanded k s g ≡ F g)
          → expand_at (holes s.words s.used) (λ g. expanded k s g) o h ≡ expand_at (holes s.words s.used) F o h
      go none e ih = refl
      go (some t) e ih =
          inst_agree (λ g. expanded k s g) F t
          (Holes-map (λ g _ p. ih g (λ _ _. let z = count_rises r s.used g (r h) p.1 p.0 in let y = l t e in omega arith)) t
          (Holes-both (λ g _. r g < r h) (λ g _. g < s.used) t (w h t e) (inside_low h t e)))

  pub filling_is : (h : ℕ) → filling s h ≡ F h
  unfolding filling level
  filling_is h = expanded_is s.used h λ t e.
      let a = count_rises r s.used h (suc (r h)) (solved_low h t e) (omega arith) in
      let b = count-below r s.used (suc (r h)) in
      omega arith
