-- The tag of a mark, by its two bytes as one number; the tags noted.
use Rattle.std.specs.Prelude.{Option, ℕ, Some, None, Bool, refl}
use Rattle.std.proofs.Common.{◌∙◌, get_or-set_same, get_or-set_other}
use Prim.Native.Nat.{ℕ, zero, suc, ◌+◌, ◌*◌, ◌<◌}
use mathlib.Core.Path.{◌≡◌}
use mathlib.Core.Bool.{true, false, not}
use mathlib.Core.List.{List}
use native.Mathlib.Omega.{arith}
use native.Mathlib.Decide.{ℕ_discrete}
use lib.ListN.{length, set, get_or}
use lib.Dec.{eqb}
use borrow.Author.Tests.{eq-eqb, ne_eqb}
use Rattle.rules.specs.Lists.{both, first}
use Rattle.rules.specs.File.{marks, tag_of, marked, is_known}
use Rattle.file.specs.Writing.{Noted}

-- where the code finds a tag the mark is known
pub known_by : (bs : List ℕ) (r k : ℕ) (f : Option ℕ) → marked bs r ≡ f → f ≡ Some k → not (is_known (marked bs r)) ≡ false
unfolding is_known
known_by bs r k f e p = rw (e, p, is_known)

-- where the code finds none it is unknown
pub unknown_by : (bs : List ℕ) (r : ℕ) (f : Option ℕ) → marked bs r ≡ f → f ≡ None → not (is_known (marked bs r)) ≡ true
unfolding is_known
unknown_by bs r f e p = rw (e, p, is_known)

-- what is found is among the numbers searched
first_below : (k : ℕ) (ok : ℕ → Bool) (i r : ℕ) → first k ok i ≡ Some r → r < i + k
unfolding first
first_below zero ok i r e = absurd (let z : None ≡ Some r = e in let y : ◌≡◌ {A = ℕ} 0 1 = cc in omega arith)
first_below (suc k) ok i r e = go (ok i) refl (first_below k ok (i + 1) r)
  where
    go : (b : Bool) → ok i ≡ b → (first k ok (i + 1) ≡ Some r → r < i + 1 + k) → r < i + suc k
    go true q ih = let z : Some i ≡ Some r = (rw (q, first) at e) in let y : i ≡ r = cc in omega arith
    go false q ih = let l = ih (rw (q, first) at e) in omega arith

-- a tag is a byte
pub tag_fits : (bs : List ℕ) (r k : ℕ) (f : Option ℕ) → marked bs r ≡ f → f ≡ Some k → k < 256
unfolding marked tag_of
tag_fits bs r k f e p = let l = first_below 10 _ 1 k (e ∙ p) in omega arith

-- one tag more is noted
pub noted_more : (bs ts : List ℕ) (r k : ℕ) (f : Option ℕ) → r < length ts → Noted bs ts r → marked bs r ≡ f → f ≡ Some k → Noted bs (set ts r k) (r + 1)
noted_more bs ts r k f l noted e p j h = go (ℕ_discrete j r)
  where
    go : Dec (j ≡ r) → marked bs j ≡ Some (get_or (set ts r k) j 0)
    go (yes q) = rw (q, get_or-set_same ts r k 0 l) (e ∙ p)
    go (no n) = rw (get_or-set_other ts r j k 0 n) (noted j (omega arith))

module _ (x y m : ℕ) (number : m ≡ 256 * x + y) (small : y < 256) where
  pub tag_known : (a b : ℕ) (f : Option ℕ) → b < 256 → m ≡ 256 * a + b → tag_of a b ≡ f → tag_of x y ≡ f
  tag_known a b f less e t =
      let p : x ≡ a = omega arith in
      let q : y ≡ b = omega arith in
      rw (p, q) t

  -- the two bytes are not this mark
  abbrev pub Not : ℕ → ℕ → Type 0
  Not a b = m ≡ 256 * a + b → ⊥

  unlike : (a b : ℕ) → Not a b → both (eqb a x) (eqb b y) ≡ false
  unfolding both
  unlike a b n = go (ℕ_discrete a x) (ℕ_discrete b y)
    where
      go : Dec (a ≡ x) → Dec (b ≡ y) → both (eqb a x) (eqb b y) ≡ false
      go (no p) q = rw (ne_eqb _ _ p)
      go (yes p) (yes q) = absurd (n (omega arith))
      go (yes p) (no q) = rw (eq-eqb _ _ p, ne_eqb _ _ q)

  pub tag_unknown : Not 66 84 → Not 65 82 → Not 75 79 → Not 72 79 → Not 67 69 → Not 76 65 → Not 67 65 → Not 86 65 → Not 72 65 → Not 69 81 → tag_of x y ≡ None
  unfolding tag_of first marks
  tag_unknown bt ar ko ho ce la ca va ha eq =
      rw (unlike 66 84 bt, unlike 65 82 ar, unlike 75 79 ko, unlike 72 79 ho, unlike 67 69 ce, unlike 76 65 la, unlike 67 65 ca, unlike 86 65 va, unlike 72 65 ha, unlike 69 81 eq, tag_of, first)
