-- What a passed or failed test of the rules says.
use Rattle.std.specs.Prelude.{ℕ, zero, suc, ◌+◌, ◌<◌, ◌≤◌, ◌≡◌, refl, Bool, true, false, List, ◌⊎◌, Some, None}
use Rattle.std.proofs.Common.{inl, inr, arith, eq-eqb, ne_eqb, eqb-true}
use Rattle.std.proofs.Math.Decide.{ℕ_discrete}
use Rattle.rules.specs.Lists.{both, either, first, lowest}
use Rattle.rules.specs.Words.{tag, has}

pub false_true : false ≡ true → ⊥
false_true e = let z : ◌≡◌ {A = ℕ} 0 1 = cc in omega arith

pub both_true : (a b : Bool) → both a b ≡ true → (a ≡ true) × (b ≡ true)
unfolding both
both_true true true e = (refl, refl)
both_true true false e = absurd (false_true e)
both_true false true e = absurd (false_true e)
both_true false false e = absurd (false_true e)

pub both_no : (a : Bool) → both a false ≡ false
unfolding both
both_no true = refl
both_no false = refl

pub both_yes : (a b : Bool) → a ≡ true → b ≡ true → both a b ≡ true
unfolding both
both_yes a b e f = rw (e, f)

pub both_never : (a b : Bool) → (a ≡ true → b ≡ true → ⊥) → both a b ≡ false
unfolding both
both_never true true n = absurd (n refl refl)
both_never true false n = refl
both_never false b n = refl

pub both-alone : (b : Bool) → both b true ≡ b
unfolding both
both-alone true = refl
both-alone false = refl

pub either_left : (a b : Bool) → a ≡ true → either a b ≡ true
unfolding either
either_left a b e = rw e

pub either_true : (a b : Bool) → either a b ≡ true → (a ≡ true) ⊎ (b ≡ true)
unfolding either
either_true true b e = inl refl
either_true false true e = inr refl
either_true false false e = absurd (false_true e)

first_none : (k : ℕ) (ok : ℕ → Bool) (i : ℕ) → first k ok i ≡ None → (j : ℕ) → i ≤ j → j < i + k → ok j ≡ false
unfolding first
first_none zero ok i e j a b = absurd (omega arith)
first_none (suc k) ok i e j a b = go (ok i) refl (first_none k ok (i + 1))
  where
    go : (x : Bool) → ok i ≡ x → (first k ok (i + 1) ≡ None → (j : ℕ) → i + 1 ≤ j → j < i + 1 + k → ok j ≡ false) → ok j ≡ false
    go true q ih = absurd (let z : Some i ≡ None = (rw (q, first) at e) in let y : ◌≡◌ {A = ℕ} 0 1 = cc in omega arith)
    go false q ih = same (ℕ_discrete i j)
      where
        same : Dec (i ≡ j) → ok j ≡ false
        same (yes z) = rw (← z) q
        same (no z) = ih (rw (q, first) at e) j (omega arith) (omega arith)

-- a search that finds nothing: none passes
pub lowest_none : (n : ℕ) (ok : ℕ → Bool) → lowest n ok ≡ None → (j : ℕ) → j < n → ok j ≡ false
unfolding lowest
lowest_none n ok e j h = first_none n ok 0 e j (omega arith) (omega arith)

-- the test for tag k
pub has_yes : (ws : List ℕ) (r k : ℕ) → tag ws r ≡ k → has ws r k ≡ true
unfolding has
has_yes ws r k e = eq-eqb _ _ e

pub has_no : (ws : List ℕ) (r k : ℕ) → (tag ws r ≡ k → ⊥) → has ws r k ≡ false
unfolding has
has_no ws r k n = ne_eqb _ _ n

pub tag_is : (ws : List ℕ) (r k : ℕ) → has ws r k ≡ true → tag ws r ≡ k
unfolding has
tag_is ws r k e = eqb-true _ _ e
