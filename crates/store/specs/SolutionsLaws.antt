-- A hole's solution and the word that holds it.
use Rattle.std.specs.Prelude.{ℕ, zero, suc, ◌<◌, ◌≡◌, refl, List, [], ◌∷◌, length, get_or, Option, Some, None}
use Rattle.std.proofs.Common.{arith, sym, ◌∙◌, eq-eqb, ne_eqb}
use Rattle.std.proofs.Math.Decide.{ℕ_discrete}
use Rattle.rules.specs.Words.{NONE}
use Rattle.store.specs.Solutions.{named_record, solution_in}

get_d_within : (l : List ℕ) (i a b : ℕ) → i < length l → get_or l i a ≡ get_or l i b
get_d_within [] i a b h = absurd (omega arith)
get_d_within (x ∷ l) zero a b h = refl
get_d_within (x ∷ l) (suc i) a b h = get_d_within l i a b (omega arith)

module _ (w : ℕ) where
  pub no_record : w ≡ NONE → named_record w ≡ None
  unfolding named_record
  no_record e = rw (eq-eqb _ _ e, named_record)

  pub some_record : (w ≡ NONE → ⊥) → named_record w ≡ Some w
  unfolding named_record
  some_record n = rw (ne_eqb _ _ n, named_record)

  module _ (x : Option ℕ) (p : named_record w ≡ x) where
    -- the word of no solution
    pub word_none : x ≡ None → w ≡ NONE
    word_none e = go (ℕ_discrete w NONE)
      where
        go : Dec (w ≡ NONE) → w ≡ NONE
        go (yes q) = q
        go (no n) = let z : Some w ≡ None = sym (some_record n) ∙ p ∙ e in absurd (cc)

    -- the word of a solution
    pub word_some : (t : ℕ) → x ≡ Some t → w ≡ t
    word_some t e = go (ℕ_discrete w NONE)
      where
        go : Dec (w ≡ NONE) → w ≡ t
        go (yes q) = let z : None ≡ Some t = sym (no_record q) ∙ p ∙ e in absurd (cc)
        go (no n) = let z : Some w ≡ Some t = sym (some_record n) ∙ p ∙ e in cc

    pub word_real : (t : ℕ) → x ≡ Some t → t ≡ NONE → ⊥
    word_real t e h = let z : None ≡ Some t = sym (no_record (word_some t e ∙ h)) ∙ p ∙ e in absurd (cc)

-- a word within the solutions says so under any default
module _ (ss : List ℕ) (h : ℕ) (k : h < length ss) where
  pub unsolved_in : get_or ss h 0 ≡ NONE → solution_in ss h ≡ None
  unsolved_in e = no_record _ (get_d_within ss h NONE 0 k ∙ e)

  pub solved_in : (get_or ss h 0 ≡ NONE → ⊥) → solution_in ss h ≡ Some (get_or ss h 0)
  solved_in n = rw (get_d_within ss h NONE 0 k) (some_record _ n)
