-- Offending occurrences in a term and in a list of terms.
use Prim.Native.Nat.{ℕ, ◌≤◌, min}
use mathlib.Core.Path.{◌≡◌, ◌∙◌}
use mathlib.Core.List.{List, [], ◌∷◌}
use mathlib.Core.Bool.{Bool, true, false}
use native.Mathlib.Omega.{arith}
use borrow.Author.Tests.{eqb-true}
use Rattle.rules.specs.Lists.{least, enough}
use Rattle.rules.specs.Words.{NONE, LA, CA, VA, HA, tag, field_a, field_b, has, is_term, arguments, variables, bare}
use Rattle.rules.specs.Pattern.{pattern, offence_in, offence}
use Rattle.laws.specs.Lists.{elements_none}
use Rattle.laws.specs.Tests.{both_true}
use Rattle.laws.specs.Forms.{offence_lambda, offence_constant, offence_variable, offence_hole}
use Rattle.laws.specs.Unrolled.{offence_unrolled}
use Rattle.laws.specs.Places.{TermAt, ListAt, term_cell}
use Rattle.patterns.specs.Occurrences.{different, occurrence}
use Rattle.terms.specs.Asks.{among_terms}

least_min : (b : ℕ) (xs : List ℕ) → b ≤ NONE → least b xs ≡ min b (least NONE xs)
unfolding least
least_min b [] h = omega arith
least_min b (x ∷ xs) h = let ih = least_min b xs h in omega arith

module _ (ws : List ℕ) (r : ℕ) (p : TermAt ws r) where
  unrolled : offence enough ws r ≡ offence_in (λ x. offence enough ws x) ws r
  unrolled = offence_unrolled ws p.top p.legal r p.low p.kind

  pub lambda_offence : tag ws r ≡ LA → offence enough ws r ≡ offence enough ws (field_a ws r)
  lambda_offence e = unrolled ∙ offence_lambda _ ws r e

  pub constant_offence : tag ws r ≡ CA → offence enough ws r ≡ among_terms ws (field_b ws r)
  unfolding among_terms arguments
  constant_offence e = unrolled ∙ offence_constant _ ws r e

  pub variable_offence : tag ws r ≡ VA → offence enough ws r ≡ among_terms ws (field_b ws r)
  unfolding among_terms arguments
  variable_offence e = unrolled ∙ offence_variable _ ws r e

  pub hole_offence : tag ws r ≡ HA → offence enough ws r ≡ min (occurrence ws r (field_b ws r)) (among_terms ws (field_b ws r))
  unfolding among_terms arguments occurrence pattern different variables
  hole_offence e = let few = p.legal.few in let low = p.low in unrolled ∙ offence_hole _ ws r e ∙ least_min _ _ (small (pattern ws r) (omega arith))
    where
      small : (b : Bool) → r ≤ NONE → elim b [ true ↦ NONE | false ↦ r ] ≤ NONE
      small true h = omega arith
      small false h = h

module _ (ws : List ℕ) where
  pub among_end : (l : ℕ) → l ≡ NONE → among_terms ws l ≡ NONE
  unfolding among_terms least
  among_end l e = rw (elements_none ws l e)

  pub among_cell : (l : ℕ) → ListAt (is_term ws) ws l → (l ≡ NONE → ⊥) → among_terms ws l ≡ min (offence enough ws (field_a ws l)) (among_terms ws (field_b ws l))
  unfolding among_terms least
  among_cell l p z = rw (term_cell ws l p z).reads

  pub bare-offence : (r : ℕ) → TermAt ws r → bare ws r ≡ true → offence enough ws r ≡ NONE
  unfolding bare has
  bare-offence r p b =
      let q = both_true _ _ b in
      variable_offence ws r p (eqb-true _ _ q.0) ∙ among_end _ (eqb-true _ _ q.1)
