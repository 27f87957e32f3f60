-- The form of a term, by its tag; how many variables an occurrence has.
use Rattle.std.specs.Prelude.{ℕ, ◌≤◌, ◌≡◌, List, length}
use Rattle.std.proofs.lemmas.List.{length-map}
use Rattle.rules.specs.Words.{tag, field_b, form, has, lambda, constant, variable, hole, elements, arguments, variables, LA, CA, VA, HA}

pub form_6 : (ws : List ℕ) (r : ℕ) → tag ws r ≡ LA → form ws r ≡ lambda
unfolding form has
form_6 ws r e = rw (e, form)

pub form_7 : (ws : List ℕ) (r : ℕ) → tag ws r ≡ CA → form ws r ≡ constant
unfolding form has
form_7 ws r e = rw (e, form, e)

pub form_8 : (ws : List ℕ) (r : ℕ) → tag ws r ≡ VA → form ws r ≡ variable
unfolding form has
form_8 ws r e = rw (e, form, e, e)

pub form_9 : (ws : List ℕ) (r : ℕ) → tag ws r ≡ HA → form ws r ≡ hole
unfolding form has
form_9 ws r e = rw (e, form, e, e)

pub variables_few : (ws : List ℕ) (r : ℕ) → length (elements ws (field_b ws r)) ≤ 16 → length (variables ws r) ≤ 16
unfolding variables arguments
variables_few ws r few = simp length-map few
