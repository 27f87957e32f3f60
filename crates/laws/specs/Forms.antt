-- The rules of typing and of patterns, form by form: what one level says of a lambda, an applied constant, variable or hole.
use Rattle.std.specs.Prelude.{ℕ, ◌≤◌, ◌≡◌, List, ◌∷◌, map, true, false, length, get_or, eqb, ltb}
use Rattle.std.proofs.Common.{arith, leb-true}
use Rattle.std.proofs.Math.Decide.{ℕ_discrete}
use Rattle.rules.specs.Lists.{both, each, least}
use Rattle.rules.specs.Words.{NONE, AR, LA, CA, VA, HA, tag, field_a, field_b, has, is_term, form, arguments, elements}
use Rattle.rules.specs.Typing.{Check, applied, fills, check_term}
use Rattle.rules.specs.Pattern.{pattern, offence_in}
use Rattle.laws.specs.Tests.{both_true}

-- a term is of one of the four forms
pub data Term (ws : List ℕ) (r : ℕ) : Type 0 where
  is_lambda : tag ws r ≡ LA → Term ws r
  is_constant : tag ws r ≡ CA → Term ws r
  is_variable : tag ws r ≡ VA → Term ws r
  is_hole_lem : tag ws r ≡ HA → Term ws r

pub term_of : (ws : List ℕ) (r : ℕ) → is_term ws r ≡ true → Term ws r
unfolding is_term
term_of ws r e =
    let p = both_true _ _ e in
    let a = leb-true _ _ p.0 in
    let b = leb-true _ _ p.1 in
    go (ℕ_discrete (tag ws r) LA) (ℕ_discrete (tag ws r) CA) (ℕ_discrete (tag ws r) VA) a b
  where
    go : Dec (tag ws r ≡ LA) → Dec (tag ws r ≡ CA) → Dec (tag ws r ≡ VA) → 6 ≤ tag ws r → tag ws r ≤ 9 → Term ws r
    go (yes x) _ _ a b = is_lambda x
    go (no x) (yes y) _ a b = is_constant y
    go (no x) (no y) (yes z) a b = is_variable z
    go (no x) (no y) (no z) a b = is_hole_lem (omega arith)

module _ (check : Check) (ws ctx : List ℕ) (r ty : ℕ) where
  pub check_lambda : tag ws r ≡ LA → check_term check ws ctx r ty ≡ both (has ws ty AR) (check (field_a ws ty ∷ ctx) (field_a ws r) (field_b ws ty))
  unfolding check_term form has
  check_lambda e = rw (e, form, check_term)

  pub check_constant : tag ws r ≡ CA → check_term check ws ctx r ty ≡ applied check ws (field_a ws (field_a ws r)) ctx r ty
  unfolding check_term form has
  check_constant e = rw (e, e, form, check_term)

  pub check_variable : tag ws r ≡ VA → check_term check ws ctx r ty ≡ both (ltb (field_a ws r) (length ctx)) (applied check ws (get_or ctx (field_a ws r) 0) ctx r ty)
  unfolding check_term form has
  check_variable e = rw (e, e, e, form, check_term)

  pub check_hole : tag ws r ≡ HA → check_term check ws ctx r ty
      ≡ both (eqb (field_b ws (field_a ws r)) ty) (each (fills check ws ctx) (arguments ws r) (elements ws (field_a ws (field_a ws r))))
  unfolding check_term form has
  check_hole e = rw (e, e, e, form, check_term)

module _ (off : ℕ → ℕ) (ws : List ℕ) (r : ℕ) where
  pub offence_lambda : tag ws r ≡ LA → offence_in off ws r ≡ off (field_a ws r)
  unfolding offence_in form has
  offence_lambda e = rw (e, form, offence_in)

  pub offence_constant : tag ws r ≡ CA → offence_in off ws r ≡ least NONE (map off (arguments ws r))
  unfolding offence_in form has
  offence_constant e = rw (e, e, form, offence_in)

  pub offence_variable : tag ws r ≡ VA → offence_in off ws r ≡ least NONE (map off (arguments ws r))
  unfolding offence_in form has
  offence_variable e = rw (e, e, e, form, offence_in)

  pub offence_hole : tag ws r ≡ HA → offence_in off ws r ≡ least (elim (pattern ws r) [ true ↦ NONE | false ↦ r ]) (map off (arguments ws r))
  unfolding offence_in form has
  offence_hole e = rw (e, e, e, form, offence_in)
