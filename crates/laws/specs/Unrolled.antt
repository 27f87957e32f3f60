-- Fuel never runs out: at every record of a legal table the rules that carry fuel keep the document's equation without it.
use Prim.Native.Nat.{ℕ, zero, suc, ◌<◌, ◌≤◌}
use Rattle.std.specs.Prelude.{◌≡◌, Bool}
use Rattle.std.proofs.Math.Path.{refl, ap}
use Rattle.std.proofs.Common.{sym, ◌∙◌, arith, ne_eqb}
use mathlib.Core.List.{List, [], ◌∷◌, map}
use Rattle.std.proofs.Math.Bool.{true, false}
use Rattle.std.proofs.Math.Decide.{ℕ_discrete}
use Rattle.rules.specs.Lists.{enough}
use Rattle.rules.specs.Words.{NONE, AR, LA, tag, field_a, field_b, has, is_term, arguments, elements}
use Rattle.rules.specs.Typing.{Check, final_type, domains, applied, fills, check_term, checks}
use Rattle.rules.specs.Pattern.{offence_in, offence}
use Rattle.laws.specs.Sound.{Sound, arrow_fields, lambda_field, constant_list, variable_list, hole_list, follows_term}
use Rattle.laws.specs.Lists.{elements_cell}
use Rattle.laws.specs.Members.{Legal, Every, every_so, each_same, map_same, Begins, begins, elements_every, listed_in}
use Rattle.laws.specs.Forms.{Term, is_lambda, is_constant, is_variable, is_hole_lem, term_of, check_lambda, check_constant, check_variable, check_hole, offence_lambda, offence_constant, offence_variable, offence_hole}

module _ (ws : List ℕ) (n : ℕ) (g : Sound ws n) where
  -- Going down from a type to its result

  final_step : (f ty : ℕ) → tag ws ty ≡ AR → final_type (suc f) ws ty ≡ final_type f ws (field_b ws ty)
  unfolding final_type has
  final_step f ty e = rw (e, final_type)

  final_end : (f ty : ℕ) → (tag ws ty ≡ AR → ⊥) → final_type f ws ty ≡ ty
  unfolding final_type has
  final_end zero ty e = refl
  final_end (suc f) ty e = rw (ne_eqb _ _ e, final_type)

  final_stable : (f k ty : ℕ) → ty < n → ty < f → ty < k → final_type f ws ty ≡ final_type k ws ty
  final_stable zero k ty h a b = absurd (omega arith)
  final_stable (suc f) zero ty h a b = absurd (omega arith)
  final_stable (suc f) (suc k) ty h a b = go (ℕ_discrete (tag ws ty) AR) (λ p q r. final_stable f k (field_b ws ty) p q r)
    where
      go : Dec (tag ws ty ≡ AR) → (field_b ws ty < n → field_b ws ty < f → field_b ws ty < k → final_type f ws (field_b ws ty) ≡ final_type k ws (field_b ws ty))
          → final_type (suc f) ws ty ≡ final_type (suc k) ws ty
      go (yes e) ih =
          let lo = (arrow_fields ws n g ty h e).1.0 in
          final_step f ty e ∙ ih (omega arith) (omega arith) (omega arith) ∙ sym (final_step k ty e)
      go (no e) ih = final_end (suc f) ty e ∙ sym (final_end (suc k) ty e)

  domains-step : (f ty : ℕ) → tag ws ty ≡ AR → domains (suc f) ws ty ≡ field_a ws ty ∷ domains f ws (field_b ws ty)
  unfolding domains has
  domains-step f ty e = rw (e, domains)

  domains_end : (f ty : ℕ) → (tag ws ty ≡ AR → ⊥) → domains f ws ty ≡ []
  unfolding domains has
  domains_end zero ty e = refl
  domains_end (suc f) ty e = rw (ne_eqb _ _ e, domains)

  domains_stable : (f k ty : ℕ) → ty < n → ty < f → ty < k → domains f ws ty ≡ domains k ws ty
  domains_stable zero k ty h a b = absurd (omega arith)
  domains_stable (suc f) zero ty h a b = absurd (omega arith)
  domains_stable (suc f) (suc k) ty h a b = go (ℕ_discrete (tag ws ty) AR) (λ p q r. domains_stable f k (field_b ws ty) p q r)
    where
      go : Dec (tag ws ty ≡ AR) → (field_b ws ty < n → field_b ws ty < f → field_b ws ty < k → domains f ws (field_b ws ty) ≡ domains k ws (field_b ws ty))
          → domains (suc f) ws ty ≡ domains (suc k) ws ty
      go (yes e) ih =
          let lo = (arrow_fields ws n g ty h e).1.0 in
          rw (domains-step f ty e, domains-step k ty e, ih (omega arith) (omega arith) (omega arith))
      go (no e) ih = domains_end (suc f) ty e ∙ sym (domains_end (suc k) ty e)

  -- The arguments of a term are lower terms

  pub arguments_every : (r : ℕ) → r < n → (tag ws r ≡ LA → ⊥) → is_term ws r ≡ true → Every (λ x. (x < r) × (is_term ws x ≡ true)) (arguments ws r)
  unfolding arguments
  arguments_every r h z e = elements_every ws n g (is_term ws) (follows_term ws n g) r (field_b ws r) (omega arith) (go (term_of ws r e))
    where
      go : Term ws r → Begins (is_term ws) ws r (field_b ws r)
      go (is_lambda t) = absurd (z t)
      go (is_constant t) = begins ws n g (is_term ws) r h _ (constant_list ws n g r h t)
      go (is_variable t) = begins ws n g (is_term ws) r h _ (variable_list ws n g r h t)
      go (is_hole_lem t) = begins ws n g (is_term ws) r h _ (hole_list ws n g r h t)

  -- One level of a term looks only at lower terms

  module _ (c d : Check) (r : ℕ) (h : r < n) (term : is_term ws r ≡ true) (same : (ctx : List ℕ) (x ty : ℕ) → x < r → is_term ws x ≡ true → c ctx x ty ≡ d ctx x ty) where
    applied_same : (tag ws r ≡ LA → ⊥) → (head : ℕ) (ctx : List ℕ) (ty : ℕ) → applied c ws head ctx r ty ≡ applied d ws head ctx r ty
    unfolding applied
    applied_same z head ctx ty =
        rw (each_same (c ctx) (d ctx) (arguments ws r) (domains enough ws head) (every_so _ _ _ (λ x p y. same ctx x y p.0 p.1) (arguments_every r h z term)))

    fills_same : (ctx : List ℕ) (x : ℕ) → x < r → is_term ws x ≡ true → (y : ℕ) → fills c ws ctx x y ≡ fills d ws ctx x y
    unfolding fills
    fills_same ctx x lt t y = rw (same ctx x y lt t)

    check_same : (ctx : List ℕ) (ty : ℕ) → check_term c ws ctx r ty ≡ check_term d ws ctx r ty
    check_same ctx ty = go (term_of ws r term)
      where
        go : Term ws r → check_term c ws ctx r ty ≡ check_term d ws ctx r ty
        go (is_lambda t) =
            let b = lambda_field ws n g r h t in
            rw (check_lambda c ws ctx r ty t, check_lambda d ws ctx r ty t, same (field_a ws ty ∷ ctx) (field_a ws r) (field_b ws ty) b.0 b.1)
        go (is_constant t) =
            rw (check_constant c ws ctx r ty t, check_constant d ws ctx r ty t, applied_same (λ e. omega arith) (field_a ws (field_a ws r)) ctx ty)
        go (is_variable t) =
            rw (check_variable c ws ctx r ty t, check_variable d ws ctx r ty t, applied_same (λ e. omega arith) _ ctx ty)
        go (is_hole_lem t) =
            rw (
              check_hole c ws ctx r ty t,
              check_hole d ws ctx r ty t,
              each_same (fills c ws ctx) (fills d ws ctx) (arguments ws r) (elements ws (field_a ws (field_a ws r)))
                  (every_so _ _ _ (λ x p y. fills_same ctx x p.0 p.1 y) (arguments_every r h (λ e. omega arith) term)),
            )

  checks-step : (f : ℕ) (ctx : List ℕ) (r ty : ℕ) → checks (suc f) ws ctx r ty ≡ check_term (checks f ws) ws ctx r ty
  unfolding checks
  checks-step f ctx r ty = refl

  checks_stable : (f k : ℕ) (ctx : List ℕ) (r ty : ℕ) → r < n → is_term ws r ≡ true → r < f → r < k → checks f ws ctx r ty ≡ checks k ws ctx r ty
  unfolding checks
  checks_stable zero k ctx r ty h t a b = absurd (omega arith)
  checks_stable (suc f) zero ctx r ty h t a b = absurd (omega arith)
  checks_stable (suc f) (suc k) ctx r ty h t a b =
      check_same (checks f ws) (checks k ws) r h t (λ ctx₁ x ty₁ lt e. checks_stable f k ctx₁ x ty₁ (omega arith) e (omega arith) (omega arith)) ctx ty

  offence-step : (f r : ℕ) → offence (suc f) ws r ≡ offence_in (λ x. offence f ws x) ws r
  unfolding offence
  offence-step f r = refl

  offence_same : (c d : ℕ → ℕ) (r : ℕ) → r < n → is_term ws r ≡ true → ((x : ℕ) → x < r → is_term ws x ≡ true → c x ≡ d x) → offence_in c ws r ≡ offence_in d ws r
  offence_same c d r h term same = go (term_of ws r term)
    where
      all_same : (tag ws r ≡ LA → ⊥) → map c (arguments ws r) ≡ map d (arguments ws r)
      all_same z = map_same c d (arguments ws r) (every_so _ _ _ (λ x p. same x p.0 p.1) (arguments_every r h z term))

      go : Term ws r → offence_in c ws r ≡ offence_in d ws r
      go (is_lambda t) = let b = lambda_field ws n g r h t in rw (offence_lambda c ws r t, offence_lambda d ws r t, same (field_a ws r) b.0 b.1)
      go (is_constant t) = rw (offence_constant c ws r t, offence_constant d ws r t, all_same (λ e. omega arith))
      go (is_variable t) = rw (offence_variable c ws r t, offence_variable d ws r t, all_same (λ e. omega arith))
      go (is_hole_lem t) = rw (offence_hole c ws r t, offence_hole d ws r t, all_same (λ e. omega arith))

  offence_stable : (f k r : ℕ) → r < n → is_term ws r ≡ true → r < f → r < k → offence f ws r ≡ offence k ws r
  unfolding offence
  offence_stable zero k r h t a b = absurd (omega arith)
  offence_stable (suc f) zero r h t a b = absurd (omega arith)
  offence_stable (suc f) (suc k) r h t a b =
      offence_same (λ x. offence f ws x) (λ x. offence k ws x) r h t (λ x lt e. offence_stable f k x (omega arith) e (omega arith) (omega arith))

-- The document's equations, without fuel, at each record of a legal table

module _ (ws : List ℕ) (n : ℕ) (legal : Legal ws n) where
  pub final_unrolled : (ty : ℕ) → ty < n → final_type enough ws ty ≡ elim (has ws ty AR) [ true ↦ final_type enough ws (field_b ws ty) | false ↦ ty ]
  unfolding has
  final_unrolled ty h = go (ℕ_discrete (tag ws ty) AR)
    where
      go : Dec (tag ws ty ≡ AR) → final_type enough ws ty ≡ elim (has ws ty AR) [ true ↦ final_type enough ws (field_b ws ty) | false ↦ ty ]
      go (yes e) =
          let lo = (arrow_fields ws n legal.sound ty h e).1.0 in
          let few = legal.few in
          rw e (final_step ws n legal.sound 18446744073709551615 ty e ∙ final_stable ws n legal.sound 18446744073709551615 18446744073709551616 (field_b ws ty) (omega arith) (omega arith) (omega arith))
      go (no e) = rw (ne_eqb _ _ e) (final_end ws n legal.sound 18446744073709551616 ty e)

  pub domains_unrolled : (ty : ℕ) → ty < n → domains enough ws ty ≡ elim (has ws ty AR) [ true ↦ field_a ws ty ∷ domains enough ws (field_b ws ty) | false ↦ [] ]
  unfolding has
  domains_unrolled ty h = go (ℕ_discrete (tag ws ty) AR)
    where
      go : Dec (tag ws ty ≡ AR) → domains enough ws ty ≡ elim (has ws ty AR) [ true ↦ field_a ws ty ∷ domains enough ws (field_b ws ty) | false ↦ [] ]
      go (yes e) =
          let lo = (arrow_fields ws n legal.sound ty h e).1.0 in
          let few = legal.few in
          let same = domains_stable ws n legal.sound 18446744073709551615 18446744073709551616 (field_b ws ty) (omega arith) (omega arith) (omega arith) in
          rw e (domains-step ws n legal.sound 18446744073709551615 ty e ∙ ap (λ (xs : List ℕ). field_a ws ty ∷ xs) same)
      go (no e) = rw (ne_eqb _ _ e) (domains_end ws n legal.sound 18446744073709551616 ty e)

  pub checks_unrolled : (ctx : List ℕ) (r ty : ℕ) → r < n → is_term ws r ≡ true → checks enough ws ctx r ty ≡ check_term (checks enough ws) ws ctx r ty
  checks_unrolled ctx r ty h t =
      let few = legal.few in
      checks-step ws n legal.sound 18446744073709551615 ctx r ty ∙
      check_same ws n legal.sound (checks 18446744073709551615 ws) (checks 18446744073709551616 ws) r h t
      (λ ctx₁ x ty₁ lt e. checks_stable ws n legal.sound 18446744073709551615 18446744073709551616 ctx₁ x ty₁ (omega arith) e (omega arith) (omega arith)) ctx ty

  pub offence_unrolled : (r : ℕ) → r < n → is_term ws r ≡ true → offence enough ws r ≡ offence_in (λ x. offence enough ws x) ws r
  offence_unrolled r h t =
      let few = legal.few in
      offence-step ws n legal.sound 18446744073709551615 r ∙
      offence_same ws n legal.sound (λ x. offence 18446744073709551615 ws x) (λ x. offence 18446744073709551616 ws x) r h t
      (λ x lt e. offence_stable ws n legal.sound 18446744073709551615 18446744073709551616 x (omega arith) e (omega arith) (omega arith))

  pub elements_unrolled : (ok : ℕ → Bool) (r l : ℕ) → r ≤ n → Begins ok ws r l → (l ≡ NONE → ⊥) → elements ws l ≡ field_a ws l ∷ elements ws (field_b ws l)
  elements_unrolled ok r l h b z = elements_cell ws l z (listed_in ws n ok r l legal h b)
