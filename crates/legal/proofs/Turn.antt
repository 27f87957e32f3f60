-- Each step of the machine and the whole run keep the store sane and the sides of all pairs in scope.
use Prim.Native.Nat.{ℕ, zero, suc, ◌+◌, ◌<◌, ◌≤◌}
use Rattle.std.specs.Prelude.{◌≡◌, Bool, ◌⊎◌, length, eqb, leb}
use Rattle.std.proofs.Math.Path.{refl}
use mathlib.Core.List.{List, [], ◌∷◌, ◌++◌}
use Rattle.std.proofs.Math.Bool.{true, false}
use Rattle.std.proofs.Common.{inl, inr, arith}
use Rattle.rules.specs.Lists.{both, either, enough}
use Rattle.rules.specs.Words.{LA, CA, VA, HA, tag, field_a, has, is_term, arguments, variables}
use Rattle.rules.specs.Store.{Store, Out, goes, ◌>>=◌}
use Rattle.rules.specs.Walk.{narrow, assign}
use Rattle.rules.specs.Machine.{Pair, Next, done, zip, join, agreeing, same_hole, solve_one, same_head, meet, step, upcoming, run}
use Rattle.laws.specs.Tests.{both_true, either_true, tag_is as tag_of}
use Rattle.laws.specs.Sound.{lambda_field}
use Rattle.invariants.specs.Floor.{All}
use Rattle.invariants.specs.Grow.{all_map}
use Rattle.invariants.specs.Pairs.{all_append, agreeing_few}
use Rattle.promise.specs.Outcomes.{unsaid}
use Rattle.legal.specs.Reading.{arity, all_both, arguments_terms}
use Rattle.legal.specs.Scope.{Scopes, scope_level}
use Rattle.legal.specs.Sane.{Sane, legal, Kept}
use Rattle.legal.proofs.Narrow.{narrow_ran}
use Rattle.legal.specs.Ran.{Ran, ran_bind, ran_map, ran_goes, ran_fail}
use Rattle.legal.proofs.Copy.{head_of, Side, side-kept, expand_ran}
use Rattle.legal.proofs.Walk.{assign_ran}

-- both sides of a pair
pub record Sides (s : Store) (p : Pair) : Type 0 where
  pub left : Side s p.0
  pub right : Side s p.1

sides-kept : {R : ℕ} {s s₁ : Store} (q : List Pair) → Sane R s → Kept R s s₁ → All (Sides s) q → All (Sides s₁) q
sides-kept {s = s} {s₁} q i k h = all_map (Sides s) (Sides s₁) (λ p j. record { left = side-kept p.0 i k j.left; right = side-kept p.1 i k j.right }) q h

zip-sides : (s : Store) (xs ys : List ℕ) → All (Side s) xs → All (Side s) ys → All (Sides s) (zip xs ys)
unfolding zip
zip-sides s [] ys h g = tt
zip-sides s (x ∷ xs) [] h g = tt
zip-sides s (x ∷ xs) (y ∷ ys) h g = (record { left = h.0; right = g.0 }, zip-sides s xs ys h.1 g.1)

-- new pairs join the queue, if there is room for them
pub join_ran : (R C : ℕ) (q new : List Pair) (s : Store) → Ran R s (λ s₁ q₁. (s₁ ≡ s) × (q₁ ≡ q ++ new)) (join C q new s)
unfolding join
join_ran R C q new s = go (leb (length q + length new) C) refl
  where
    go : (b : Bool) → leb (length q + length new) C ≡ b → Ran R s (λ s₁ q₁. (s₁ ≡ s) × (q₁ ≡ q ++ new)) (join C q new s)
    go true e = rw (e, join) (ran_goes R (refl, refl))
    go false e = rw (e, join) (ran_fail R _)

-- the pair in hand, after step 1
module _ (R C l r : ℕ) (q : List Pair) (s : Store) (i : Sane R s) (hl : Side s l) (hr : Side s r) (hq : All (Sides s) q) where
  abbrev Stepped : Store → Next → Type 0
  Stepped s₁ next = Sane R s₁ × All (Sides s₁) (upcoming q next)

  body_side : (x : ℕ) → Side s x → tag s.words x ≡ LA → Side s (field_a s.words x)
  body_side x h e =
      let p = lambda_field s.words s.used i.sound x h.part.below e in
      let l = p.0 in
      let b = h.part.below in
      record { under = h.under + 1; part = record { below = omega arith; term = p.1; scope = (scope_level s.words s.used h.under x h.part.scope).body e } }

  argument_sides : (x : ℕ) → Side s x → 7 ≤ tag s.words x → tag s.words x ≤ 8 → All (Side s) (arguments s.words x)
  argument_sides x h lo hi =
      let b = h.part.below in
      all_both (λ y. (y < x) × (is_term s.words y ≡ true)) (Scopes s.words s.used h.under) (Side s) (arguments s.words x)
      (λ y p k. let l = p.0 in record { under = h.under; part = record { below = omega arith; term = p.1; scope = k } })
      (arguments_terms s.words s.used (legal i) x b lo (omega arith)) ((scope_level s.words s.used h.under x h.part.scope).parts lo hi)

  -- 3: the arguments
  arguments-join : All (Side s) (arguments s.words l) → All (Side s) (arguments s.words r)
      → Ran R s Stepped (join C q (zip (arguments s.words l) (arguments s.words r)) s >>= (λ p. goes p.0 (done p.1)))
  unfolding upcoming
  arguments-join a b =
      ran_bind R _ (join_ran R C q (zip (arguments s.words l) (arguments s.words r)) s) λ s₁ q₁ b₁ p.
      ran_goes R (rw p.0 i, rw (p.0, p.1) (all_append (Sides s) q (zip (arguments s.words l) (arguments s.words r)) hq (zip-sides s (arguments s.words l) (arguments s.words r) a b)))

  -- the pair is done with
  finish : (o : Out ℕ) → Ran R s (λ s₁ x. Kept R s s₁) o → Ran R s Stepped (o >>= (λ p. goes p.0 (done q)))
  unfolding upcoming
  finish o h = ran_bind R _ h λ s₁ x b₁ k. ran_goes R (k.sane, sides-kept q i k hq)

  -- 4: the same unsolved hole twice
  same_hole_lem : tag s.words l ≡ HA → Ran R s Stepped (same_hole R q l r s)
  unfolding same_hole upcoming
  same_hole_lem nine = go (eqb (length (agreeing 0 (variables s.words l) (variables s.words r))) (length (variables s.words l))) refl
    where
      ks : List ℕ
      ks = agreeing 0 (variables s.words l) (variables s.words r)

      go : (b : Bool) → eqb (length ks) (length (variables s.words l)) ≡ b → Ran R s Stepped (same_hole R q l r s)
      go true e = rw (e, same_hole) (ran_goes R (i, hq))
      go false e =
          let h = head_of s.used hl.under l i hl.part.below nine hl.part.scope in
          let a = agreeing_few 0 (variables s.words l) (variables s.words r) in
          let a₀ = a.0 in
          let f = h.few in
          let c = h.count in
          rw (e, same_hole)
          (finish (narrow R (field_a s.words l) ks s)
          (ran_map R (narrow_ran R (field_a s.words l) ks s) λ s₁ x b₁ p.
          (p (record { sane = i; low = h.below; is = h.is; positions = all_map (λ k. k < 0 + length (variables s.words l)) (λ k. k < arity s.words (field_a s.words l)) (λ k z. omega arith) ks a.1; few = omega arith })).kept))

  -- 5: an unsolved hole on one side
  solve-one : Ran R s Stepped (solve_one R l r s >>= (λ p. goes p.0 (done q)))
  unfolding solve_one
  solve-one = go (has s.words l HA) refl (has s.words r HA) refl
    where
      go : (a : Bool) → has s.words l HA ≡ a → (b : Bool) → has s.words r HA ≡ b → Ran R s Stepped (solve_one R l r s >>= (λ p. goes p.0 (done q)))
      go true e b f = rw (e, solve_one) (finish (assign R l r s) (assign_ran R l r s i hl (tag_of s.words l HA e) hr))
      go false e true f = rw (e, solve_one, f) (finish (assign R r l s) (assign_ran R r l s i hr (tag_of s.words r HA f) hl))
      go false e false f = rw (e, solve_one, f) (finish _ (ran_fail R _))

  meet_ran : Ran R s Stepped (meet R C q l r s)
  unfolding meet same_head upcoming
  meet_ran = go₂ (both (has s.words l LA) (has s.words r LA)) refl
    where
      go₄ : (x : Bool) → same_head s.words HA l r ≡ x → Ran R s Stepped (elim x [ true ↦ same_hole R q l r s | false ↦ solve_one R l r s >>= (λ p. goes p.0 (done q)) ])
      go₄ true e = same_hole_lem (tag_of s.words l HA (both_true _ _ e).0)
      go₄ false e = solve-one

      heads : (k : ℕ) → 7 ≤ k → k ≤ 8 → same_head s.words k l r ≡ true → All (Side s) (arguments s.words l) × All (Side s) (arguments s.words r)
      heads k lo hi e =
          let p = both_true _ _ e in
          let a = tag_of s.words l k p.0 in
          let b = tag_of s.words r k (both_true _ _ p.1).0 in
          (argument_sides l hl (omega arith) (omega arith), argument_sides r hr (omega arith) (omega arith))

      applied : (same_head s.words CA l r ≡ true) ⊎ (same_head s.words VA l r ≡ true) → All (Side s) (arguments s.words l) × All (Side s) (arguments s.words r)
      applied (inl e) = heads CA (omega arith) (omega arith) e
      applied (inr e) = heads VA (omega arith) (omega arith) e

      go₃ : (x : Bool) → either (same_head s.words CA l r) (same_head s.words VA l r) ≡ x
          → Ran R s Stepped (elim x [
            | true ↦ join C q (zip (arguments s.words l) (arguments s.words r)) s >>= (λ p. goes p.0 (done p.1))
            | false ↦ elim (same_head s.words HA l r) [ true ↦ same_hole R q l r s | false ↦ solve_one R l r s >>= (λ p. goes p.0 (done q)) ]
          ])
      go₃ true e = let a = applied (either_true _ _ e) in arguments-join a.0 a.1
      go₃ false e = go₄ (same_head s.words HA l r) refl

      go₂ : (x : Bool) → both (has s.words l LA) (has s.words r LA) ≡ x → Ran R s Stepped (meet R C q l r s)
      go₂ true e =
          let p = both_true _ _ e in
          rw (e, meet) (ran_goes R (i, (record { left = body_side l hl (tag_of s.words l LA p.0); right = body_side r hr (tag_of s.words r LA p.1) }, hq)))
      go₂ false e = rw (e, meet) (go₃ (either (same_head s.words CA l r) (same_head s.words VA l r)) refl)

module _ (R C : ℕ) where
  step_ran : (l r : ℕ) (q : List Pair) (s : Store) → Sane R s → All (Sides s) ((l, r) ∷ q) → Ran R s (λ s₁ next. Sane R s₁ × All (Sides s₁) (upcoming q next)) (step R C q l r s)
  unfolding step
  step_ran l r q s i h =
      ran_bind R _ (expand_ran R enough l s) λ s₁ l₁ b₁ p₁.
      let w₁ = p₁ i h.0.left in
      let i₁ = w₁.0.sane in
      ran_bind R _ (expand_ran R enough r s₁) λ s₂ r₁ b₂ p₂.
      let w₂ = p₂ i₁ (side-kept r i w₁.0 h.0.right) in
      meet_ran R C l₁ r₁ q s₂ w₂.0.sane (side-kept l₁ i₁ w₂.0 w₁.1) w₂.1 (sides-kept q i₁ w₂.0 (sides-kept q i w₁.0 h.1))

  pub run_ran : (f : ℕ) (q : List Pair) (s : Store) → Sane R s → All (Sides s) q → Ran R s (λ s₁ q₁. Sane R s₁) (run f R C q s)
  unfolding run
  run_ran zero q s i h = unsaid
  run_ran (suc f) [] s i h = ran_goes R i
  run_ran (suc f) (p ∷ q) s i h = ran_bind R _ (step_ran p.0 p.1 q s i h) λ s₁ next b₁ w. run_ran f (upcoming q next) s₁ w.0 w.1
