-- What two sides ask for is the rule's step.
use Prim.Native.Nat.{ℕ, ◌≤◌}
use mathlib.Core.Path.{◌≡◌, refl, sym, ap, ◌∙◌}
use mathlib.Core.List.{List}
use mathlib.Core.Logic.{◌⊎◌, inl, inr}
use mathlib.Core.Bool.{Bool, true, false}
use native.Mathlib.Omega.{arith}
use native.Mathlib.Decide.{ℕ_discrete}
use lib.Dec.{eqb}
use borrow.Author.Tests.{eq-eqb, ne_eqb}
use Rattle.rules.specs.declared.Failure.TheVariants.{Clash as Clashes}
use Rattle.table.specs.declared.Record.{Record}
use Rattle.table.specs.Reading.{IsRecord}
use Rattle.step.specs.declared.Meeting.TheVariants.{Bodies, Arguments, SameHole, Solve, Clash}
use Rattle.rules.specs.Lists.{both, either}
use Rattle.rules.specs.Words.{tag, field_a, has, arguments, LA, CA, VA, HA}
use Rattle.rules.specs.Store.{Store, Out, goes, fail, ◌>>=◌}
use Rattle.rules.specs.Walk.{assign}
use Rattle.rules.specs.Machine.{Pair as Waiting, Next, on, done, zip, join, same_hole, same_head, solve_one, meet}
use Rattle.laws.specs.Tests.{both_yes, either_left, has_yes, has_no}
use Rattle.store.specs.Said.{store}
use Rattle.step.specs.Said.{finish}
use Rattle.step.specs.Meets.{Terms, in_order, turned, MeetsAs}

-- a test of two things, one after the other, failed
abbrev Fails : Type 0 → Type 0 → Type 0
Fails P Q = (P × (Q → ⊥)) ⊎ (P → ⊥)

not-both : {P Q : Type 0} → Fails P Q → P → Q → ⊥
not-both (inl t) p q = t.1 q
not-both (inr n) p q = n p

eight : (t : ℕ) → 6 ≤ t → t ≤ 9 → (t ≡ 6 → ⊥) → (t ≡ 7 → ⊥) → (t ≡ 9 → ⊥) → t ≡ 8
eight t a b c d e = omega arith

seven : (t : ℕ) → 6 ≤ t → (t ≡ 6 → ⊥) → 7 ≤ t
seven t a b = omega arith

at_most : (t : ℕ) → t ≤ 9 → (t ≡ 9 → ⊥) → t ≤ 8
at_most t a b = omega arith

-- tests, as values
either_right : (a b : Bool) → a ≡ false → b ≡ true → either a b ≡ true
unfolding either
either_right a b e f = rw (e, f)

either_none : (a b : Bool) → a ≡ false → b ≡ false → either a b ≡ false
unfolding either
either_none a b e f = rw (e, f)

both_left : (a b : Bool) → a ≡ false → both a b ≡ false
unfolding both
both_left a b e = rw e

both_right : (a b : Bool) → a ≡ true → b ≡ false → both a b ≡ false
unfolding both
both_right a b e f = rw (e, f)

same_yes : (ws : List ℕ) (k l r : ℕ) → tag ws l ≡ k → tag ws r ≡ k → field_a ws l ≡ field_a ws r → same_head ws k l r ≡ true
unfolding same_head
same_yes ws k l r a b c = both_yes _ _ (has_yes ws l k a) (both_yes _ _ (has_yes ws r k b) (eq-eqb _ _ c))

same_not : (ws : List ℕ) (k l r : ℕ) → (tag ws l ≡ k → ⊥) → same_head ws k l r ≡ false
unfolding same_head
same_not ws k l r a = both_left _ _ (has_no ws l k a)

same_differ : (ws : List ℕ) (k l r : ℕ) → (tag ws l ≡ tag ws r → field_a ws l ≡ field_a ws r → ⊥) → same_head ws k l r ≡ false
unfolding same_head
same_differ ws k l r diff = go (ℕ_discrete (tag ws l) k) (ℕ_discrete (tag ws r) k)
  where
    go : Dec (tag ws l ≡ k) → Dec (tag ws r ≡ k) → both (has ws l k) (both (has ws r k) (eqb (field_a ws l) (field_a ws r))) ≡ false
    go (no p) q = both_left _ _ (has_no ws l k p)
    go (yes p) (no q) = both_right _ _ (has_yes ws l k p) (both_left _ _ (has_no ws r k q))
    go (yes p) (yes q) = both_right _ _ (has_yes ws l k p) (both_right _ _ (has_yes ws r k q) (ne_eqb _ _ (λ c. diff (p ∙ sym q) c)))

-- the rule, by its tests
module _ (R C : ℕ) (q : List Waiting) (ws ss : List ℕ) (u l r : ℕ) where
  abbrev Meet : Out Next → Type 0
  Meet o = meet R C q l r (store ws ss u) ≡ o

  meet-bodies : has ws l 6 ≡ true → has ws r 6 ≡ true → Meet (goes (store ws ss u) (on (field_a ws l) (field_a ws r)))
  unfolding meet
  meet-bodies a b = rw (both_yes _ _ a b, meet)

  module _ (none : both (has ws l 6) (has ws r 6) ≡ false) where
    meet-arguments : either (same_head ws 7 l r) (same_head ws 8 l r) ≡ true → Meet (join C q (zip (arguments ws l) (arguments ws r)) (store ws ss u) >>= (λ p. goes p.0 (done p.1)))
    unfolding meet
    meet-arguments a = rw (none, meet, a)

    meet_same : either (same_head ws 7 l r) (same_head ws 8 l r) ≡ false → same_head ws 9 l r ≡ true → Meet (same_hole R q l r (store ws ss u))
    unfolding meet
    meet_same a b = rw (none, meet, a, b)

    meet-solve : either (same_head ws 7 l r) (same_head ws 8 l r) ≡ false → same_head ws 9 l r ≡ false → Meet (solve_one R l r (store ws ss u) >>= finish q)
    unfolding meet
    meet-solve a b = rw (none, meet, a, b)

  solve-left : has ws l 9 ≡ true → solve_one R l r (store ws ss u) ≡ assign R l r (store ws ss u)
  unfolding solve_one
  solve-left a = rw (a, solve_one)

  solve_right : has ws l 9 ≡ false → has ws r 9 ≡ true → solve_one R l r (store ws ss u) ≡ assign R r l (store ws ss u)
  unfolding solve_one
  solve_right a b = rw (a, solve_one, b)

  solve_none : has ws l 9 ≡ false → has ws r 9 ≡ false → solve_one R l r (store ws ss u) ≡ fail Clashes (store ws ss u)
  unfolding solve_one
  solve_none a b = rw (a, solve_one, b)

fail_on : (s : Store) (q : List Waiting) → (fail Clashes s >>= finish q) ≡ fail Clashes s
unfolding fail ◌>>=◌
fail_on s q = refl

module _ (ws : List ℕ) (l r : ℕ) (h : Terms ws l r) (x y : Record) (ex : IsRecord ws l x) (ey : IsRecord ws r y) where
  left_is : (k : ℕ) → x.tag ≡ k → tag ws l ≡ k
  left_is k e = sym ex.tag_is ∙ e

  left_not : (k : ℕ) → (x.tag ≡ k → ⊥) → tag ws l ≡ k → ⊥
  left_not k n z = n (ex.tag_is ∙ z)

  right_is : (k : ℕ) → y.tag ≡ k → tag ws r ≡ k
  right_is k e = sym ey.tag_is ∙ e

  right_not : (k : ℕ) → (y.tag ≡ k → ⊥) → tag ws r ≡ k → ⊥
  right_not k n z = n (ey.tag_is ∙ z)

  pub meets_bodies : x.tag ≡ LA → y.tag ≡ LA → MeetsAs ws l r (Bodies (record { left = x.a; right = y.a }))
  meets_bodies s t =
      record { run = λ R C q ss u. rw (ex.a_is, ey.a_is) (meet-bodies R C q ws ss u l r (has_yes ws l 6 (left_is 6 s)) (has_yes ws r 6 (right_is 6 t))); fact = tt }

  module _ (a : Fails (x.tag ≡ LA) (y.tag ≡ LA)) where
    none : both (has ws l 6) (has ws r 6) ≡ false
    none = go (ℕ_discrete (tag ws l) LA)
      where
        go : Dec (tag ws l ≡ LA) → both (has ws l 6) (has ws r 6) ≡ false
        go (no p) = both_left _ _ (has_no ws l 6 p)
        go (yes p) = both_right _ _ (has_yes ws l 6 p) (has_no ws r 6 (λ k. not-both a (ex.tag_is ∙ p) (ey.tag_is ∙ k)))

    module _ (s : x.tag ≡ y.tag) (e : x.a ≡ y.a) where
      -- of one kind, with equal heads
      alike : (tag ws r ≡ tag ws l) × (field_a ws l ≡ field_a ws r)
      alike = (sym ey.tag_is ∙ sym s ∙ ex.tag_is, sym ex.a_is ∙ e ∙ ey.a_is)

      pub meets_same : x.tag ≡ HA → MeetsAs ws l r SameHole
      meets_same t =
          let p = alike in
          let l₁ = left_is 9 t in
          let r₁ : tag ws r ≡ HA = p.0 ∙ l₁ in
          let n₇ : tag ws l ≡ CA → ⊥ = omega arith in
          let n₈ : tag ws l ≡ VA → ⊥ = omega arith in
          record { run = λ R C q ss u. meet_same R C q ws ss u l r none (either_none _ _ (same_not ws 7 l r n₇) (same_not ws 8 l r n₈)) (same_yes ws 9 l r l₁ r₁ p.1); fact = (l₁, r₁, p.1) }

      pub meets_arguments : (x.tag ≡ HA → ⊥) → MeetsAs ws l r (Arguments (record { left = x.b; right = y.b }))
      unfolding arguments
      meets_arguments t =
          let p = alike in
          record { run = λ R C q ss u. rw (ex.b_is, ey.b_is) (meet-arguments R C q ws ss u l r none (go (ℕ_discrete (tag ws l) CA))); fact = (seven (tag ws l) h.left.low unlike, at_most (tag ws l) h.left.high (left_not 9 t), p.0, p.1, ex.b_is, ey.b_is) }
        where
          -- of one kind, and so no lambdas
          unlike : tag ws l ≡ LA → ⊥
          unlike z = not-both a (ex.tag_is ∙ z) (ey.tag_is ∙ alike.0 ∙ z)

          go : Dec (tag ws l ≡ CA) → either (same_head ws 7 l r) (same_head ws 8 l r) ≡ true
          go (yes k) = either_left _ _ (same_yes ws 7 l r k (alike.0 ∙ k) alike.1)
          go (no k) =
              let k₀ : tag ws l ≡ VA = eight (tag ws l) h.left.low h.left.high unlike k (left_not 9 t) in
              either_right _ _ (same_not ws 7 l r k) (same_yes ws 8 l r k₀ (alike.0 ∙ k₀) alike.1)

    module _ (d : Fails (x.tag ≡ y.tag) (x.a ≡ y.a)) where
      differ : (k : ℕ) → same_head ws k l r ≡ false
      differ k = same_differ ws k l r (λ p c. not-both d (ex.tag_is ∙ p ∙ sym ey.tag_is) (ex.a_is ∙ c ∙ sym ey.a_is))

      solves : (R C : ℕ) (q : List Waiting) (ss : List ℕ) (u : ℕ) → meet R C q l r (store ws ss u) ≡ (solve_one R l r (store ws ss u) >>= finish q)
      solves R C q ss u = meet-solve R C q ws ss u l r none (either_none _ _ (differ 7) (differ 8)) (differ 9)

      pub meets_left : x.tag ≡ HA → MeetsAs ws l r (Solve l r)
      meets_left t =
          let l₁ = left_is 9 t in
          record { run = λ R C q ss u. solves R C q ss u ∙ ap (λ (o : Out ℕ). o >>= finish q) (solve-left R C q ws ss u l r (has_yes ws l 9 l₁)); fact = (l₁, in_order refl refl) }

      pub meets_right : (x.tag ≡ HA → ⊥) → y.tag ≡ HA → MeetsAs ws l r (Solve r l)
      meets_right t k =
          let r₁ = right_is 9 k in
          record {
            run = λ R C q ss u. solves R C q ss u ∙ ap (λ (o : Out ℕ). o >>= finish q) (solve_right R C q ws ss u l r (has_no ws l 9 (left_not 9 t)) (has_yes ws r 9 r₁));
            fact = (r₁, turned refl refl);
          }

      pub meets_clash : (x.tag ≡ HA → ⊥) → (y.tag ≡ HA → ⊥) → MeetsAs ws l r Clash
      meets_clash t k =
          record {
            run = λ R C q ss u.
                solves R C q ss u ∙ ap (λ (o : Out ℕ). o >>= finish q) (solve_none R C q ws ss u l r (has_no ws l 9 (left_not 9 t)) (has_no ws r 9 (right_not 9 k))) ∙ fail_on (store ws ss u) q;
            fact = tt;
          }
