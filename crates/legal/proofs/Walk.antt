-- The walk for a hole in a sane store, and solving a hole by it.
use Prim.Native.Nat.{ℕ, zero, suc, ◌+◌, ◌-◌, ◌<◌, ◌≤◌}
use Rattle.std.specs.Prelude.{◌≡◌, Bool, true, false, get_or}
use Rattle.std.proofs.Math.Path.{refl}
use Rattle.std.proofs.Common.{sym, ◌∙◌, eq-eqb, ne_eqb}
use native.Mathlib.Omega.{arith}
use Rattle.std.proofs.Math.Nat.{le_refl}
use Rattle.std.proofs.Math.Decide.{ℕ_discrete}
use Rattle.std.proofs.Math.ListN.{length, length-map}
use Rattle.rules.specs.Lists.{enough}
use Rattle.rules.specs.Words.{NONE, HO, HA, tag, field_a, variables}
use Rattle.rules.specs.Store.{Store, solved, solution, settle}
use Rattle.rules.specs.Map.{Map, sources, targets, to_positions, follow}
use Rattle.rules.specs.Rewrite.{Writer}
use Rattle.rules.specs.Walk.{keep_placed, walk_hole, walk, assign}
use Rattle.invariants.specs.Grow.{all_map}
use Rattle.promise.specs.Outcomes.{ended, unsaid}
use Rattle.legal.specs.Stay.{tag_same}
use Rattle.legal.specs.Reading.{arity, arity_same, arity_low, arity_few}
use Rattle.legal.specs.Scope.{Part}
use Rattle.legal.specs.Sane.{Sane, legal, Kept, kept_trans}
use Rattle.legal.specs.Added.{root_since}
use Rattle.legal.proofs.Narrow.{occurrence-part, settle-kept, narrow_ran}
use Rattle.legal.proofs.Lists.{occurrence_ran}
use Rattle.legal.specs.Ran.{Between, Ran, ran_bind, ran_map, ran_fail}
use Rattle.legal.specs.Places.{Followed, followed, positions_lead}
use Rattle.legal.specs.Parts.{Wrote, Small}
use Rattle.legal.proofs.Parts.{Source, Writes, WritesHole}
use Rattle.legal.proofs.Rewriting.{term_ran}
use Rattle.legal.proofs.Copy.{head_of, Side, solution-of}

-- the map of the walk may lead nowhere
abbrev Partial : Map → ℕ → Type 0
Partial m b = Unit {0}

-- the arguments of an unsolved hole h that have a place, under B variables
record Placed (R B h k : ℕ) (m : Map) (s : Store) : Type 0 where
  sane : Sane R s
  below : h < s.used
  is : tag s.words h ≡ HO
  takes : k ≡ arity s.words h
  map : Followed 0 k B m

module _ (R : ℕ) where
  keep_ran : (h k : ℕ) (m : Map) (s : Store) → Ran R s (λ s₁ x. (B : ℕ) → Placed R B h k m s → Small B s s₁ → Wrote R B s s₁ x) (keep_placed R h k m s)
  unfolding keep_placed
  keep_ran h k m s = go (ℕ_discrete (length m) k)
    where
      n : length (targets m) ≡ length m
      n = simp length-map

      n₁ : length (sources m) ≡ length m
      n₁ = simp length-map

      few : (B : ℕ) → Placed R B h k m s → length m ≤ 16
      few B p = let a = arity_few s.words s.used (legal p.sane) h p.below p.is in let t = p.takes in let f = p.map.few in omega arith

      go : Dec (length m ≡ k) → Ran R s (λ s₁ x. (B : ℕ) → Placed R B h k m s → Small B s s₁ → Wrote R B s s₁ x) (keep_placed R h k m s)
      go (yes e) =
          rw (eq-eqb _ _ e, keep_placed)
          (ran_map R (occurrence_ran R h (targets m) s) λ s₁ x b₁ p B q c.
          let f = few B q in
          let t = q.takes in
          let o = p q.sane q.below q.is (all_map (λ w. w < B) (λ w. w < 4096) (λ w z. omega arith) (targets m) q.map.to) (omega (arith, n)) in
          let a = arity_same s.words s.used (legal q.sane) s₁.words o.kept.same h q.below q.is in
          record { kept = o.kept; root = o.root; part = occurrence-part (B + (s₁.used - s.used)) B o q.map.to (n ∙ e ∙ t ∙ sym a) (omega arith) })
      go (no e) =
          rw (ne_eqb _ _ e, keep_placed)
          (ran_bind R _ (narrow_ran R h (sources m) s) λ s₁ new b₁ p₁.
          ran_map R (occurrence_ran R new (targets m) s₁) λ s₂ x b₂ p₂ B q c.
          let f = few B q in
          let t = q.takes in
          let w = p₁ (record { sane = q.sane; low = q.below; is = q.is; positions = all_map (λ v. v < 0 + k) (λ v. v < arity s.words h) (λ v z. omega arith) (sources m) q.map.from; few = omega (arith, n₁) }) in
          let g₁ = w.kept.grown in
          let o = p₂ w.kept.sane w.below w.is (all_map (λ w. w < B) (λ w. w < 4096) (λ w z. omega arith) (targets m) q.map.to) (omega (arith, n)) in
          let a = arity_same s₁.words s₁.used (legal w.kept.sane) s₂.words o.kept.same new w.below w.is in
          record { kept = kept_trans w.kept o.kept; root = root_since x g₁ o.root; part = occurrence-part (B + (s₂.used - s.used)) B o q.map.to (n ∙ sym n₁ ∙ sym w.takes ∙ sym a) (omega arith) })

  hole_ran : (u : ℕ) (go : Writer) → Writes R Partial go → WritesHole R Partial (walk_hole go R u)
  unfolding walk_hole solution
  hole_ran u go writes m d r s = at (ℕ_discrete (field_a s.words r) u) (solved s (field_a s.words r)) refl
    where
      Says : Store → ℕ → Type 0
      Says s₁ x = (T b : ℕ) → Source R Partial m T b d r s → tag s.words r ≡ HA → Small (T + d) s s₁ → Wrote R (T + d) s s₁ x

      below : (s₁ : Store) (x : ℕ) → solved s (field_a s.words r) ≡ true
          → ((T b : ℕ) → Source R Partial (follow m d 0 (variables s.words r)) T b 0 (get_or s.solutions (field_a s.words r) NONE) s → Small (T + 0) s s₁ → Wrote R (T + 0) s s₁ x)
          → Says s₁ x
      below s₁ x e p T b i nine c =
          let h = head_of i.cap (b + d) r i.sane i.part.below nine i.part.scope in
          let o = solution-of (field_a s.words r) i.sane h.below e in
          let z : arity s.words (field_a s.words r) + 0 ≡ arity s.words (field_a s.words r) = omega arith in
          let y : T + d + 0 ≡ T + d = omega arith in
          let w = p (T + d) (arity s.words (field_a s.words r)) (record { sane = i.sane; cap = o.cap; part = rw z o.part; leads = (followed m d T 0 (variables s.words r) i.leads).leads; fits = tt }) (omega arith) in
          rw y at w

      kept : (s₁ : Store) (x : ℕ)
          → ((B : ℕ) → Placed R B (field_a s.words r) (length (variables s.words r)) (follow m d 0 (variables s.words r)) s → Small B s s₁ → Wrote R B s s₁ x) → Says s₁ x
      kept s₁ x p T b i nine c =
          let h = head_of i.cap (b + d) r i.sane i.part.below nine i.part.scope in
          p (T + d) (record { sane = i.sane; below = h.below; is = h.is; takes = h.count; map = followed m d T 0 (variables s.words r) i.leads }) c

      at : Dec (field_a s.words r ≡ u) → (b : Bool) → solved s (field_a s.words r) ≡ b → Ran R s Says (walk_hole go R u m d r s)
      at (yes e) b f = rw (eq-eqb _ _ e, walk_hole) (ran_fail R _)
      at (no e) true f = rw (ne_eqb _ _ e, walk_hole, f) (ran_map R (writes (follow m d 0 (variables s.words r)) 0 (get_or s.solutions (field_a s.words r) NONE) s) λ s₁ x b₁ p. below s₁ x f p)
      at (no e) false f = rw (ne_eqb _ _ e, walk_hole, f) (ran_map R (keep_ran (field_a s.words r) (length (variables s.words r)) (follow m d 0 (variables s.words r)) s) λ s₁ x b₁ p. kept s₁ x p)

  walk_ran : (f u : ℕ) → Writes R Partial (walk f R u)
  unfolding walk
  walk_ran zero u m d r s = unsaid
  walk_ran (suc f) u m d r s =
      let go : Writer = λ m₁ d₁ r₁ s₁. walk f R u m₁ d₁ r₁ s₁ in
      let ih : Writes R Partial go = λ m₁ d₁ r₁ s₁. walk_ran f u m₁ d₁ r₁ s₁ in
      term_ran R Partial (walk_hole go R u) go (hole_ran u go ih) ih m d r s

  -- the hole that occurs at l is solved by the other side
  pub assign_ran : (l r : ℕ) (s : Store) → Sane R s → Side s l → tag s.words l ≡ HA → Side s r → Ran R s (λ s₁ x. Kept R s s₁) (assign R l r s)
  unfolding assign settle
  assign_ran l r s i hl nine hr =
      ran_bind R _ (walk_ran enough (field_a s.words l) (to_positions 0 (variables s.words l)) 0 r s) λ s₁ t b₁ p.
      ended (record { grown = le_refl _; within = λ z. z; long = refl }, settles s₁ t b₁ p)
    where
      settles : (s₁ : Store) (t : ℕ) → Between R s s₁
          → ((T b : ℕ) → Source R Partial (to_positions 0 (variables s.words l)) T b 0 r s → Small (T + 0) s s₁ → Wrote R (T + 0) s s₁ t) → Kept R s (settle (field_a s.words l) t s₁)
      settles s₁ t bt p =
          let u = field_a s.words l in
          let h = head_of s.used hl.under l i hl.part.below nine hl.part.scope in
          let hc = h.count in
          let hb = h.below in
          let low = arity_low s.words s.used (legal i) u hb h.is in
          let wi = bt.within i.within in
          let fe = i.few in
          let g = bt.grown in
          let z : hr.under + 0 ≡ hr.under = omega arith in
          let w = p (arity s.words u) hr.under (record { sane = i; cap = s.used; part = rw z hr.part; leads = positions_lead 0 (arity s.words u) (variables s.words l) (omega arith); fits = tt }) (omega arith) in
          let y : arity s.words u + 0 ≡ arity s.words u = omega arith in
          let a : arity s₁.words u ≡ arity s.words u = arity_same s.words s.used (legal i) s₁.words w.kept.same u hb h.is in
          let part : Part s₁ (arity s.words u + (s₁.used - s.used)) (arity s.words u) t = rw y at w.part in
          settle-kept (arity s.words u + (s₁.used - s.used)) u t w.kept (omega arith) (tag_same s.words s₁.words s.used (legal i) w.kept.same u hb ∙ h.is) (rw a part)
