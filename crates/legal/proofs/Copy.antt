-- Copying and expanding in a sane store: a side is a term in scope, and stays one.
use Prim.Native.Nat.{ℕ, zero, suc, ◌+◌, ◌-◌, ◌<◌, ◌≤◌}
use Rattle.std.specs.Prelude.{◌≡◌, refl, Bool, true, false}
use Rattle.std.proofs.Math.Path.{sym}
use Rattle.std.proofs.Common.{◌∙◌, le_refl}
use native.Mathlib.Omega.{arith}
use Rattle.std.proofs.Math.ListN.{length, length-map}
use Rattle.std.proofs.lemmas.Bool.{not-true, eqb-false}
use Rattle.rules.specs.Lists.{both, enough}
use Rattle.rules.specs.Words.{HO, HA, tag, field_a, has, variables}
use Rattle.rules.specs.Store.{Store, solved, solution}
use Rattle.rules.specs.Map.{targets, to_variables, follow}
use Rattle.rules.specs.Rewrite.{keep_hole, copy, expand}
use Rattle.laws.specs.Tests.{both_true, tag_is as tag_of}
use Rattle.laws.specs.Sound.{hole_head}
use Rattle.invariants.specs.Floor.{All}
use Rattle.invariants.specs.Grow.{all_map}
use Rattle.promise.specs.Reading.{same_refl}
use Rattle.promise.specs.Outcomes.{unsaid}
use Rattle.legal.specs.Reading.{arity, arity_same, arity_few}
use Rattle.legal.specs.Scope.{Scopes, scope_level, Part, part_on}
use Rattle.legal.specs.Sane.{Solution, Sane, legal, Kept, kept_refl, kept_trans}
use Rattle.legal.proofs.Narrow.{occurrence-part}
use Rattle.legal.proofs.Lists.{Occurrence, occurrence_ran}
use Rattle.legal.specs.Ran.{Between, Ran, ran_bind, ran_map, ran_goes}
use Rattle.legal.specs.Places.{Total, followed, follow-all, variables_lead, variables_total}
use Rattle.legal.specs.Parts.{Wrote, Small}
use Rattle.legal.proofs.Parts.{Source, Writes, WritesHole}
use Rattle.legal.proofs.Rewriting.{term_ran}

-- the hole that occurs at r
pub record Head (s : Store) (r : ℕ) : Type 0 where
  pub below : field_a s.words r < s.used
  pub is : tag s.words (field_a s.words r) ≡ HO
  pub count : length (variables s.words r) ≡ arity s.words (field_a s.words r)
  pub few : length (variables s.words r) ≤ 16

pub head_of : {R : ℕ} {s : Store} (c b r : ℕ) → Sane R s → r < s.used → tag s.words r ≡ HA → Scopes s.words c b r → Head s r
head_of {s = s} c b r i lt nine h =
    let p = hole_head s.words s.used i.sound r lt nine in
    let l = p.0 in
    let four = tag_of s.words (field_a s.words r) HO p.1 in
    let n = (scope_level s.words c b r h).count nine in
    let f = arity_few s.words s.used (legal i) (field_a s.words r) (omega arith) four in
    record { below = omega arith; is = four; count = n; few = omega arith }

module _ (R : ℕ) where
  copy_hole : WritesHole R Total (keep_hole R)
  unfolding keep_hole
  copy_hole m d r s =
      ran_map R (occurrence_ran R (field_a s.words r) (targets (follow m d 0 (variables s.words r))) s) λ s₁ x b₁ p T b i nine c. wrote s₁ x b₁.grown p T b i nine c
    where
      wrote : (s₁ : Store) (x : ℕ) → s.used ≤ s₁.used
          → (Sane R s → field_a s.words r < s.used → tag s.words (field_a s.words r) ≡ HO → All (λ v. v < 4096) (targets (follow m d 0 (variables s.words r)))
          → length (targets (follow m d 0 (variables s.words r))) ≤ 16 → Occurrence R s s₁ (field_a s.words r) x (targets (follow m d 0 (variables s.words r))))
          → (T b : ℕ) → Source R Total m T b d r s → tag s.words r ≡ HA → Small (T + d) s s₁ → Wrote R (T + d) s s₁ x
      wrote s₁ x g p T b i nine c =
          let h = head_of i.cap (b + d) r i.sane i.part.below nine i.part.scope in
          let names = (scope_level s.words i.cap (b + d) r i.part.scope).names nine in
          let fo = followed m d T 0 (variables s.words r) i.leads in
          let whole : length (follow m d 0 (variables s.words r)) ≡ length (variables s.words r) = follow-all m b d 0 (variables s.words r) i.fits names in
          let n : length (targets (follow m d 0 (variables s.words r))) ≡ length (follow m d 0 (variables s.words r)) = simp length-map in
          let hf = h.few in
          let o = p i.sane h.below h.is (all_map (λ w. w < T + d) (λ w. w < 4096) (λ w z. omega arith) (targets (follow m d 0 (variables s.words r))) fo.to) (omega arith) in
          let a = arity_same s.words s.used (legal i.sane) s₁.words o.kept.same (field_a s.words r) h.below h.is in
          record { kept = o.kept; root = o.root; part = occurrence-part (T + d + (s₁.used - s.used)) (T + d) o fo.to (n ∙ whole ∙ h.count ∙ sym a) (omega arith) }

  copy_ran : (f : ℕ) → Writes R Total (copy f R)
  unfolding copy
  copy_ran zero m d r s = unsaid
  copy_ran (suc f) m d r s = term_ran R Total (keep_hole R) (λ m₁ d₁ r₁ s₁. copy f R m₁ d₁ r₁ s₁) copy_hole (λ m₁ d₁ r₁ s₁. copy_ran f m₁ d₁ r₁ s₁) m d r s

-- a side of a pair: a term in scope, where no hole stands under more variables than there are records
pub record Side (s : Store) (x : ℕ) : Type 0 where
  pub under : ℕ
  pub part : Part s s.used under x

pub side-kept : {R : ℕ} {s s₁ : Store} (x : ℕ) → Sane R s → Kept R s s₁ → Side s x → Side s₁ x
side-kept {s = s} {s₁} x i k h = record { under = h.under; part = part_on s.used s₁.used h.under x (legal i) k.same k.grown k.grown h.part }

-- the solution of a solved hole
pub solution-of : {R : ℕ} {s : Store} (h : ℕ) → Sane R s → h < s.used → solved s h ≡ true → Solution s h
unfolding solved
solution-of {s = s} h i lt e = let w = i.within in i.sols h (omega arith) (eqb-false _ _ (not-true _ e))

module _ (R : ℕ) (r : ℕ) (s : Store) where
  -- the copy of the solution of the hole that occurs at r
  copied : (s₁ : Store) (t : ℕ) → Between R s s₁ → tag s.words r ≡ HA → solved s (field_a s.words r) ≡ true
      → ((T b : ℕ) → Source R Total (to_variables 0 (variables s.words r)) T b 0 (solution s (field_a s.words r)) s → Small (T + 0) s s₁ → Wrote R (T + 0) s s₁ t)
      → Sane R s → Side s r → Kept R s s₁ × Side s₁ t
  unfolding solution
  copied s₁ t bt nine so p i h =
      let v = scope_level s.words s.used h.under r h.part.scope in
      let cap = v.cap nine in
      let hd = head_of s.used h.under r i h.part.below nine h.part.scope in
      let o = solution-of (field_a s.words r) i hd.below so in
      let z : arity s.words (field_a s.words r) + 0 ≡ arity s.words (field_a s.words r) = omega arith in
      let wi = bt.within i.within in
      let fe = i.few in
      let g = bt.grown in
      let w = p h.under (arity s.words (field_a s.words r))
      (record { sane = i; cap = o.cap; part = rw z o.part; leads = variables_lead 0 h.under (variables s.words r) (v.names nine); fits = rw (← hd.count) (variables_total (variables s.words r)) }) (omega arith) in
      (w.kept, record { under = h.under + 0; part = part_on (h.under + 0 + (s₁.used - s.used)) s₁.used (h.under + 0) t (legal w.kept.sane) same_refl (le_refl _) (omega arith) w.part })

pub expand_ran : (R f r : ℕ) (s : Store) → Ran R s (λ s₁ x. Sane R s → Side s r → Kept R s s₁ × Side s₁ x) (expand f R r s)
unfolding expand
expand_ran R zero r s = unsaid
expand_ran R (suc f) r s = go (both (has s.words r HA) (solved s (field_a s.words r))) refl (λ t s₁. expand_ran R f t s₁)
  where
    go : (b : Bool) → both (has s.words r HA) (solved s (field_a s.words r)) ≡ b → ((t : ℕ) (s₁ : Store) → Ran R s₁ (λ s₂ x. Sane R s₁ → Side s₁ t → Kept R s₁ s₂ × Side s₂ x) (expand f R t s₁))
        → Ran R s (λ s₁ x. Sane R s → Side s r → Kept R s s₁ × Side s₁ x) (expand (suc f) R r s)
    go false e on = rw (e, expand) (ran_goes R (λ i h. (kept_refl i, h)))
    go true e on =
        rw (e, expand)
        (ran_bind R _ (copy_ran R enough (to_variables 0 (variables s.words r)) 0 (solution s (field_a s.words r)) s) λ s₁ t b₁ p.
        ran_map R (on t s₁) λ s₂ x b₂ q i h.
        let y = both_true _ _ e in
        let w = copied R r s s₁ t b₁ (tag_of s.words r HA y.0) y.1 p i h in
        let v = q w.0.sane w.1 in
        (kept_trans w.0 v.0, v.1))
