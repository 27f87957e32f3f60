-- Copying and expanding keep the invariant, and their fuel suffices.
use Prim.Native.Nat.{ℕ, zero, suc, ◌+◌, ◌<◌, ◌≤◌}
use Rattle.std.specs.Prelude.{◌≡◌, refl, get_or}
use Rattle.std.proofs.Common.{inl, inr, eq-eqb, ne_eqb}
use native.Mathlib.Omega.{arith}
use Rattle.std.proofs.Math.Nat.{le_refl}
use Rattle.std.proofs.Math.Decide.{ℕ_discrete}
use Rattle.std.proofs.Math.ListN.{length-map}
use Rattle.rules.specs.Lists.{both, enough}
use Rattle.rules.specs.Words.{NONE, tag, field_a, has, variables, HA}
use Rattle.rules.specs.Store.{Store, goes, push_occurrence, solved, solution}
use Rattle.rules.specs.Map.{Map, targets, to_variables, follow}
use Rattle.rules.specs.Rewrite.{Writer, keep_hole, copy, expand}
use Rattle.invariants.specs.Floor.{Sub, limit, Fine, Grows}
use Rattle.invariants.specs.Grow.{all_map, solved_at}
use Rattle.invariants.specs.Push.{bind_grows, map_grows}
use Rattle.invariants.specs.Write.{Written, same_off, grows_since, stays}
use Rattle.invariants.proofs.Write.{occurrence_grows}
use Rattle.invariants.specs.Places.{Low, variables_low}
use Rattle.invariants.specs.Keep.{followed_occurrence}
use Rattle.invariants.proofs.Rewriting.{Keeps, KeepsHole, term_grows}
use Rattle.invariants.specs.Copy.{Nobody, occurrence_low, Expanded}

-- a copy goes down the records
abbrev Down : ℕ → ℕ → (ℕ → ℕ) → Type 0
Down k r home = suc r ≤ k

module _ (R n lo : ℕ) where
  copy_hole : (f : ℕ) → KeepsHole Nobody R n 0 lo (limit lo) Down f (keep_hole R)
  unfolding keep_hole
  copy_hole f m d r s home k fuel h nine =
      let rule = h.fine.good r h.sub.below in
      let o = rule.occ nine in
      let si = h.since in
      let fo = followed_occurrence m d h.top r s.words h.low (rule.few (omega arith) (omega arith)) in
      let few = fo.few in
      let ts = targets (follow m d 0 (variables s.words r)) in
      same_off Nobody (Written 0 lo) R n home s (push_occurrence R (field_a s.words r) ts s) s.solutions
      (grows_since Nobody R n 0 s.used lo home s (push_occurrence R (field_a s.words r) ts s) s.solutions si
      (occurrence_grows Nobody R n 0 (field_a s.words r) ts home s h.fine h.from (λ z. z) (λ z. absurd (omega arith)) (omega arith) o.hole (simp length-map few)
      (all_map (λ w. w ≤ h.top + d) (λ w. w ≤ limit s.used) (λ w q. omega arith) ts fo.to)))

  copy-keeps : (f : ℕ) → Keeps Nobody R n 0 lo (limit lo) Down f (copy f R)
  unfolding copy
  copy-keeps zero m d r s home k fuel h = let l = h.left in absurd (omega arith)
  copy-keeps (suc f) m d r s home k fuel h =
      let go : Writer = λ m' d' r' s'. copy f R m' d' r' s' in
      term_grows Nobody R n 0 lo (limit lo) Down (λ k r home home₁ e l. l) (λ k r x home lt up l. (suc x, omega arith, le_refl _)) (le_refl _) f (keep_hole R) go (copy_hole f)
      (λ m' d' r' s' home' k'. copy-keeps f m' d' r' s' home' k') m d r s home k fuel h

-- a copy keeps the invariant, and its root is new; the map leads no higher than T
pub copy_grows : (R n T f : ℕ) (m : Map) (d r : ℕ) (s : Store) (home : ℕ → ℕ) → Fine R n home s → Sub s.words home 0 s.used r
    → Low m T → T + d + suc r ≤ limit s.used → suc r ≤ f → Grows Nobody (Written 0 s.used) R n home s (copy f R m d r s)
copy_grows R n T f m d r s home fi sub low fits fuel =
    copy-keeps R n s.used f m d r s home (suc r) fuel (record { fine = fi; from = omega arith; since = le_refl _; sub = sub; top = T; low = low; fits = fits; left = le_refl _ })

pub expand_grows : (R n f r : ℕ) (s : Store) (home : ℕ → ℕ) → Fine R n home s → Sub s.words home 0 s.used r → R < s.used + f → Grows Nobody (Expanded s r) R n home s (expand f R r s)
unfolding expand has solved both solution
expand_grows R n zero r s home fi sub fuel = absurd (omega arith)
expand_grows R n (suc f) r s home fi sub fuel =
    go (ℕ_discrete (tag s.words r) HA) (ℕ_discrete (get_or s.solutions (field_a s.words r) NONE) NONE) (λ y s₁ home₁. expand_grows R n f y s₁ home₁)
  where
    stay : Grows Nobody (Expanded s r) R n home s (goes s r)
    stay = stays Nobody (Expanded s r) R n home s r fi (record { sub = sub; less = inl (refl, refl) })

    go : Dec (tag s.words r ≡ HA) → Dec (get_or s.solutions (field_a s.words r) NONE ≡ NONE)
        → ((y : ℕ) (s₁ : Store) (home₁ : ℕ → ℕ) → Fine R n home₁ s₁ → Sub s₁.words home₁ 0 s₁.used y → R < s₁.used + f → Grows Nobody (Expanded s₁ y) R n home₁ s₁ (expand f R y s₁))
        → Grows Nobody (Expanded s r) R n home s (expand (suc f) R r s)
    go (no t) c on = rw (expand, ne_eqb _ _ t) stay
    go (yes t) (yes c) on = rw (expand, eq-eqb _ _ t, eq-eqb _ _ c) stay
    go (yes t) (no c) on =
        let so = solved_at R n home s r fi sub.below t c in
        let lt = so.below in
        let lr = sub.below in
        let x = get_or s.solutions (field_a s.words r) NONE in
        let m = to_variables 0 (variables s.words r) in
        rw (expand, eq-eqb _ _ t, ne_eqb _ _ c)
        (bind_grows Nobody (Written 0 s.used) (Expanded s r) R n home s (copy enough R m 0 x s) _
        (copy_grows R n (limit r) enough m 0 x s home fi (record { below = lt; term = so.term; up = omega arith }) (variables_low 0 (limit r) (variables s.words r) (occurrence_low R n home s r fi lr t)) (omega arith) (omega arith))
        λ home₁ s₁ y e₁ f₁ p₁.
        map_grows Nobody (Expanded s₁ y) (Expanded s r) R n home₁ s₁ (expand f R y s₁) (on y s₁ home₁ f₁ p₁.sub (omega arith))
        (λ home₂ s₂ z e₂ f₂ p₂. record { sub = p₂.sub; less = inr (omega arith) }))
