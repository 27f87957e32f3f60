-- The walk keeps the invariant, and its fuel suffices.
use Prim.Native.Nat.{ℕ, zero, suc, ◌+◌, ◌<◌, ◌≤◌}
use Rattle.std.specs.Prelude.{◌≡◌, get_or}
use native.Mathlib.Omega.{arith}
use Rattle.std.proofs.Math.Nat.{le_refl}
use Rattle.std.proofs.Math.Decide.{ℕ_discrete}
use Rattle.std.proofs.Math.ListN.{length}
use Rattle.std.proofs.lemmas.List.{length-map}
use Rattle.std.proofs.Common.{eq-eqb, ne_eqb}
use Rattle.rules.specs.Words.{NONE, tag, field_a, variables, HO}
use Rattle.rules.specs.Store.{Store, Out, fail, push_occurrence, solved, solution}
use Rattle.rules.specs.Map.{Map, sources, targets, follow}
use Rattle.rules.specs.Rewrite.{Writer}
use Rattle.rules.specs.Walk.{narrow, keep_placed, walk_hole, walk}
use Rattle.invariants.specs.Floor.{Sub, limit, Rule, Occ, Fine, Grows, Rooted}
use Rattle.invariants.specs.Outside.{fine_stopped}
use Rattle.invariants.specs.Grow.{all_map}
use Rattle.invariants.specs.Push.{bind_grows, map_grows}
use Rattle.invariants.specs.Write.{Written, same_off, grows_since}
use Rattle.invariants.proofs.Write.{occurrence_grows}
use Rattle.invariants.proofs.Narrow.{Fresh, narrow_grows}
use Rattle.invariants.specs.Places.{Low, Followed, followed_wider}
use Rattle.invariants.specs.Rise.{reach, raised, rises}
use Rattle.invariants.proofs.Rewriting.{Keeps, KeepsHole, term_grows}
use Rattle.invariants.specs.Keep.{highest, followed_occurrence}

module _ (R n u b : ℕ) where
  -- the walk for hole u, under a floor
  abbrev Under : ℕ → ℕ → (ℕ → ℕ) → Type 0
  Under k r home = (F : ℕ) × (F ≤ home r) × (reach R F (suc r) ≤ k)

  abbrev Walks : Out ℕ → (ℕ → ℕ) → Store → Type 0
  Walks o home s = Grows (λ v. v ≡ u) (Written b (suc u)) R n home s o

  keep_grows : (h k : ℕ) (m : Map) (home : ℕ → ℕ) (s : Store) → Fine R n home s → b ≤ s.used → u < s.used → (h ≡ u → ⊥) → get_or s.solutions h NONE ≡ NONE → h < s.used → tag s.words h ≡ HO
      → Followed 0 16 highest m → Walks (keep_placed R h k m s) home s
  unfolding keep_placed
  keep_grows h k m home s f le hu ne free lt four fo = go (ℕ_discrete (length m) k)
    where
      few : length m ≤ 16
      few = fo.few

      ts : length (targets m) ≤ 16
      ts = simp length-map few

      ks : length (sources m) ≤ 16
      ks = simp length-map few

      written : (x : ℕ) (home : ℕ → ℕ) (s : Store) → Fine R n home s → b ≤ s.used → u < s.used → (x ≡ u → ⊥) → get_or s.solutions x NONE ≡ NONE → x < s.used → tag s.words x ≡ HO
          → Walks (push_occurrence R x (targets m) s) home s
      written x home s f le hu ne free lt four =
          same_off (λ v. v ≡ u) (Written b (suc u)) R n home s (push_occurrence R x (targets m) s) s.solutions
          (grows_since (λ v. v ≡ u) R n b s.used (suc u) home s (push_occurrence R x (targets m) s) s.solutions hu
          (occurrence_grows (λ v. v ≡ u) R n b x (targets m) home s f le ne (λ o. free) lt four ts (all_map (λ w. w ≤ highest) (λ w. w ≤ limit s.used) (λ w q. omega arith) (targets m) fo.to)))

      go : Dec (length m ≡ k) → Walks (keep_placed R h k m s) home s
      go (yes e) = rw (eq-eqb _ _ e, keep_placed) (written h home s f le hu ne free lt four)
      go (no e) =
          rw (ne_eqb _ _ e, keep_placed)
          (bind_grows (λ v. v ≡ u) (Fresh s.used) (Written b (suc u)) R n home s (narrow R h (sources m) s) _
          (narrow_grows (λ v. v ≡ u) R n h (sources m) home s f (λ v z. omega arith) lt four ks (all_map (λ w. w < 0 + 16) (λ w. w ≤ limit s.used) (λ w q. omega arith) (sources m) fo.from))
          λ home₁ s₁ x e₁ f₁ p₁.
          written x home₁ s₁ f₁ (omega arith) (omega arith) (omega arith) p₁.free p₁.below p₁.hole)

  hole_grows : (f : ℕ) (w : Writer) → Keeps (λ v. v ≡ u) R n b (suc u) highest Under f w → KeepsHole (λ v. v ≡ u) R n b (suc u) highest Under f (walk_hole w R u)
  unfolding walk_hole fail solved solution
  hole_grows f w keeps m d r s home k fuel h nine = go (ℕ_discrete (field_a s.words r) u) (ℕ_discrete (get_or s.solutions (field_a s.words r) NONE) NONE)
    where
      rule : Rule s.words home r
      rule = h.fine.good r h.sub.below

      o : Occ s.words r
      o = rule.occ nine

      fo : Followed 0 16 (h.top + d) (follow m d 0 (variables s.words r))
      fo = followed_occurrence m d h.top r s.words h.low (rule.few (omega arith) (omega arith))

      go : Dec (field_a s.words r ≡ u) → Dec (get_or s.solutions (field_a s.words r) NONE ≡ NONE) → Walks (walk_hole w R u m d r s) home s
      go (yes e) c = rw (eq-eqb _ _ e, walk_hole) (fine_stopped R n home s h.fine)
      go (no e) (yes c) =
          let lt = o.below in
          let lr = h.sub.below in
          let fi = h.fits in
          rw (ne_eqb _ _ e, walk_hole, c)
          (keep_grows _ _ _ home s h.fine h.from h.since e c (omega arith) o.hole
          (followed_wider 0 16 16 (h.top + d) highest (follow m d 0 (variables s.words r)) (le_refl _) (omega arith) fo))
      go (no e) (no c) =
          let le = h.left in
          let up = le.1 in
          let lf = le.2 in
          let ri = rises R n home s le.0 r h.fine h.sub.below nine up c in
          let su = ri.sub in
          let fa = ri.falls in
          let fi = h.fits in
          let t = get_or s.solutions (field_a s.words r) NONE in
          let G = raised n le.0 r in
          rw (ne_eqb _ _ e, walk_hole, ne_eqb _ _ c)
          (keeps _ 0 t s home (reach R G (suc t)) (omega arith)
          (record {
            fine = h.fine;
            from = h.from;
            since = h.since;
            sub = record { below = su.below; term = su.term; up = omega arith };
            top = h.top + d;
            low = fo.low;
            fits = omega arith;
            left = (G, su.up, le_refl _);
          }))

  walk_grows : (f : ℕ) → Keeps (λ v. v ≡ u) R n b (suc u) highest Under f (walk f R u)
  unfolding walk
  walk_grows zero m d r s home k fuel h = let l = h.left.2 in absurd (omega arith)
  walk_grows (suc f) m d r s home k fuel h =
      let go : Writer = λ m' d' r' s'. walk f R u m' d' r' s' in
      let ih : Keeps (λ v. v ≡ u) R n b (suc u) highest Under f go = λ m' d' r' s' home' k'. walk_grows f m' d' r' s' home' k' in
      term_grows (λ v. v ≡ u) R n b (suc u) highest Under (λ k r home home₁ e l. (l.0, omega arith, l.2))
      (λ k r x home lt up l. (reach R l.0 (suc x), omega arith, (l.0, omega arith, le_refl _)))
      (omega arith) f (walk_hole go R u) go (hole_grows f go ih) ih m d r s home k fuel h

-- the law: with fuel above the measure the walk for hole u keeps the invariant; the map leads no higher than T
pub kept : (R n u b F T f : ℕ) (m : Map) (d r : ℕ) (s : Store) (home : ℕ → ℕ) → Fine R n home s → b ≤ s.used → u < s.used → Sub s.words home F s.used r
    → Low m T → T + d + reach R F (suc r) ≤ highest → reach R F (suc r) ≤ f → Grows (λ v. v ≡ u) (Rooted b) R n home s (walk f R u m d r s)
kept R n u b F T f m d r s home fi le hu sub low fits fuel =
    map_grows (λ v. v ≡ u) (Written b (suc u)) (Rooted b) R n home s (walk f R u m d r s)
    (walk_grows R n u b f m d r s home (reach R F (suc r)) fuel
    (record { fine = fi; from = le; since = hu; sub = record { below = sub.below; term = sub.term; up = omega arith }; top = T; low = low; fits = fits; left = (F, sub.up, le_refl _) }))
    (λ home₁ s₁ x e₁ f₁ p₁. p₁.sub)
