-- Settling a hole and narrowing one, in a sane store.
use Rattle.std.specs.Prelude.{ℕ, zero, suc, ◌<◌, ◌≤◌, ◌≡◌, List, [], ◌∷◌, map, true, get_or, set}
use Rattle.std.proofs.Math.Path.{refl}
use Rattle.std.proofs.Common.{sym, ◌∙◌, arith, length-set, get_or-set_other, get_or-set_same}
use Rattle.std.proofs.Math.Nat.{le_refl}
use Rattle.std.proofs.Math.Decide.{ℕ_discrete}
use Rattle.std.proofs.Math.ListN.{length}
use Rattle.std.proofs.lemmas.List.{length-map}
use Rattle.rules.specs.Words.{NONE, BT, HO, tag, field_a, field_b, is_type, elements}
use Rattle.rules.specs.Store.{Store, push, settle}
use Rattle.rules.specs.Walk.{narrow}
use Rattle.laws.specs.Tests.{tag_is as tag_of}
use Rattle.laws.specs.Sound.{hole_base}
use Rattle.invariants.specs.Floor.{All}
use Rattle.invariants.specs.Grow.{all_map}
use Rattle.promise.specs.Outcomes.{ended}
use Rattle.legal.specs.Stay.{tag_same, elements_same}
use Rattle.legal.specs.Cells.{some_types}
use Rattle.legal.specs.Reading.{arity, arity_same, arity_few, context_types}
use Rattle.legal.specs.Scope.{hole_scope, Part}
use Rattle.legal.specs.Sane.{Solution, Sane, legal, Kept, kept_trans, added, added_same, tag_is, a_is}
use Rattle.legal.specs.Added.{Chain}
use Rattle.legal.proofs.Added.{hole_added}
use Rattle.legal.specs.Ran.{Ran, ran_bind, ran_push}
use Rattle.legal.proofs.Lists.{cells_ran, Occurrence, occurrence_ran}

-- an occurrence is in scope where its variables are, and it has as many as its hole takes
pub occurrence-part : {R : ℕ} {s s₁ : Store} {h x : ℕ} {vs : List ℕ} (c b : ℕ) → Occurrence R s s₁ h x vs → All (λ v. v < b) vs → length vs ≡ arity s₁.words h → b ≤ c → Part s₁ c b x
occurrence-part {s₁ = s₁} {h} {x} {vs} c b o low count le =
    record { below = o.root.below; term = o.root.term; scope = hole_scope s₁.words c b x o.is (rw o.names low) (rw (o.names, o.head) count) le }

-- a hole is settled by a term in scope under its context
pub settle-kept : {R : ℕ} {s s₁ : Store} (c h t : ℕ) → Kept R s s₁ → h < s₁.used → tag s₁.words h ≡ HO → Part s₁ c (arity s₁.words h) t
    → Kept R s (settle h t s₁)
unfolding settle
settle-kept {R} {s} {s₁} c h t k lt four part =
    let i = k.sane in
    record {
      sane = record { room = i.room; held = simp length-set i.held; few = i.few; within = i.within; sound = i.sound; sols = λ v l n. at v l n (ℕ_discrete v h) };
      grown = k.grown;
      same = k.same;
      own = k.own;
    }
  where
    as_settled : {c b x : ℕ} → Part s₁ c b x → Part (settle h t s₁) c b x
    as_settled p = record { below = p.below; term = p.term; scope = p.scope }

    still : (v : ℕ) → get_or (set s₁.solutions h t) v NONE ≡ get_or s₁.solutions v NONE → Solution s₁ v → Solution (settle h t s₁) v
    still v e o = record { hole = o.hole; is = o.is; cap = o.cap; part = rw e (as_settled o.part) }

    at : (v : ℕ) → v < R → (get_or (set s₁.solutions h t) v NONE ≡ NONE → ⊥) → Dec (v ≡ h) → Solution (settle h t s₁) v
    at v l n (yes z) =
        let w = k.sane.within in
        let d = k.sane.held in
        let e : get_or (set s₁.solutions h t) v NONE ≡ t = rw z (get_or-set_same s₁.solutions h t NONE (omega arith)) in
        record { hole = omega arith; is = rw z four; cap = c; part = rw (e, z) (as_settled part) }
    at v l n (no z) =
        let e : get_or (set s₁.solutions h t) v NONE ≡ get_or s₁.solutions v NONE = get_or-set_other s₁.solutions h v t NONE z in
        still v e (k.sane.sols v l (λ q. n (e ∙ q)))

-- the entries at these positions
picked : (P : ℕ → Type 0) (xs ks : List ℕ) → All P xs → All (λ k. k < length xs) ks → All P (map (λ k. get_or xs k 0) ks)
picked P xs [] h low = tt
picked P xs (k ∷ ks) h low = (at xs k h low.0, picked P xs ks h low.1)
  where
    at : (xs : List ℕ) (k : ℕ) → All P xs → k < length xs → P (get_or xs k 0)
    at [] k h l = absurd (omega arith)
    at (x ∷ xs) zero h l = h.0
    at (x ∷ xs) (suc k) h l = at xs k h.1 (omega arith)

-- a new hole that takes so many variables
pub record Narrowed (R k : ℕ) (s s₁ : Store) (x : ℕ) : Type 0 where
  pub kept : Kept R s s₁
  pub below : x < s₁.used
  pub is : tag s₁.words x ≡ HO
  pub takes : arity s₁.words x ≡ k

module _ (R h : ℕ) (ks : List ℕ) (s : Store) where
  -- what narrowing asks
  pub record Narrows : Type 0 where
    pub sane : Sane R s
    pub low : h < s.used
    pub is : tag s.words h ≡ HO
    pub positions : All (λ k. k < arity s.words h) ks
    pub few : length ks ≤ 16

  -- the kept entries of the old hole's context
  abbrev entries : List ℕ
  entries = map (λ k. get_or (elements s.words (field_a s.words h)) k 0) ks

  -- the new hole over them
  declare : (s₁ : Store) (l : ℕ) → s₁.used < R → (Sane R s → All (λ x. (x < s.used) × (is_type s.words x ≡ true)) entries → length entries ≤ 16 → Kept R s s₁ × Chain some_types s s₁ l entries)
      → Narrows → Narrowed R (length ks) s (added s₁ HO l (field_b s.words h)) s₁.used
  declare s₁ l lt p n =
      let i = n.sane in
      let lo = n.low in
      let types = all_map (λ x. (x < h) × (is_type s.words x ≡ true)) (λ x. (x < s.used) × (is_type s.words x ≡ true)) (λ x q. let z = q.0 in (omega arith, q.1)) (elements s.words (field_a s.words h))
      (context_types s.words s.used (legal i) h lo n.is) in
      let fe = n.few in
      let q = p i (picked (λ x. (x < s.used) × (is_type s.words x ≡ true)) (elements s.words (field_a s.words h)) ks types n.positions) (simp length-map fe) in
      let k = q.0 in
      let g = k.grown in
      let b = hole_base s.words s.used i.sound h lo n.is in
      let b₀ = b.0 in
      let base = tag_same s.words s₁.words s.used (legal i) k.same (field_b s.words h) (omega arith) ∙ tag_of s.words (field_b s.words h) BT b.1 in
      let k₂ = hole_added k lt l (field_b s.words h) entries q.1 (omega arith) base in
      let els = elements_same s₁.words (added s₁ HO l (field_b s.words h)).words s₁.used (legal k.sane) (added_same HO l (field_b s.words h) k.sane lt) l (λ z. let o = q.1.begins z in (o.0, o.1)) in
      record {
        kept = k₂;
        below = omega arith;
        is = tag_is HO l (field_b s.words h) k.sane lt;
        takes = rw (a_is HO l (field_b s.words h) k.sane lt, els, q.1.is) (simp length-map);
      }

  -- the old hole's solution, which applies the new hole to the kept positions
  finish : (s₂ : Store) (x : ℕ) → (Narrows → Narrowed R (length ks) s s₂ x) → (s₃ : Store) (t : ℕ)
      → (Sane R s₂ → x < s₂.used → tag s₂.words x ≡ HO → All (λ v. v < 4096) ks → length ks ≤ 16 → Occurrence R s₂ s₃ x t ks)
      → Narrows → Narrowed R (length ks) s (settle h t s₃) x
  unfolding settle
  finish s₂ x d s₃ t p n =
      let e = d n in
      let i = n.sane in
      let lo = n.low in
      let i₂ = e.kept.sane in
      let few = arity_few s.words s.used (legal i) h lo n.is in
      let o = p i₂ e.below e.is (all_map (λ k. k < arity s.words h) (λ k. k < 4096) (λ k z. omega arith) ks n.positions) n.few in
      let k₃ = kept_trans e.kept o.kept in
      let g₃ = k₃.grown in
      let g₂ = o.kept.grown in
      let b = e.below in
      let tag₃ = tag_same s₂.words s₃.words s₂.used (legal i₂) o.kept.same x b ∙ e.is in
      let takes₃ : arity s₃.words x ≡ length ks = arity_same s₂.words s₂.used (legal i₂) s₃.words o.kept.same x b e.is ∙ e.takes in
      let old : arity s₃.words h ≡ arity s.words h = arity_same s.words s.used (legal i) s₃.words k₃.same h lo n.is in
      let part : Part s₃ (arity s.words h) (arity s.words h) t = occurrence-part (arity s.words h) (arity s.words h) o n.positions (sym takes₃) (le_refl _) in
      record {
        kept = settle-kept (arity s.words h) h t k₃ (omega arith) (tag_same s.words s₃.words s.used (legal i) k₃.same h lo ∙ n.is) (rw old part);
        below = omega arith;
        is = tag₃;
        takes = takes₃;
      }

  pub narrow_ran : Ran R s (λ s₁ x. Narrows → Narrowed R (length ks) s s₁ x) (narrow R h ks s)
  unfolding narrow settle
  narrow_ran =
      ran_bind R _ (cells_ran R entries s) λ s₁ l b p.
      ran_bind R _ (declares s₁ l p) λ s₂ x c d.
      ran_bind R _ (occurrence_ran R x ks s₂) λ s₃ t e q.
      ended (record { grown = le_refl _; within = λ z. z; long = refl }, finish s₂ x d s₃ t q)
    where
      declares : (s₁ : Store) (l : ℕ) → (Sane R s → All (λ x. (x < s.used) × (is_type s.words x ≡ true)) entries → length entries ≤ 16 → Kept R s s₁ × Chain some_types s s₁ l entries)
          → Ran R s₁ (λ s₂ x. Narrows → Narrowed R (length ks) s s₂ x) (push R HO l (field_b s.words h) s₁)
      declares s₁ l p = ran_push R HO l (field_b s.words h) s₁ (λ lt n. declare s₁ l lt p n)
