-- The invariant is kept by narrowing and by settling a hole.
use Rattle.std.specs.Prelude.{ℕ, zero, suc, ◌<◌, ◌≤◌, ◌≡◌, refl, List, [], ◌∷◌, map, length, set}
use Rattle.std.proofs.Common.{sym, ◌∙◌, arith, le_refl, get_or-set_same}
use Rattle.std.proofs.Math.Decide.{dec_lt, ℕ_discrete}
use Rattle.std.proofs.Math.ListN.{get_or, length-set}
use Rattle.std.proofs.Math.Seq.{get_or-set_other}
use Rattle.rules.specs.Words.{NONE, tag, field_a, field_b, elements, HO, CE, HA}
use Rattle.rules.specs.Store.{Store, Out, goes, fails, spent, push, push_cells, push_occurrence, settle}
use Rattle.rules.specs.Walk.{narrow}
use Rattle.laws.specs.Lists.{Cell, Listed, listed_rest, elements_none, elements_cell}
use Rattle.invariants.specs.Floor.{Sub, All, limit, Solved, Fine, Ext, Grown, Grows}
use Rattle.invariants.specs.Outside.{set-outside, unsolved}
use Rattle.invariants.specs.Grow.{listed_of, all_map, tag-kept}
use Rattle.invariants.specs.Push.{ext_trans, bind_grows}
use Rattle.invariants.specs.Write.{Written, Same, Chain}
use Rattle.invariants.proofs.Write.{push_hole, cells_grow, occurrence_grows}

-- a solution written from record b on settles a hole that no record from b on mentions
module _ (R n b : ℕ) (home : ℕ → ℕ) (s : Store) (h t : ℕ) (f : Fine R n home s) (lt : h < s.used) (nb : n ≤ b) (root : Sub s.words home b s.used t)
    (no_one : (q : ℕ) → b ≤ q → q < s.used → tag s.words q ≡ HA → field_a s.words q ≡ h → ⊥) where
  inside : h < length s.solutions
  inside = omega arith

  settled_sols : (v : ℕ) → v < R → (get_or (settle h t s).solutions v NONE ≡ NONE → ⊥) → Solved n home (settle h t s) v
  unfolding settle
  settled_sols v lv = go (ℕ_discrete v h)
    where
      go : Dec (v ≡ h) → (get_or (set s.solutions h t) v NONE ≡ NONE → ⊥) → Solved n home (settle h t s) v
      go (yes z) ne =
          let e : get_or (set s.solutions h t) v NONE ≡ t = rw z (get_or-set_same s.solutions h t NONE inside) in
          record { hole = omega arith; below = rw e root.below; term = rw e root.term; since = rw e (omega arith) }
      go (no z) ne =
          let e : get_or (set s.solutions h t) v NONE ≡ get_or s.solutions v NONE = get_or-set_other s.solutions h v t NONE z in
          let o = f.sols v lv (λ q. ne (e ∙ q)) in
          record { hole = o.hole; below = rw e o.below; term = rw e o.term; since = rw e o.since }

  settled_above : (q : ℕ) → q < s.used → tag s.words q ≡ HA → 1 ≤ home q → (get_or (set s.solutions h t) (field_a s.words q) NONE ≡ NONE → ⊥)
      → q < home (get_or (set s.solutions h t) (field_a s.words q) NONE)
  settled_above q l e one = go (ℕ_discrete (field_a s.words q) h) (dec_lt q b)
    where
      go : Dec (field_a s.words q ≡ h) → Dec (q < b) → (get_or (set s.solutions h t) (field_a s.words q) NONE ≡ NONE → ⊥) → q < home (get_or (set s.solutions h t) (field_a s.words q) NONE)
      go (yes z) (yes k) ne =
          let e : get_or (set s.solutions h t) (field_a s.words q) NONE ≡ t = rw z (get_or-set_same s.solutions h t NONE inside) in
          rw e (omega arith)
      go (yes z) (no k) ne = absurd (no_one q (omega arith) l e z)
      go (no z) k ne =
          let e₁ : get_or (set s.solutions h t) (field_a s.words q) NONE ≡ get_or s.solutions (field_a s.words q) NONE = get_or-set_other s.solutions h (field_a s.words q) t NONE z in
          rw e₁ (f.above q l e one (λ i. ne (e₁ ∙ i)))

  pub settled_fine : Fine R n home (settle h t s)
  unfolding settle
  settled_fine =
      record { room = f.room; held = simp length-set f.held; few = f.few; some = f.some; since = f.since; within = f.within; good = f.good; sols = settled_sols; above = settled_above; tagged = f.tagged; blank = f.blank }

-- elements of a context that can be read are records
elements_low : (k : ℕ) (ws : List ℕ) (u l : ℕ) → Listed ws l → ((c : ℕ) → c < u → tag ws c ≡ CE → Cell ws c) → ((l ≡ NONE → ⊥) → (l < u) × (tag ws l ≡ CE)) → l < k → All (λ y. y < u) (elements ws l)
elements_low zero ws u l li good here lt = absurd (omega arith)
elements_low (suc k) ws u l li good here lt = go (ℕ_discrete l NONE) (ℕ_discrete (field_b ws l) NONE) (λ p q g. elements_low k ws u (field_b ws l) p good q g)
  where
    go : Dec (l ≡ NONE) → Dec (field_b ws l ≡ NONE) → (Listed ws (field_b ws l) → ((field_b ws l ≡ NONE → ⊥) → (field_b ws l < u) × (tag ws (field_b ws l) ≡ CE)) → field_b ws l < k → All (λ y. y < u) (elements ws (field_b ws l))) → All (λ y. y < u) (elements ws l)
    go (yes e) d ih = rw (elements_none ws l e) tt
    go (no e) (yes d) ih =
        let q = here e in
        let q₀ = q.0 in
        let c = (good l q₀ q.1).elem in
        rw (elements_cell ws l e li, elements_none ws (field_b ws l) d) (omega arith, tt)
    go (no e) (no d) ih =
        let q = here e in
        let q₀ = q.0 in
        let c = (good l q₀ q.1).elem in
        let r = (good l q₀ q.1).rest d in
        let r₀ = r.0 in
        rw (elements_cell ws l e li) (omega arith, ih (listed_rest ws l e li) (λ z. (omega arith, r.1)) (omega arith))

pick_low : (u : ℕ) (xs ks : List ℕ) → 1 ≤ u → All (λ y. y < u) xs → All (λ y. y < u) (map (λ k. get_or xs k 0) ks)
pick_low u xs [] one h = tt
pick_low u xs (k ∷ ks) one h = (at xs k h, pick_low u xs ks one h)
  where
    at : (xs : List ℕ) (k : ℕ) → All (λ y. y < u) xs → get_or xs k 0 < u
    at [] k h = omega arith
    at (x ∷ xs) zero h = h.0
    at (x ∷ xs) (suc k) h = at xs k h.1

ext_weaken : (barred barred' : ℕ → Type 0) (home : ℕ → ℕ) (s : Store) (home₁ : ℕ → ℕ) (s₁ : Store) → ((v : ℕ) → barred v → barred' v) → Ext barred' home s home₁ s₁ → Ext barred home s home₁ s₁
ext_weaken barred barred' home s home₁ s₁ w e = record { grown = e.grown; kept = e.kept; labels = e.labels; none = λ q l k t x. e.none q l k t (w _ x) }

pub grows_weaken : {A : Type 0} (barred barred' : ℕ → Type 0) (Q : (ℕ → ℕ) → Store → A → Type 0) (R n : ℕ) (home : ℕ → ℕ) (s : Store) (o : Out A) → ((v : ℕ) → barred v → barred' v)
    → Grows barred' Q R n home s o → Grows barred Q R n home s o
grows_weaken barred barred' Q R n home s (goes s₁ x) w g = record { home₁ = g.home₁; ext = ext_weaken barred barred' home s g.home₁ s₁ w g.ext; outside = g.outside; fine = g.fine; root = g.root }
grows_weaken barred barred' Q R n home s (fails ws ss e) w g = g
grows_weaken barred barred' Q R n home s spent w g = g

-- a hole that is new and unsolved
pub record Fresh (u : ℕ) (home : ℕ → ℕ) (s : Store) (x : ℕ) : Type 0 where
  pub new : u ≤ x
  pub below : x < s.used
  pub hole : tag s.words x ≡ HO
  pub free : get_or s.solutions x NONE ≡ NONE

context_low : (R n : ℕ) (home : ℕ → ℕ) (s : Store) (l : ℕ) → Fine R n home s → ((l ≡ NONE → ⊥) → (l < s.used) × (tag s.words l ≡ CE)) → All (λ y. y < s.used) (elements s.words l)
context_low R n home s l f h = elements_low (suc l) s.words s.used l (listed_of R n home s l f h) (λ c lt e. (f.good c lt).cell e) h (omega arith)

settles : (R n : ℕ) (home : ℕ → ℕ) (s : Store) (h t x b : ℕ) → Fine R n home s → h < s.used → b ≤ s.used → n ≤ b → Sub s.words home b s.used t
    → ((q : ℕ) → b ≤ q → q < s.used → tag s.words q ≡ HA → field_a s.words q ≡ h → ⊥) → (h ≡ x → ⊥) → b ≤ x → x < s.used → tag s.words x ≡ HO → get_or s.solutions x NONE ≡ NONE
    → Grown (λ v. v < b) (Fresh b) R n home s (settle h t s) x
unfolding settle
settles R n home s h t x b f lt le nb root no_one ne bx xu four free =
    record {
      home₁ = home;
      ext = record { grown = le_refl _; kept = λ i k. refl; labels = λ r k. refl; none = λ q l k. absurd (omega arith) };
      outside = let w = f.within in set-outside R n s h t (omega arith);
      fine = settled_fine R n b home s h t f lt nb root no_one;
      root = record { new = bx; below = xu; hole = four; free = get_or-set_other s.solutions h x t NONE (λ z. ne (sym z)) ∙ free };
    }

pub narrow_grows : (barred : ℕ → Type 0) (R n h : ℕ) (ks : List ℕ) (home : ℕ → ℕ) (s : Store) → Fine R n home s → ((v : ℕ) → barred v → v < s.used) → h < s.used → tag s.words h ≡ HO
    → length ks ≤ 16 → All (λ k. k ≤ limit s.used) ks → Grows barred (Fresh s.used) R n home s (narrow R h ks s)
unfolding narrow
narrow_grows barred R n h ks home s f old lt four few low =
    let si = f.since in
    let ctx : (field_a s.words h ≡ NONE → ⊥) → (field_a s.words h < s.used) × (tag s.words (field_a s.words h) ≡ CE) =
    λ q. let g = (f.good h lt).hole four q in (omega arith, g.1) in
    let els = context_low R n home s (field_a s.words h) f ctx in
    grows_weaken barred (λ v. v < s.used) (Fresh s.used) R n home s (narrow R h ks s) old
    (bind_grows (λ v. v < s.used) (Same s.solutions Chain) (Fresh s.used) R n home s (push_cells R (map (λ k. get_or (elements s.words (field_a s.words h)) k 0) ks) s) _
    (cells_grow (λ v. v < s.used) R n (map (λ k. get_or (elements s.words (field_a s.words h)) k 0) ks) home s f (pick_low s.used (elements s.words (field_a s.words h)) ks (omega arith) els))
    λ home₁ s₁ x₁ e₁ f₁ p₁.
    bind_grows (λ v. v < s.used) (Same s₁.solutions (λ home₂ s₂ x. (x ≡ s₁.used) × (x < s₂.used) × (tag s₂.words x ≡ HO))) (Fresh s.used) R n home₁ s₁ (push R HO x₁ (field_b s.words h) s₁) _
    (push_hole (λ v. v < s.used) R n 0 home₁ s₁ f₁ (omega arith) x₁ (field_b s.words h) p₁.0)
    λ home₂ s₂ x₂ e₂ f₂ p₂.
    let n₁ = p₂.0.1 in
    let free₂ : get_or s₂.solutions x₂ NONE ≡ NONE = rw (p₂.1 ∙ p₁.1) (unsolved R n home s x₂ f (omega arith) (omega arith)) in
    bind_grows (λ v. v < s.used) (Same s₂.solutions (Written s.used s₂.used)) (Fresh s.used) R n home₂ s₂ (push_occurrence R x₂ ks s₂) _
    (occurrence_grows (λ v. v < s.used) R n s.used x₂ ks home₂ s₂ f₂ (omega arith) (λ z. omega arith) (λ o. free₂) n₁ p₂.0.2 few (all_map (λ k. k ≤ limit s.used) (λ k. k ≤ limit s₂.used) (λ k q. omega arith) ks low))
    λ home₃ s₃ t e₃ f₃ p₃.
    let e = ext_trans (λ v. v < s.used) home s home₂ s₂ home₃ s₃ (ext_trans (λ v. v < s.used) home s home₁ s₁ home₂ s₂ e₁ e₂) e₃ in
    settles R n home₃ s₃ h t x₂ s.used f₃ (omega arith) (omega arith) si p₃.0.sub (λ q l k i z. e.none q l k i (rw z lt)) (omega arith) (omega arith) (omega arith)
    (tag-kept (λ v. v < s.used) R n home₂ s₂ home₃ s₃ x₂ e₃ n₁ ∙ p₂.0.2) (rw p₃.1 free₂))
