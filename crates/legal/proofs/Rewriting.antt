-- A term written anew keeps the store sane and is in scope, whatever happens at a hole, as long as that is so there.
use Rattle.std.specs.Prelude.{ℕ, ◌+◌, ◌-◌, ◌<◌, ◌≤◌, ◌≡◌, List, true, length, Option, Some, None}
use Rattle.std.proofs.Math.Path.{refl}
use Rattle.std.proofs.Common.{sym, ◌∙◌, arith, ne_eqb}
use Rattle.std.proofs.Math.Decide.{ℕ_discrete}
use Rattle.rules.specs.Words.{KO, LA, CA, VA, tag, field_a, has, is_term, form, hole, arguments}
use Rattle.rules.specs.Store.{Store}
use Rattle.rules.specs.Map.{Map, place_of}
use Rattle.rules.specs.Rewrite.{Writer, write_term}
use Rattle.laws.specs.Tests.{tag_is as tag_of}
use Rattle.laws.specs.Sound.{lambda_field, constant_head}
use Rattle.invariants.specs.Grow.{all_map}
use Rattle.invariants.specs.Forms.{form_6, form_7, form_8}
use Rattle.legal.specs.Stay.{tag_same, elements_same}
use Rattle.legal.specs.Reading.{term_tag, all_both, arguments_terms, few_arguments}
use Rattle.legal.specs.Scope.{Scopes, scope_level, lambda_scope, applied_scope, Part, part_on}
use Rattle.legal.specs.Sane.{legal, added, added_same, tag_is, a_is, b_is}
use Rattle.legal.specs.Added.{Root}
use Rattle.legal.proofs.Added.{lambda_added, constant_added, variable_added}
use Rattle.legal.specs.Ran.{Ran, ran_bind, ran_map, ran_fail, ran_push}
use Rattle.legal.specs.Places.{place-below}
use Rattle.legal.specs.Parts.{Wrote, WroteList, Small}
use Rattle.legal.proofs.Parts.{Source, Sources, Writes, WritesHole, all_ran}

form_other : (ws : List ℕ) (r : ℕ) → (tag ws r ≡ LA → ⊥) → (tag ws r ≡ CA → ⊥) → (tag ws r ≡ VA → ⊥) → form ws r ≡ hole
unfolding form has
form_other ws r a b c = rw (ne_eqb _ _ a, form, ne_eqb _ _ b, ne_eqb _ _ c)

-- a constant or variable over a list in scope is in scope
head-part : {R B k : ℕ} {s s₁ : Store} (t a l : ℕ) → WroteList R B k s s₁ l → s₁.used < R → 7 ≤ t → t ≤ 8 → (t ≡ VA → a < B) → Root s (added s₁ t a l) s₁.used
    → Part (added s₁ t a l) (B + (s₁.used + 1 - s.used)) B s₁.used
unfolding arguments
head-part {B = B} {s = s} {s₁} t a l w lt lo hi low r =
    let i = w.kept.sane in
    let g = w.kept.grown in
    let e = tag_is t a l i lt in
    let on = added_same t a l i lt in
    let els = elements_same s₁.words (added s₁ t a l).words s₁.used (legal i) on l (λ z. let q = w.chain.begins z in (q.0, q.1)) in
    let c = B + (s₁.used - s.used) in
    let c₁ = B + (s₁.used + 1 - s.used) in
    let parts = all_map (Part s₁ c B) (Scopes (added s₁ t a l).words c₁ B) (λ x p. (part_on {s₁ = added s₁ t a l} c c₁ B x (legal i) on (omega arith) (omega arith) p).scope) w.records w.parts in
    record {
      below = r.below;
      term = r.term;
      scope = applied_scope (added s₁ t a l).words c₁ B s₁.used (omega arith) (omega arith) (λ z. rw (a_is t a l i lt) (low (sym e ∙ z))) (rw (b_is t a l i lt, els, w.chain.is) parts);
    }

module _ (R : ℕ) (Fits : Map → ℕ → Type 0) (on_hole w : Writer) (at : WritesHole R Fits on_hole) (writes : Writes R Fits w) (m : Map) (d r : ℕ) (s : Store) where
  abbrev Says : Store → ℕ → Type 0
  Says s₁ x = (T b : ℕ) → Source R Fits m T b d r s → Small (T + d) s s₁ → Wrote R (T + d) s s₁ x

  lambda_wrote : (s₁ : Store) (y : ℕ) → s.used ≤ s₁.used → s₁.used < R → tag s.words r ≡ LA
      → ((T b : ℕ) → Source R Fits m T b (d + 1) (field_a s.words r) s → Small (T + (d + 1)) s s₁ → Wrote R (T + (d + 1)) s s₁ y) → Says (added s₁ LA y 0) s₁.used
  lambda_wrote s₁ y g lt e p T b i c =
      let a = lambda_field s.words s.used i.sane.sound r i.part.below e in
      let a₀ = a.0 in
      let lr = i.part.below in
      let z : b + d + 1 ≡ b + (d + 1) = omega arith in
      let inner : Part s i.cap (b + (d + 1)) (field_a s.words r) = record { below = omega arith; term = a.1; scope = rw z at ((scope_level s.words i.cap (b + d) r i.part.scope).body e) } in
      let w₁ = p T b (record { sane = i.sane; cap = i.cap; part = inner; leads = i.leads; fits = i.fits }) (omega arith) in
      let k = lambda_added w₁.kept lt y w₁.root in
      let i₁ = w₁.kept.sane in
      let B : T + (d + 1) ≡ T + d + 1 = omega arith in
      let c₁ = T + d + (s₁.used + 1 - s.used) in
      let body = (part_on {s₁ = added s₁ LA y 0} (T + (d + 1) + (s₁.used - s.used)) c₁ (T + (d + 1)) y (legal i₁) (added_same LA y 0 i₁ lt) (omega arith) (omega arith) w₁.part).scope in
      let scope = lambda_scope (added s₁ LA y 0).words c₁ (T + d) s₁.used (tag_is LA y 0 i₁ lt) (rw (a_is LA y 0 i₁ lt) (rw B at body)) in
      record { kept = k.0; root = k.1; part = record { below = k.1.below; term = k.1.term; scope = scope } }

  -- the arguments
  sources : (T b : ℕ) → Source R Fits m T b d r s → 7 ≤ tag s.words r → tag s.words r ≤ 8 → Sources R Fits m T b d (arguments s.words r) s
  sources T b i lo hi =
      let g = legal i.sane in
      let lr = i.part.below in
      record {
        sane = i.sane;
        cap = i.cap;
        parts = all_both (λ x. (x < r) × (is_term s.words x ≡ true)) (Scopes s.words i.cap (b + d)) (Part s i.cap (b + d)) (arguments s.words r)
            (λ x p h. let l = p.0 in record { below = omega arith; term = p.1; scope = h })
            (arguments_terms s.words s.used g r lr lo (omega arith)) ((scope_level s.words i.cap (b + d) r i.part.scope).parts lo hi);
        short = few_arguments s.words s.used g r lr lo (omega arith);
        leads = i.leads;
        fits = i.fits;
      }

  constant_wrote : (s₁ : Store) (l : ℕ) → s₁.used < R → s.used ≤ s₁.used → tag s.words r ≡ CA
      → ((T b : ℕ) → Sources R Fits m T b d (arguments s.words r) s → Small (T + d) s s₁ → WroteList R (T + d) (length (arguments s.words r)) s s₁ l)
      → Says (added s₁ CA (field_a s.words r) l) s₁.used
  constant_wrote s₁ l lt g e p T b i c =
      let v = p T b (sources T b i (omega arith) (omega arith)) (omega arith) in
      let a = constant_head s.words s.used i.sane.sound r i.part.below e in
      let a₀ = a.0 in
      let lr = i.part.below in
      let k = constant_added v.kept lt (field_a s.words r) l v.records (omega arith)
      (tag_same s.words s₁.words s.used (legal i.sane) v.kept.same (field_a s.words r) (omega arith) ∙ tag_of s.words (field_a s.words r) KO a.1) v.chain in
      record { kept = k.0; root = k.1; part = head-part CA (field_a s.words r) l v lt (omega arith) (omega arith) (λ z. absurd (omega arith)) k.1 }

  variable_wrote : (s₁ : Store) (x l : ℕ) → s₁.used < R → s.used ≤ s₁.used → tag s.words r ≡ VA → place_of m d (field_a s.words r) ≡ Some x
      → ((T b : ℕ) → Sources R Fits m T b d (arguments s.words r) s → Small (T + d) s s₁ → WroteList R (T + d) (length (arguments s.words r)) s s₁ l)
      → Says (added s₁ VA x l) s₁.used
  variable_wrote s₁ x l lt g e at p T b i c =
      let v = p T b (sources T b i (omega arith) (omega arith)) (omega arith) in
      let low = place-below m d T (field_a s.words r) x i.leads at in
      let k = variable_added v.kept lt x l v.records (omega arith) v.chain in
      record { kept = k.0; root = k.1; part = head-part VA x l v lt (omega arith) (omega arith) (λ z. low) k.1 }

  -- one level of a term
  pub term_ran : Ran R s Says (write_term on_hole w R s.words m d r s)
  unfolding write_term
  term_ran = go (ℕ_discrete (tag s.words r) LA) (ℕ_discrete (tag s.words r) CA) (ℕ_discrete (tag s.words r) VA) (place_of m d (field_a s.words r)) refl
    where
      at_hole : (tag s.words r ≡ LA → ⊥) → (tag s.words r ≡ CA → ⊥) → (tag s.words r ≡ VA → ⊥) → Ran R s Says (on_hole m d r s)
      at_hole e f g = ran_map R (at m d r s) (λ s₁ x b₁ p T b i c. let z = term_tag s.words r i.part.term in let z₀ = z.0 in let z₁ = z.1 in p T b i (omega arith) c)

      go : Dec (tag s.words r ≡ LA) → Dec (tag s.words r ≡ CA) → Dec (tag s.words r ≡ VA) → (p : Option ℕ) → place_of m d (field_a s.words r) ≡ p
          → Ran R s Says (write_term on_hole w R s.words m d r s)
      go (yes e) f g p q =
          rw (form_6 _ _ e, write_term)
          (ran_bind R _ (writes m (d + 1) (field_a s.words r) s) λ s₁ y b₁ o. ran_push R LA y 0 s₁ λ lt. lambda_wrote s₁ y b₁.grown lt e o)
      go (no e) (yes f) g p q =
          rw (form_7 _ _ f, write_term)
          (ran_bind R _ (all_ran R Fits w writes m d (arguments s.words r) s) λ s₁ l b₁ o. ran_push R CA (field_a s.words r) l s₁ λ lt. constant_wrote s₁ l lt b₁.grown f o)
      go (no e) (no f) (yes g) None q = rw (form_8 _ _ g, write_term, q) (ran_fail R _)
      go (no e) (no f) (yes g) (Some x) q =
          rw (form_8 _ _ g, write_term, q)
          (ran_bind R _ (all_ran R Fits w writes m d (arguments s.words r) s) λ s₁ l b₁ o. ran_push R VA x l s₁ λ lt. variable_wrote s₁ x l lt b₁.grown g q o)
      go (no e) (no f) (no g) p q = rw (form_other _ _ e f g, write_term) (at_hole e f g)
