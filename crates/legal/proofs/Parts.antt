-- What is asked of a writer of terms, and argument lists written term by term.
use Rattle.std.specs.Prelude.{ℕ, suc, ◌+◌, ◌-◌, ◌<◌, ◌≤◌, ◌≡◌, length}
use Rattle.std.proofs.Math.Path.{refl}
use mathlib.Core.List.{List, [], ◌∷◌}
use Rattle.std.proofs.Common.{arith, le_refl}
use Rattle.rules.specs.Words.{CE, HA, tag}
use Rattle.rules.specs.Store.{Store}
use Rattle.rules.specs.Map.{Map}
use Rattle.rules.specs.Rewrite.{Writer, write_all}
use Rattle.invariants.specs.Floor.{All}
use Rattle.invariants.specs.Grow.{all_map}
use Rattle.legal.specs.Cells.{some_terms}
use Rattle.legal.specs.Scope.{Part, part_on}
use Rattle.legal.specs.Sane.{Sane, legal, kept_refl, kept_trans, added, added_same}
use Rattle.legal.specs.Added.{no_chain, chain_since}
use Rattle.legal.proofs.Added.{root_kept, cell_added}
use Rattle.legal.specs.Ran.{Ran, ran_bind, ran_goes, ran_push}
use Rattle.legal.specs.Places.{Leads}
use Rattle.legal.specs.Parts.{Wrote, Small, WroteList}

module _ (R : ℕ) (Fits : Map → ℕ → Type 0) where
  -- what a writer asks at a map from b variables to T, under d lambdas
  pub record Source (m : Map) (T b d r : ℕ) (s : Store) : Type 0 where
    pub sane : Sane R s
    pub cap : ℕ
    pub part : Part s cap (b + d) r
    pub leads : Leads m T
    pub fits : Fits m b

  -- the same of a list of terms
  pub record Sources (m : Map) (T b d : ℕ) (xs : List ℕ) (s : Store) : Type 0 where
    pub sane : Sane R s
    pub cap : ℕ
    pub parts : All (Part s cap (b + d)) xs
    pub short : length xs ≤ 16
    pub leads : Leads m T
    pub fits : Fits m b

  -- a writer that keeps the store sane
  abbrev pub Writes : Writer → Type 0
  Writes w = (m : Map) (d r : ℕ) (s : Store) → Ran R s (λ s₁ x. (T b : ℕ) → Source m T b d r s → Small (T + d) s s₁ → Wrote R (T + d) s s₁ x) (w m d r s)

  -- the same at hole occurrences
  abbrev pub WritesHole : Writer → Type 0
  WritesHole w = (m : Map) (d r : ℕ) (s : Store) → Ran R s (λ s₁ x. (T b : ℕ) → Source m T b d r s → tag s.words r ≡ HA → Small (T + d) s s₁ → Wrote R (T + d) s s₁ x) (w m d r s)

  module _ (w : Writer) (writes : Writes w) (m : Map) (d : ℕ) where
    all_wrote : (T b x : ℕ) (xs : List ℕ) (s s₁ : Store) (y : ℕ) (s₂ : Store) (l : ℕ) → s.used ≤ s₁.used → s₁.used ≤ s₂.used → s₂.used < R
        → ((T b : ℕ) → Source m T b d x s → Small (T + d) s s₁ → Wrote R (T + d) s s₁ y)
        → ((T b : ℕ) → Sources m T b d xs s₁ → Small (T + d) s₁ s₂ → WroteList R (T + d) (length xs) s₁ s₂ l)
        → Sources m T b d (x ∷ xs) s → Small (T + d) s (added s₂ CE y l) → WroteList R (T + d) (suc (length xs)) s (added s₂ CE y l) s₂.used
    all_wrote T b x xs s s₁ y s₂ l g₁ g₂ lt p q i c =
        let w₁ = p T b (record { sane = i.sane; cap = i.cap; part = i.parts.0; leads = i.leads; fits = i.fits }) (omega arith) in
        let i₁ = w₁.kept.sane in
        let sh = i.short in
        let parts = all_map (Part s i.cap (b + d)) (Part s₁ i.cap (b + d)) (λ z h. part_on i.cap i.cap (b + d) z (legal i.sane) w₁.kept.same g₁ (le_refl _) h) xs i.parts.1 in
        let w₂ = q T b (record { sane = i₁; cap = i.cap; parts = parts; short = omega arith; leads = i.leads; fits = i.fits }) (omega arith) in
        let k₂ = kept_trans w₁.kept w₂.kept in
        let i₂ = k₂.sane in
        let r₂ = root_kept y i₁ w₂.kept w₁.root in
        let n = w₂.count in
        let z = cell_added k₂ lt some_terms y l w₂.records r₂.term r₂.below (chain_since g₁ w₂.chain) (λ t. r₂) (omega arith) in
        let on = added_same CE y l i₂ lt in
        let B = T + d in
        let c₁ = B + (s₁.used - s.used) in
        let p₂ : Part s₂ c₁ B y = part_on c₁ c₁ B y (legal i₁) w₂.kept.same g₂ (le_refl _) w₁.part in
        let c₂ = B + (s₂.used - s₁.used) in
        let c₃ = B + (s₂.used + 1 - s.used) in
        record {
          kept = z.0;
          records = y ∷ w₂.records;
          chain = z.1;
          parts = (
            part_on c₁ c₃ B y (legal i₂) on (omega arith) (omega arith) p₂,
            all_map (Part s₂ c₂ B) (Part (added s₂ CE y l) c₃ B) (λ x h. part_on c₂ c₃ B x (legal i₂) on (omega arith) (omega arith) h) w₂.records w₂.parts,
          );
          count = omega arith;
        }

    pub all_ran : (xs : List ℕ) (s : Store) → Ran R s (λ s₁ l. (T b : ℕ) → Sources m T b d xs s → Small (T + d) s s₁ → WroteList R (T + d) (length xs) s s₁ l) (write_all w R m d xs s)
    unfolding write_all
    all_ran [] s = ran_goes R (λ T b i c. record { kept = kept_refl i.sane; records = []; chain = no_chain some_terms s s; parts = tt; count = refl })
    all_ran (x ∷ xs) s =
        ran_bind R _ (writes m d x s) λ s₁ y b₁ p.
        ran_bind R _ (all_ran xs s₁) λ s₂ l b₂ q.
        ran_push R CE y l s₂ λ lt T b i c. all_wrote T b x xs s s₁ y s₂ l b₁.grown b₂.grown lt p q i c
