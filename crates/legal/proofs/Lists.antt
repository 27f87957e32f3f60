-- Contexts, lists of bare variables and hole occurrences, as they are written.
use Rattle.std.specs.Prelude.{ℕ, ◌<◌, ◌≤◌, ◌≡◌, refl, List, [], ◌∷◌, map, true, length}
use Rattle.std.proofs.Common.{ap, ap₂, ◌∙◌, arith, le_refl}
use Rattle.std.proofs.lemmas.List.{length-map}
use Rattle.rules.specs.Words.{NONE, HO, CE, VA, HA, tag, field_a, is_type, is_term, arguments, variables}
use Rattle.rules.specs.Store.{Store, push, push_cells, push_variables, push_occurrence}
use Rattle.laws.specs.Sound.{type_term, follows_term}
use Rattle.laws.specs.Members.{every_so, map_same, elements_every}
use Rattle.invariants.specs.Floor.{All}
use Rattle.promise.specs.Reading.{Same}
use Rattle.legal.specs.Stay.{tag_same, a_same, type_same, elements_same}
use Rattle.legal.specs.Cells.{some_types, some_terms}
use Rattle.legal.specs.Sane.{Sane, legal, Kept, kept_refl, kept_trans, added, added_same, tag_is, a_is, b_is}
use Rattle.legal.specs.Added.{Root, Chain, no_chain, chain_since}
use Rattle.legal.proofs.Added.{root_kept, variable_added, occurrence-added, cell_added}
use Rattle.legal.specs.Ran.{Ran, ran_bind, ran_goes, ran_push}

-- cells for types
pub cells_ran : (R : ℕ) (xs : List ℕ) (s : Store)
    → Ran R s (λ s₁ l. Sane R s → All (λ x. (x < s.used) × (is_type s.words x ≡ true)) xs → length xs ≤ 16 → Kept R s s₁ × Chain some_types s s₁ l xs) (push_cells R xs s)
unfolding push_cells
cells_ran R [] s = ran_goes R (λ i h f. (kept_refl i, no_chain some_types s s))
cells_ran R (x ∷ xs) s =
    ran_bind R _ (cells_ran R xs s) λ s₁ l b p.
    ran_push R CE x l s₁ λ lt i h f.
    let q = p i h.1 (omega arith) in
    let k = q.0 in
    let g = k.grown in
    let low = h.0.0 in
    let t : is_type s₁.words x ≡ true = rw (type_same s.words s₁.words s.used (legal i) k.same x low) h.0.1 in
    cell_added k lt some_types x l xs t (omega arith) q.1 (λ z. absurd (type_term s₁.words x t z)) (omega arith)

-- the first words of the records of a list stay
map-kept : {R : ℕ} {s₀ s : Store} (ws₁ : List ℕ) (l : ℕ) (xs vs : List ℕ) → Sane R s → Same s.used s.words ws₁ → Chain some_terms s₀ s l xs → map (λ x. field_a s.words x) xs ≡ vs
    → map (λ x. field_a ws₁ x) xs ≡ vs
map-kept {s = s} ws₁ l xs vs i k c e =
    let low = elements_every s.words s.used i.sound (is_term s.words) (follows_term s.words s.used i.sound) s.used l (le_refl _) c.begins in
    map_same (λ x. field_a ws₁ x) (λ x. field_a s.words x) xs
    (every_so (λ x. (x < s.used) × (is_term s.words x ≡ true)) (λ x. field_a ws₁ x ≡ field_a s.words x) xs (λ x p. a_same s.words ws₁ s.used (legal i) k x p.0) (rw c.is at low))
    ∙ e

-- a list of bare variables of these numbers
record Named (R : ℕ) (s s₁ : Store) (l : ℕ) (vs : List ℕ) : Type 0 where
  kept : Kept R s s₁
  records : List ℕ
  chain : Chain some_terms s s₁ l records
  names : map (λ x. field_a s₁.words x) records ≡ vs

variables_ran : (R : ℕ) (vs : List ℕ) (s : Store) → Ran R s (λ s₁ l. Sane R s → All (λ v. v < 4096) vs → length vs ≤ 16 → Named R s s₁ l vs) (push_variables R vs s)
unfolding push_variables
variables_ran R [] s = ran_goes R (λ i h f. record { kept = kept_refl i; records = []; chain = no_chain some_terms s s; names = refl })
variables_ran R (v ∷ vs) s =
    ran_bind R _ first λ s₁ x b p.
    ran_bind R _ (variables_ran R vs s₁) λ s₂ l c q.
    ran_push R CE x l s₂ λ lt i h f. written s₁ x p s₂ l q lt i h f
  where
    Pushed : Store → ℕ → Type 0
    Pushed s₁ x = (x ≡ s.used) × (s₁ ≡ added s VA v NONE) × (s.used < R)

    first : Ran R s Pushed (push R VA v NONE s)
    first = ran_push R VA v NONE s (λ lt. (refl, refl, lt))

    written : (s₁ : Store) (x : ℕ) → Pushed s₁ x → (s₂ : Store) (l : ℕ) → (Sane R s₁ → All (λ v. v < 4096) vs → length vs ≤ 16 → Named R s₁ s₂ l vs)
        → s₂.used < R → Sane R s → All (λ v. v < 4096) (v ∷ vs) → length (v ∷ vs) ≤ 16 → Named R s (added s₂ CE x l) s₂.used (v ∷ vs)
    written s₁ x p s₂ l q lt i h f =
        let w = variable_added (kept_refl i) p.2 v NONE [] h.0 (no_chain some_terms s s) in
        let k₁ : Kept R s s₁ = rw p.1 w.0 in
        let r₁ : Root s s₁ x = rw (p.1, p.0) w.1 in
        let d = q k₁.sane h.1 (omega arith) in
        let k₂ = kept_trans k₁ d.kept in
        let r₂ = root_kept x k₁.sane d.kept r₁ in
        let e : length d.records ≡ length vs = simp length-map at (ap length d.names) in
        let z = cell_added k₂ lt some_terms x l d.records r₂.term r₂.below (chain_since k₁.grown d.chain) (λ t. r₂) (omega arith) in
        let on = added_same CE x l k₂.sane lt in
        let a₁ : field_a s₁.words x ≡ v = rw (p.1, p.0) (a_is VA v NONE i p.2) in
        let a₂ = a_same s₁.words s₂.words s₁.used (legal k₁.sane) d.kept.same x r₁.below in
        let a₃ = a_same s₂.words (added s₂ CE x l).words s₂.used (legal k₂.sane) on x r₂.below in
        record { kept = z.0; records = x ∷ d.records; chain = z.1; names = ap₂ ◌∷◌ (a₃ ∙ a₂ ∙ a₁) (map-kept (added s₂ CE x l).words l d.records vs k₂.sane on d.chain d.names) }

-- a hole applied to these variables
pub record Occurrence (R : ℕ) (s s₁ : Store) (h x : ℕ) (vs : List ℕ) : Type 0 where
  pub kept : Kept R s s₁
  pub root : Root s s₁ x
  pub is : tag s₁.words x ≡ HA
  pub head : field_a s₁.words x ≡ h
  pub names : variables s₁.words x ≡ vs

pub occurrence_ran : (R h : ℕ) (vs : List ℕ) (s : Store)
    → Ran R s (λ s₁ x. Sane R s → h < s.used → tag s.words h ≡ HO → All (λ v. v < 4096) vs → length vs ≤ 16 → Occurrence R s s₁ h x vs) (push_occurrence R h vs s)
unfolding push_occurrence variables arguments
occurrence_ran R h vs s =
    ran_bind R _ (variables_ran R vs s) λ s₁ l b p.
    ran_push R HA h l s₁ λ lt i low four small f.
    let d = p i small f in
    let g = d.kept.grown in
    let k = d.kept.sane in
    let w = occurrence-added d.kept lt h l d.records (omega arith) (tag_same s.words s₁.words s.used (legal i) d.kept.same h low ∙ four) d.chain in
    let on = added_same HA h l k lt in
    let els = elements_same s₁.words (added s₁ HA h l).words s₁.used (legal k) on l (λ z. let q = d.chain.begins z in (q.0, q.1)) in
    record {
      kept = w.0;
      root = w.1;
      is = tag_is HA h l k lt;
      head = a_is HA h l k lt;
      names = rw (b_is HA h l k lt, els, d.chain.is) (map-kept (added s₁ HA h l).words l d.records vs k on d.chain d.names);
    }
