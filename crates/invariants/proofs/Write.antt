-- The invariant is kept by lists and terms that are appended.
use Rattle.std.specs.Prelude.{ℕ, suc, ◌<◌, ◌≤◌, ◌≡◌, refl, List, [], ◌∷◌, length, get_or}
use Rattle.std.proofs.Common.{sym, ap, ◌∙◌, subst, arith, le_refl}
use Rattle.rules.specs.Words.{NONE, tag, field_a, field_b, elements, CE, VA, HA, HO}
use Rattle.rules.specs.Store.{Store, Out, push, push_cells, push_variables, push_occurrence}
use Rattle.laws.specs.Lists.{elements_cell}
use Rattle.invariants.specs.Floor.{Sub, All, Args, limit, Rule, Fine, Ext, Grows}
use Rattle.invariants.specs.Grow.{listed_of, all_map, tag-kept, sub-kept, list_kept, args_below, args_kept}
use Rattle.invariants.specs.Push.{Pushed, new_rule, bind_grows, map_grows}
use Rattle.invariants.proofs.Push.{push_grows}
use Rattle.invariants.specs.Write.{Same, Written, WrittenList, none_written, stays, grows_since, Chain}

module _ (barred : ℕ → Type 0) (R n b : ℕ) (home : ℕ → ℕ) (s : Store) (f : Fine R n home s) (le : b ≤ s.used) where
  pushing : (Q : (ℕ → ℕ) → Store → ℕ → Type 0) (t a c : ℕ) → 1 ≤ t → (t ≡ 9 → barred a → ⊥) → (t ≡ 9 → 1 ≤ b → get_or s.solutions a NONE ≡ NONE)
      → ((home₁ : ℕ → ℕ) (s₁ : Store) → Ext barred home s home₁ s₁ → Pushed t a c b s.used s.solutions home₁ s₁ s.used → Rule s₁.words home₁ s.used)
      → ((home₁ : ℕ → ℕ) (s₁ : Store) → Ext barred home s home₁ s₁ → Fine R n home₁ s₁ → Pushed t a c b s.used s.solutions home₁ s₁ s.used → Q home₁ s₁ s.used)
      → Grows barred Q R n home s (push R t a c s)
  pushing Q t a c some bar free new fin =
      map_grows barred (Pushed t a c b s.used s.solutions) Q R n home s (push R t a c s) (push_grows barred R n t a c b home s f le some bar free new)
      λ home₁ s₁ x e f₁ p. subst (λ (y : ℕ). Q home₁ s₁ y) (sym p.is) (fin home₁ s₁ e f₁ (record { is = refl; next = p.next; sols = p.sols; label = p.label; tag_is = p.tag_is; a_is = p.a_is; b_is = p.b_is }))

  -- a head over a list, no hole
  pub push-head : (t a c : ℕ) → 7 ≤ t → t ≤ 8 → a ≤ limit s.used → Args s.words home b s.used c → length (elements s.words c) ≤ 16
      → Grows barred (Same s.solutions (Written b s.used)) R n home s (push R t a c s)
  push-head t a c lo hi low g few =
      pushing (Same s.solutions (Written b s.used)) t a c (omega arith) (λ z. absurd (omega arith)) (λ z o. absurd (omega arith))
      (λ home₁ s₁ e p. new_rule t a c b s.used s.solutions home₁ s₁ p le (λ i j. low)
      (λ z. absurd (omega arith)) (λ i j. (args_below barred R n home s home₁ s₁ b s.used s.used c f e (le_refl _) (le_refl _) g, rw (list_kept barred R n home s home₁ s₁ c f e g.here) few))
      (λ z. absurd (omega arith)) (λ z. absurd (omega arith)) (λ z. absurd (omega arith)))
      (λ home₁ s₁ e f₁ p.
      ((record { sub = record { below = omega arith; term = record { low = omega arith; high = omega arith }; up = omega arith }; new = le_refl _ }), p.sols))

  pub push_lam : (a : ℕ) → Sub s.words home b s.used a → Grows barred (Same s.solutions (Written b s.used)) R n home s (push R 6 a 0 s)
  push_lam a g =
      pushing (Same s.solutions (Written b s.used)) 6 a 0 (omega arith) (λ z. absurd (omega arith)) (λ z o. absurd (omega arith))
      (λ home₁ s₁ e p. new_rule 6 a 0 b s.used s.solutions home₁ s₁ p le (λ i j. omega arith)
      (λ z. sub-kept barred R n home s home₁ s₁ b s.used s.used a e (le_refl _) (le_refl _) g) (λ i j. absurd (omega arith))
      (λ z. absurd (omega arith)) (λ z. absurd (omega arith)) (λ z. absurd (omega arith)))
      (λ home₁ s₁ e f₁ p.
      ((record { sub = record { below = omega arith; term = record { low = omega arith; high = omega arith }; up = omega arith }; new = le_refl _ }), p.sols))

  pub push_occ : (a c : ℕ) → (barred a → ⊥) → (1 ≤ b → get_or s.solutions a NONE ≡ NONE) → a < s.used → tag s.words a ≡ HO → Args s.words home b s.used c → length (elements s.words c) ≤ 16
      → Grows barred (Same s.solutions (Written b s.used)) R n home s (push R 9 a c s)
  push_occ a c bar free lt four g few =
      pushing (Same s.solutions (Written b s.used)) 9 a c (omega arith) (λ z. bar) (λ z o. free o)
      (λ home₁ s₁ e p. new_rule 9 a c b s.used s.solutions home₁ s₁ p le (λ i j. omega arith)
      (λ z. absurd (omega arith)) (λ i j. (args_below barred R n home s home₁ s₁ b s.used s.used c f e (le_refl _) (le_refl _) g, rw (list_kept barred R n home s home₁ s₁ c f e g.here) few))
      (λ z. (lt, tag-kept barred R n home s home₁ s₁ a e lt ∙ four)) (λ z. absurd (omega arith)) (λ z. absurd (omega arith)))
      (λ home₁ s₁ e f₁ p.
      ((record { sub = record { below = omega arith; term = record { low = omega arith; high = omega arith }; up = omega arith }; new = le_refl _ }), p.sols))

  pub push_cell : (a c k : ℕ) → Sub s.words home b s.used a → WrittenList b k home s c → Grows barred (Same s.solutions (WrittenList b (suc k))) R n home s (push R 5 a c s)
  push_cell a c k g l =
      pushing (Same s.solutions (WrittenList b (suc k))) 5 a c (omega arith) (λ z. absurd (omega arith)) (λ z o. absurd (omega arith))
      (λ home₁ s₁ e p. new_rule 5 a c b s.used s.solutions home₁ s₁ p le (λ i j. absurd (omega arith))
      (λ z. absurd (omega arith)) (λ i j. absurd (omega arith)) (λ z. absurd (omega arith))
      (λ z. (g.below, λ q. let h = l.args.here q in let h₀ = h.0 in (h₀, tag-kept barred R n home s home₁ s₁ c e h₀ ∙ h.1))) (λ z. absurd (omega arith)))
      (λ home₁ s₁ e f₁ p.
      let real : s.used ≡ NONE → ⊥ = omega arith in
      let here : (s.used ≡ NONE → ⊥) → (s.used < s₁.used) × (tag s₁.words s.used ≡ CE) = λ q. (omega arith, p.tag_is) in
      let el : elements s₁.words s.used ≡ field_a s₁.words s.used ∷ elements s₁.words (field_b s₁.words s.used) = elements_cell s₁.words s.used real (listed_of R n home₁ s₁ s.used f₁ here) in
      let kc = list_kept barred R n home s home₁ s₁ c f e l.args.here in
      let el₁ : elements s₁.words s.used ≡ a ∷ elements s.words c = el ∙ rw (p.a_is, p.b_is, kc) in
      let ac = args_kept barred R n home s home₁ s₁ b c f e l.args in
      let al : All (Sub s₁.words home₁ b s₁.used) (elements s.words c) = rw kc at ac.all in
      let cn = l.count in (
        (record {
          args = record { here = here; all = rw el₁ (sub-kept barred R n home s home₁ s₁ b s.used s₁.used a e (le_refl _) e.grown g, al) };
          count = rw el₁ (ap suc cn);
        }),
        p.sols,
      ))

  -- cells of a context
  pub push-context : (a c : ℕ) → a < s.used → ((c ≡ NONE → ⊥) → (c < s.used) × (tag s.words c ≡ CE))
      → Grows barred (Same s.solutions (λ home₁ s₁ x. (x ≡ NONE → ⊥) → (x < s₁.used) × (tag s₁.words x ≡ CE))) R n home s (push R 5 a c s)
  push-context a c g l =
      pushing (Same s.solutions (λ home₁ s₁ x. (x ≡ NONE → ⊥) → (x < s₁.used) × (tag s₁.words x ≡ CE))) 5 a c (omega arith) (λ z. absurd (omega arith)) (λ z o. absurd (omega arith))
      (λ home₁ s₁ e p. new_rule 5 a c b s.used s.solutions home₁ s₁ p le (λ i j. absurd (omega arith))
      (λ z. absurd (omega arith)) (λ i j. absurd (omega arith)) (λ z. absurd (omega arith))
      (λ z. (g, λ q. let h = l q in let h₀ = h.0 in (h₀, tag-kept barred R n home s home₁ s₁ c e h₀ ∙ h.1))) (λ z. absurd (omega arith)))
      (λ home₁ s₁ e f₁ p. (λ q. (omega arith, p.tag_is), p.sols))

  pub push_hole : (a c : ℕ) → ((a ≡ NONE → ⊥) → (a < s.used) × (tag s.words a ≡ CE))
      → Grows barred (Same s.solutions (λ home₁ s₁ x. (x ≡ s.used) × (x < s₁.used) × (tag s₁.words x ≡ HO))) R n home s (push R 4 a c s)
  push_hole a c l =
      pushing (Same s.solutions (λ home₁ s₁ x. (x ≡ s.used) × (x < s₁.used) × (tag s₁.words x ≡ HO))) 4 a c (omega arith) (λ z. absurd (omega arith)) (λ z o. absurd (omega arith))
      (λ home₁ s₁ e p. new_rule 4 a c b s.used s.solutions home₁ s₁ p le (λ i j. absurd (omega arith))
      (λ z. absurd (omega arith)) (λ i j. absurd (omega arith)) (λ z. absurd (omega arith)) (λ z. absurd (omega arith))
      (λ z q. let h = l q in let h₀ = h.0 in (h₀, tag-kept barred R n home s home₁ s₁ a e h₀ ∙ h.1)))
      (λ home₁ s₁ e f₁ p. ((refl, omega arith, p.tag_is), p.sols))

same_to : (barred : ℕ → Type 0) (Q : (ℕ → ℕ) → Store → ℕ → Type 0) (R n : ℕ) (home : ℕ → ℕ) (s : Store) (o : Out ℕ) (ss ss₁ : List ℕ) → ss₁ ≡ ss
    → Grows barred (Same ss₁ Q) R n home s o → Grows barred (Same ss Q) R n home s o
same_to barred Q R n home s o ss ss₁ e g = subst (λ (z : List ℕ). Grows barred (Same z Q) R n home s o) e g

variables_grow : (barred : ℕ → Type 0) (R n b : ℕ) (vs : List ℕ) (home : ℕ → ℕ) (s : Store) → Fine R n home s → b ≤ s.used → All (λ v. v ≤ limit s.used) vs
    → Grows barred (Same s.solutions (WrittenList b (length vs))) R n home s (push_variables R vs s)
unfolding push_variables
variables_grow barred R n b [] home s f le low = stays barred (Same s.solutions (WrittenList b 0)) R n home s NONE f (none_written b home s, refl)
variables_grow barred R n b (v ∷ vs) home s f le low =
    bind_grows barred (Same s.solutions (Written b s.used)) (Same s.solutions (WrittenList b (suc (length vs)))) R n home s (push R VA v NONE s) _
    (push-head barred R n b home s f le 8 v NONE (omega arith) (omega arith) low.0 (none_written b home s).args (let c = (none_written b home s).count in omega arith))
    λ home₁ s₁ x e₁ f₁ p₁. let g₁ = e₁.grown in
    bind_grows barred (Same s₁.solutions (WrittenList b (length vs))) (Same s.solutions (WrittenList b (suc (length vs)))) R n home₁ s₁ (push_variables R vs s₁) _
    (variables_grow barred R n b vs home₁ s₁ f₁ (omega arith) (all_map (λ v. v ≤ limit s.used) (λ v. v ≤ limit s₁.used) (λ v q. omega arith) vs low.1))
    λ home₂ s₂ y e₂ f₂ p₂. let g₂ = e₂.grown in
    same_to barred (WrittenList b (suc (length vs))) R n home₂ s₂ (push R CE x y s₂) s.solutions s₂.solutions (p₂.1 ∙ p₁.1)
    (push_cell barred R n b home₂ s₂ f₂ (omega arith) x y (length vs) (sub-kept barred R n home₁ s₁ home₂ s₂ b s₁.used s₂.used x e₂ (le_refl _) g₂ p₁.0.sub) p₂.0)

pub occurrence_grows : (barred : ℕ → Type 0) (R n b h : ℕ) (vs : List ℕ) (home : ℕ → ℕ) (s : Store) → Fine R n home s → b ≤ s.used
    → (barred h → ⊥) → (1 ≤ b → get_or s.solutions h NONE ≡ NONE) → h < s.used → tag s.words h ≡ HO → length vs ≤ 16 → All (λ v. v ≤ limit s.used) vs
    → Grows barred (Same s.solutions (Written b s.used)) R n home s (push_occurrence R h vs s)
unfolding push_occurrence
occurrence_grows barred R n b h vs home s f le bar free lt four few low =
    bind_grows barred (Same s.solutions (WrittenList b (length vs))) (Same s.solutions (Written b s.used)) R n home s (push_variables R vs s) _
    (variables_grow barred R n b vs home s f le low)
    λ home₁ s₁ x e₁ f₁ p₁. let g₁ = e₁.grown in let sl = p₁.1 in
    same_to barred (Written b s.used) R n home₁ s₁ (push R HA h x s₁) s.solutions s₁.solutions p₁.1
    (grows_since barred R n b s₁.used s.used home₁ s₁ (push R HA h x s₁) s₁.solutions g₁ (push_occ barred R n b home₁ s₁ f₁ (omega arith) h x bar (rw sl free) (omega arith) (tag-kept barred R n home s home₁ s₁ h e₁ lt ∙ four) p₁.0.args (omega arith)))

pub cells_grow : (barred : ℕ → Type 0) (R n : ℕ) (xs : List ℕ) (home : ℕ → ℕ) (s : Store) → Fine R n home s → All (λ y. y < s.used) xs
    → Grows barred (Same s.solutions Chain) R n home s (push_cells R xs s)
unfolding push_cells
cells_grow barred R n [] home s f h = stays barred (Same s.solutions Chain) R n home s NONE f (λ q. absurd (q refl), refl)
cells_grow barred R n (x ∷ xs) home s f h =
    bind_grows barred (Same s.solutions Chain) (Same s.solutions Chain) R n home s (push_cells R xs s) _
    (cells_grow barred R n xs home s f h.1)
    λ home₁ s₁ y e₁ f₁ p₁.
    same_to barred Chain R n home₁ s₁ (push R CE x y s₁) s.solutions s₁.solutions p₁.1
    (push-context barred R n 0 home₁ s₁ f₁ (omega arith) x y (omega arith) p₁.0)
