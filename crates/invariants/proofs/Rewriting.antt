-- The invariant is kept by a term written anew, and fuel suffices, whatever happens at a hole, as long as that is so there.
use Rattle.std.specs.Prelude.{ℕ, suc, ◌+◌, ◌<◌, ◌≤◌, ◌≡◌, length, Option, Some, None}
use Rattle.std.proofs.Math.Path.{refl}
use mathlib.Core.List.{List, [], ◌∷◌}
use Rattle.std.proofs.Common.{arith, le_refl}
use Rattle.std.proofs.Math.Decide.{ℕ_discrete}
use Rattle.rules.specs.Words.{NONE, tag, field_a, field_b, elements, arguments, CE, LA, CA, VA, HA}
use Rattle.rules.specs.Store.{Store, fail, ◌>>=◌, push}
use Rattle.rules.specs.Map.{Map, place_of}
use Rattle.rules.specs.Rewrite.{Writer, write_all, write_term}
use Rattle.invariants.specs.Forms.{form_6, form_7, form_8, form_9}
use Rattle.invariants.specs.Floor.{Sub, All, limit, Rule, Fine, Ext, Grows}
use Rattle.invariants.specs.Outside.{fine_stopped}
use Rattle.invariants.specs.Grow.{all_map, sub_less, sub-kept}
use Rattle.invariants.specs.Push.{bind_grows}
use Rattle.invariants.specs.Write.{Written, WrittenList, none_written, same_off, grows_since, stays}
use Rattle.invariants.proofs.Write.{push-head, push_lam, push_cell}
use Rattle.invariants.specs.Places.{Low, place_low}

-- a writer that bars these holes, and writes terms whose homes are from b on, whose roots are not older than lo, and whose variables are at most `most`.
-- `Left k r home` says that at record r no more than k calls stand one inside another; it falls towards a part
module _ (barred : ℕ → Type 0) (R n b lo most : ℕ) (Left : ℕ → ℕ → (ℕ → ℕ) → Type 0) where
  -- what a writer asks, at a map, a depth and a record
  pub record Ready (m : Map) (d r : ℕ) (s : Store) (home : ℕ → ℕ) (k : ℕ) : Type 0 where
    pub fine : Fine R n home s
    pub from : b ≤ s.used
    pub since : lo ≤ s.used
    pub sub : Sub s.words home 0 s.used r
    pub top : ℕ
    pub low : Low m top
    pub fits : top + d + k ≤ most
    pub left : Left k r home

  -- with so much fuel the writer keeps the invariant
  abbrev pub Keeps : ℕ → Writer → Type 0
  Keeps f w = (m : Map) (d r : ℕ) (s : Store) (home : ℕ → ℕ) (k : ℕ) → k ≤ f → Ready m d r s home k → Grows barred (Written b lo) R n home s (w m d r s)

  -- the same at hole occurrences
  abbrev pub KeepsHole : ℕ → Writer → Type 0
  KeepsHole f w =
      (m : Map) (d r : ℕ) (s : Store) (home : ℕ → ℕ) (k : ℕ) → k ≤ suc f → Ready m d r s home k → tag s.words r ≡ HA → Grows barred (Written b lo) R n home s (w m d r s)

  -- a part: fewer calls are left there
  pub record Part (k : ℕ) (s : Store) (home : ℕ → ℕ) (x : ℕ) : Type 0 where
    pub sub : Sub s.words home 0 s.used x
    pub less : ℕ
    pub fewer : less < k
    pub left : Left less x home

  module _ (stays_left : (k r : ℕ) (home home₁ : ℕ → ℕ) → home₁ r ≡ home r → Left k r home → Left k r home₁) (f : ℕ) (w : Writer) (keeps : Keeps f w) (m : Map) (d T k : ℕ) (low : Low m T) (fits : T + d + k ≤ most)
      (fuel : k ≤ suc f) where
    part-kept : (s : Store) (home : ℕ → ℕ) (s₁ : Store) (home₁ : ℕ → ℕ) (x : ℕ) → Ext barred home s home₁ s₁ → Part k s home x → Part k s₁ home₁ x
    part-kept s home s₁ home₁ x e p =
        record {
          sub = sub-kept barred R n home s home₁ s₁ 0 s.used s₁.used x e (le_refl _) e.grown p.sub;
          less = p.less;
          fewer = p.fewer;
          left = stays_left p.less x home home₁ (e.labels x p.sub.below) p.left;
        }

    part_grows : (s : Store) (home : ℕ → ℕ) (x : ℕ) → Fine R n home s → b ≤ s.used → lo ≤ s.used → Part k s home x → Grows barred (Written b lo) R n home s (w m d x s)
    part_grows s home x fi le since p =
        keeps m d x s home p.less (omega arith) (record { fine = fi; from = le; since = since; sub = p.sub; top = T; low = low; fits = omega arith; left = p.left })

    all_grow : (xs : List ℕ) (s : Store) (home : ℕ → ℕ) → Fine R n home s → b ≤ s.used → lo ≤ s.used → All (Part k s home) xs
        → Grows barred (WrittenList b (length xs)) R n home s (write_all w R m d xs s)
    unfolding write_all
    all_grow [] s home fi le since h = stays barred (WrittenList b 0) R n home s NONE fi (none_written b home s)
    all_grow (x ∷ xs) s home fi le since h =
        bind_grows barred (Written b lo) (WrittenList b (suc (length xs))) R n home s (w m d x s) _ (part_grows s home x fi le since h.0)
        λ home₁ s₁ y e₁ f₁ p₁.
        bind_grows barred (WrittenList b (length xs)) (WrittenList b (suc (length xs))) R n home₁ s₁ (write_all w R m d xs s₁) _
        (all_grow xs s₁ home₁ f₁ (omega arith) (omega arith) (all_map (Part k s home) (Part k s₁ home₁) (λ z q. part-kept s home s₁ home₁ z e₁ q) xs h.1))
        λ home₂ s₂ ys e₂ f₂ p₂. let g₂ = e₂.grown in
        same_off barred (WrittenList b (suc (length xs))) R n home₂ s₂ (push R CE y ys s₂) s₂.solutions
        (push_cell barred R n b home₂ s₂ f₂ (omega arith) y ys (length xs) (sub-kept barred R n home₁ s₁ home₂ s₂ b s₁.used s₂.used y e₂ (le_refl _) g₂ p₁.sub) p₂)

    -- a head over arguments, no hole
    head_grows : (t a : ℕ) (xs : List ℕ) (s : Store) (home : ℕ → ℕ) → Fine R n home s → b ≤ s.used → lo ≤ s.used → All (Part k s home) xs → length xs ≤ 16 → a ≤ limit s.used
        → 7 ≤ t → t ≤ 8 → Grows barred (Written b lo) R n home s (write_all w R m d xs s >>= (λ q. push R t a q.1 q.0))
    head_grows t a xs s home fi le since h few al lt ht =
        bind_grows barred (WrittenList b (length xs)) (Written b lo) R n home s (write_all w R m d xs s) _ (all_grow xs s home fi le since h)
        λ home₁ s₁ x e₁ f₁ p₁.
        same_off barred (Written b lo) R n home₁ s₁ (push R t a x s₁) s₁.solutions
        (grows_since barred R n b s₁.used lo home₁ s₁ (push R t a x s₁) s₁.solutions (omega arith)
        (push-head barred R n b home₁ s₁ f₁ (omega arith) t a x lt ht (omega arith) p₁.args (omega arith)))

    lambda_grows : (x : ℕ) (s : Store) (home : ℕ → ℕ) → Grows barred (Written b lo) R n home s (w m (d + 1) x s) → b ≤ s.used → lo ≤ s.used
        → Grows barred (Written b lo) R n home s (w m (d + 1) x s >>= (λ q. push R LA q.1 0 q.0))
    lambda_grows x s home g le since =
        bind_grows barred (Written b lo) (Written b lo) R n home s (w m (d + 1) x s) _ g
        λ home₁ s₁ y e₁ f₁ p₁.
        same_off barred (Written b lo) R n home₁ s₁ (push R LA y 0 s₁) s₁.solutions
        (grows_since barred R n b s₁.used lo home₁ s₁ (push R LA y 0 s₁) s₁.solutions (omega arith) (push_lam barred R n b home₁ s₁ f₁ (omega arith) y p₁.sub))

  -- one level of a term
  module _ (stays_left : (k r : ℕ) (home home₁ : ℕ → ℕ) → home₁ r ≡ home r → Left k r home → Left k r home₁)
      (to_part : (k r x : ℕ) (home : ℕ → ℕ) → x < r → home r ≤ home x → Left k r home → (less : ℕ) × (less < k) × Left less x home) (small : most ≤ limit lo) (f : ℕ) (on_hole w : Writer)
      (at : KeepsHole f on_hole) (keeps : Keeps f w) where
    pub term_grows : (m : Map) (d r : ℕ) (s : Store) (home : ℕ → ℕ) (k : ℕ) → k ≤ suc f → Ready m d r s home k → Grows barred (Written b lo) R n home s (write_term on_hole w R s.words m d r s)
    unfolding write_term arguments fail
    term_grows m d r s home k fuel h =
        go (ℕ_discrete (tag s.words r) LA) (ℕ_discrete (tag s.words r) CA) (ℕ_discrete (tag s.words r) VA) (place_of m d (field_a s.words r)) refl
      where
        rule : Rule s.words home r
        rule = h.fine.good r h.sub.below

        part : (x : ℕ) → Sub s.words home (home r) r x → Part k s home x
        part x p =
            let q = to_part k r x home p.below p.up h.left in
            record { sub = sub_less s.words home (home r) 0 r s.used x p (omega arith) (omega arith); less = q.0; fewer = q.1; left = q.2 }

        args : (7 ≤ tag s.words r) → All (Part k s home) (elements s.words (field_b s.words r))
        args lt = all_map (Sub s.words home (home r) r) (Part k s home) part (elements s.words (field_b s.words r)) (rule.app lt h.sub.term.high).all

        -- a head that is no hole, over the arguments
        headed : (t a : ℕ) → 7 ≤ tag s.words r → a ≤ limit s.used → 7 ≤ t → t ≤ 8
            → Grows barred (Written b lo) R n home s (write_all w R m d (elements s.words (field_b s.words r)) s >>= (λ q. push R t a q.1 q.0))
        headed t a lt al ht th =
            head_grows stays_left f w keeps m d h.top k h.low h.fits fuel t a (elements s.words (field_b s.words r)) s home h.fine h.from h.since (args lt) (rule.few lt h.sub.term.high) al ht th

        go : Dec (tag s.words r ≡ LA) → Dec (tag s.words r ≡ CA) → Dec (tag s.words r ≡ VA) → (p : Option ℕ) → place_of m d (field_a s.words r) ≡ p
            → Grows barred (Written b lo) R n home s (write_term on_hole w R s.words m d r s)
        go (yes t) c e p q =
            let x = part (field_a s.words r) (rule.lam t) in
            let lt = x.fewer in
            let fi = h.fits in
            rw (form_6 _ _ t, write_term)
            (lambda_grows stays_left f w keeps m d h.top k h.low h.fits fuel (field_a s.words r) s home
            (keeps m (d + 1) (field_a s.words r) s home x.less (omega arith) (record { fine = h.fine; from = h.from; since = h.since; sub = x.sub; top = h.top; low = h.low; fits = omega arith; left = x.left })) h.from h.since)
        go (no t) (yes c) e p q =
            let a = rule.low (omega arith) (omega arith) in
            let lt = h.sub.below in
            rw (form_7 _ _ c, write_term) (headed CA (field_a s.words r) (omega arith) (omega arith) (omega arith) (omega arith))
        go (no t) (no c) (yes e) None q = rw (form_8 _ _ e, write_term, q) (fine_stopped R n home s h.fine)
        go (no t) (no c) (yes e) (Some v) q =
            let a = place_low m d h.top (field_a s.words r) v h.low q in
            let fi = h.fits in
            let si = h.since in
            rw (form_8 _ _ e, write_term, q) (headed VA v (omega arith) (omega arith) (omega arith) (omega arith))
        go (no t) (no c) (no e) p q =
            let l = h.sub.term.low in
            let hi = h.sub.term.high in
            let z : tag s.words r ≡ HA = omega arith in
            rw (form_9 _ _ z, write_term) (at m d r s home k fuel h z)
