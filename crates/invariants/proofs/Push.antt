-- The invariant is kept by what is appended.
use Rattle.std.specs.Prelude.{ℕ, ◌+◌, ◌*◌, ◌<◌, ◌≤◌, ◌≡◌, refl, true, false, get_or, eqb}
use Rattle.std.proofs.Common.{sym, ◌∙◌, subst, lt-ltb, le-ltb, eq-eqb, ne_eqb}
use native.Mathlib.Omega.{arith}
use Rattle.std.proofs.Math.Decide.{dec_lt}
use Rattle.std.proofs.Math.ListN.{length}
use Rattle.rules.specs.Words.{NONE, tag, field_a, HA}
use Rattle.rules.specs.Store.{Store, fail, put, push}
use Rattle.invariants.specs.Floor.{Rule, Solved, Fine, Ext, Grows}
use Rattle.invariants.specs.Outside.{put-outside, fine_stopped}
use Rattle.invariants.specs.Grow.{solved_at, tag-kept, a-kept, term_kept}
use Rattle.invariants.specs.Push.{put_past, put-tag, put_a, Pushed, put_b, put-kept, rule_kept, put-length}

-- one label more
unfoldable upd : (ℕ → ℕ) → ℕ → ℕ → ℕ → ℕ
upd home u b r = elim (eqb r u) [ true ↦ b | false ↦ home r ]

upd_new : (home : ℕ → ℕ) (u b : ℕ) → upd home u b u ≡ b
unfolding upd
upd_new home u b = rw (eq-eqb u u refl, upd)

upd-old : (home : ℕ → ℕ) (u b r : ℕ) → r < u → upd home u b r ≡ home r
unfolding upd
upd-old home u b r h = let n : r ≡ u → ⊥ = omega arith in rw (ne_eqb r u n, upd)

-- the store after a record is appended, and its labels
abbrev added : Store → ℕ → ℕ → ℕ → Store
added s t a c = record { words = put s.words s.used t a c; solutions = s.solutions; used = s.used + 1 }

abbrev labelled : (ℕ → ℕ) → Store → ℕ → ℕ → ℕ
labelled home s b = λ r. upd home s.used b r

module _ (barred : ℕ → Type 0) (R n t a c b : ℕ) (home : ℕ → ℕ) (s : Store) (f : Fine R n home s) (h : s.used < R) (some : 1 ≤ t) (bar : t ≡ 9 → barred a → ⊥) where
  long : 4 * s.used + 3 < length s.words
  long = omega arith

  pushed : Pushed t a c b s.used s.solutions (labelled home s b) (added s t a c) s.used
  pushed = record { is = refl; next = omega arith; sols = refl; label = upd_new home s.used b; tag_is = put-tag _ _ _ _ _ long; a_is = put_a _ _ _ _ _ long; b_is = put_b _ _ _ _ _ long }

  none_new : (q : ℕ) → q ≡ s.used → tag (added s t a c).words q ≡ HA → barred (field_a (added s t a c).words q) → ⊥
  none_new q z = rw z (λ e k. bar (sym (put-tag s.words s.used t a c long) ∙ e) (subst barred (put_a s.words s.used t a c long) k))

  pushed_ext : Ext barred home s (labelled home s b) (added s t a c)
  pushed_ext = record { grown = omega arith; kept = λ i k. put-kept _ _ _ _ _ i k; labels = λ r k. upd-old home s.used b r k; none = λ q l k. none_new q (omega arith) }

  good_new : Rule (added s t a c).words (labelled home s b) s.used → (r : ℕ) → r < s.used + 1 → Rule (added s t a c).words (labelled home s b) r
  good_new new r k = dec (dec_lt r s.used)
    where
      dec : Dec (r < s.used) → Rule (added s t a c).words (labelled home s b) r
      dec (yes l) = rule_kept barred R n home s (labelled home s b) (added s t a c) r f pushed_ext l
      dec (no l) = let z : r ≡ s.used = omega arith in rw z new

  sols_new : (v : ℕ) → v < R → (get_or s.solutions v NONE ≡ NONE → ⊥) → Solved n (labelled home s b) (added s t a c) v
  sols_new v lv ne =
      let o = f.sols v lv ne in
      let a₀ = o.hole in
      let b₀ = o.below in
      let l = pushed_ext.labels (get_or s.solutions v NONE) b₀ in
      let si = o.since in
      record { hole = omega arith; below = omega arith; term = term_kept barred R n home s (labelled home s b) (added s t a c) _ pushed_ext b₀ o.term; since = omega arith }

  above_new : (t ≡ 9 → 1 ≤ b → get_or s.solutions a NONE ≡ NONE) → (q : ℕ) → q < s.used + 1 → tag (added s t a c).words q ≡ HA → 1 ≤ labelled home s b q
      → (get_or s.solutions (field_a (added s t a c).words q) NONE ≡ NONE → ⊥) → q < labelled home s b (get_or s.solutions (field_a (added s t a c).words q) NONE)
  above_new free q k = dec (dec_lt q s.used)
    where
      dec : Dec (q < s.used) → tag (added s t a c).words q ≡ HA → 1 ≤ labelled home s b q → (get_or s.solutions (field_a (added s t a c).words q) NONE ≡ NONE → ⊥)
          → q < labelled home s b (get_or s.solutions (field_a (added s t a c).words q) NONE)
      dec (yes l) = λ e.
          rw (a-kept barred R n home s (labelled home s b) (added s t a c) q pushed_ext l) λ one ne.
          let lq = pushed_ext.labels q l in
          let nine = sym (tag-kept barred R n home s (labelled home s b) (added s t a c) q pushed_ext l) ∙ e in
          let so = solved_at R n home s q f l nine ne in
          let lt = pushed_ext.labels (get_or s.solutions (field_a s.words q) NONE) so.below in
          let ab = f.above q l nine (omega arith) ne in
          omega arith
      dec (no l) =
          let z : q ≡ s.used = omega arith in
          let lb = pushed.label in
          rw (z, pushed.a_is) (λ e one ne. absurd (ne (free (sym pushed.tag_is ∙ e) (omega arith))))

  tagged_new : (r : ℕ) → n ≤ r → r < s.used + 1 → 1 ≤ tag (added s t a c).words r
  tagged_new r lo k = dec (dec_lt r s.used)
    where
      dec : Dec (r < s.used) → 1 ≤ tag (added s t a c).words r
      dec (yes l) = rw (tag-kept barred R n home s (labelled home s b) (added s t a c) r pushed_ext l) (f.tagged r lo l)
      dec (no l) = let z : r ≡ s.used = omega arith in rw (z, pushed.tag_is) some

  fine_new : (t ≡ 9 → 1 ≤ b → get_or s.solutions a NONE ≡ NONE) → Rule (added s t a c).words (labelled home s b) s.used → Fine R n (labelled home s b) (added s t a c)
  fine_new free new =
      record {
        room = rw (put-length s.words s.used t a c) f.room;
        held = f.held;
        few = f.few;
        some = f.some;
        since = omega arith;
        within = omega arith;
        good = good_new new;
        sols = sols_new;
        above = above_new free;
        tagged = tagged_new;
        blank = λ i lo hi. put_past s.words s.used t a c i lo ∙ f.blank i (omega arith) hi;
      }

pub push_grows : (barred : ℕ → Type 0) (R n t a c b : ℕ) (home : ℕ → ℕ) (s : Store) → Fine R n home s → b ≤ s.used → 1 ≤ t
    → (t ≡ 9 → barred a → ⊥) → (t ≡ 9 → 1 ≤ b → get_or s.solutions a NONE ≡ NONE)
    → ((home₁ : ℕ → ℕ) (s₁ : Store) → Ext barred home s home₁ s₁ → Pushed t a c b s.used s.solutions home₁ s₁ s.used → Rule s₁.words home₁ s.used)
    → Grows barred (Pushed t a c b s.used s.solutions) R n home s (push R t a c s)
unfolding push fail
push_grows barred R n t a c b home s f le some bar free new = go (dec_lt s.used R)
  where
    go : Dec (s.used < R) → Grows barred (Pushed t a c b s.used s.solutions) R n home s (push R t a c s)
    go (yes h) =
        let e = pushed_ext barred R n t a c b home s f h some bar in
        let p = pushed barred R n t a c b home s f h some bar in
        rw (lt-ltb _ _ h, push) (record { home₁ = labelled home s b; ext = e; outside = put-outside R n s t a c f.since h; fine = fine_new barred R n t a c b home s f h some bar free (new (labelled home s b) (added s t a c) e p); root = p })
    go (no h) = let k : R ≤ s.used = omega arith in rw (le-ltb _ _ k, push) (fine_stopped R n home s f)
