-- What is appended: the words of a record that is put, the rule of a new one, and parts of the machine one after another.
use Rattle.std.specs.Prelude.{ℕ, suc, ◌+◌, ◌*◌, ◌<◌, ◌≤◌, ◌≡◌, refl, List, get_or, set}
use Rattle.std.proofs.Common.{sym, ◌∙◌, subst, le_refl, get_or-set_same}
use native.Mathlib.Omega.{arith}
use Rattle.std.proofs.Math.Decide.{dec_lt}
use Rattle.std.proofs.Math.ListN.{length, length-set}
use Rattle.std.proofs.Math.Seq.{get_or-set_other}
use Rattle.rules.specs.Words.{NONE, tag, field_a, field_b, elements, HO, CE, HA}
use Rattle.rules.specs.Store.{Store, Out, goes, fails, spent, ◌>>=◌, put}
use Rattle.invariants.specs.Floor.{Sub, Args, limit, Rule, Fine, Ext, Grows}
use Rattle.invariants.specs.Outside.{outside_trans, stopped_after}
use Rattle.invariants.specs.Grow.{tag-kept, a-kept, b_kept, sub-kept, list_kept, args_below}

module _ (ws : List ℕ) (u t a c : ℕ) where
  pub put-length : length (put ws u t a c) ≡ length ws
  unfolding put
  put-length = simp length-set

  put_other : (i : ℕ) → (i ≡ 4 * u → ⊥) → (i ≡ 4 * u + 1 → ⊥) → (i ≡ 4 * u + 2 → ⊥) → (i ≡ 4 * u + 3 → ⊥) → get_or (put ws u t a c) i 0 ≡ get_or ws i 0
  unfolding put
  put_other i n₀ n₁ n₂ n₃ = simp get_or-set_other

  pub put-kept : (i : ℕ) → i < 4 * u → get_or (put ws u t a c) i 0 ≡ get_or ws i 0
  put-kept i h = put_other i (omega arith) (omega arith) (omega arith) (omega arith)

  pub put_past : (i : ℕ) → 4 * (u + 1) ≤ i → get_or (put ws u t a c) i 0 ≡ get_or ws i 0
  put_past i h = put_other i (omega arith) (omega arith) (omega arith) (omega arith)

  pub put-tag : 4 * u + 3 < length ws → tag (put ws u t a c) u ≡ t
  unfolding put
  put-tag h =
      let n₁ : 4 * u ≡ 4 * u + 1 → ⊥ = omega arith in
      let n₂ : 4 * u ≡ 4 * u + 2 → ⊥ = omega arith in
      let n₃ : 4 * u ≡ 4 * u + 3 → ⊥ = omega arith in
      let g : 4 * u < length ws = omega arith in
      simp get_or-set_other (get_or-set_same ws (4 * u) t 0 g)

  pub put_a : 4 * u + 3 < length ws → field_a (put ws u t a c) u ≡ a
  unfolding put
  put_a h =
      let n₂ : 4 * u + 1 ≡ 4 * u + 2 → ⊥ = omega arith in
      let n₃ : 4 * u + 1 ≡ 4 * u + 3 → ⊥ = omega arith in
      let g : 4 * u + 1 < length (set ws (4 * u) t) = simp length-set (omega arith) in
      simp get_or-set_other (get_or-set_same (set ws (4 * u) t) (4 * u + 1) a 0 g)

  pub put_b : 4 * u + 3 < length ws → field_b (put ws u t a c) u ≡ c
  unfolding put
  put_b h =
      let n₃ : 4 * u + 2 ≡ 4 * u + 3 → ⊥ = omega arith in
      let g : 4 * u + 2 < length (set (set ws (4 * u) t) (4 * u + 1) a) = simp length-set (omega arith) in
      simp get_or-set_other (get_or-set_same (set (set ws (4 * u) t) (4 * u + 1) a) (4 * u + 2) c 0 g)

-- a record that keeps the rules keeps them where the store has grown
pub rule_kept : (barred : ℕ → Type 0) (R n : ℕ) (home : ℕ → ℕ) (s : Store) (home₁ : ℕ → ℕ) (s₁ : Store) (r : ℕ) → Fine R n home s → Ext barred home s home₁ s₁ → r < s.used → Rule s₁.words home₁ r
rule_kept barred R n home s home₁ s₁ r f e h =
    let g = f.good r h in
    let t = tag-kept barred R n home s home₁ s₁ r e h in
    let l = e.labels r h in
    let a = a-kept barred R n home s home₁ s₁ r e h in
    let b = b_kept barred R n home s home₁ s₁ r e h in
    let own = g.own in
    record {
      own = omega arith;
      lam = λ i. rw (a, l) (sub-kept barred R n home s home₁ s₁ _ r r _ e (omega arith) (le_refl _) (g.lam (sym t ∙ i)));
      app = λ i j. rw (b, l) (args_below barred R n home s home₁ s₁ _ r r _ f e (omega arith) (le_refl _) (g.app (omega arith) (omega arith)));
      few = λ i j.
          let ar = g.app (omega arith) (omega arith) in
          let k = list_kept barred R n home s home₁ s₁ (field_b s.words r) f e (λ q. let x = (ar.here q).0 in (omega arith, (ar.here q).1)) in
          rw (b, k) (g.few (omega arith) (omega arith));
      low = λ i j. rw a (g.low (omega arith) (omega arith));
      occ = λ i.
          let o = g.occ (sym t ∙ i) in
          let ob = o.below in
          record { below = rw a ob; hole = rw a (tag-kept barred R n home s home₁ s₁ _ e (omega arith) ∙ o.hole) };
      cell = λ i.
          let o = g.cell (sym t ∙ i) in
          record { elem = rw a o.elem; rest = rw b (λ q. let x = o.rest q in let x₀ = x.0 in (x₀, tag-kept barred R n home s home₁ s₁ _ e (omega arith) ∙ x.1)) };
      hole = λ i. rw a (λ q. let x = g.hole (sym t ∙ i) q in let x₀ = x.0 in (x₀, tag-kept barred R n home s home₁ s₁ _ e (omega arith) ∙ x.1));
    }

-- what a record appended is
pub record Pushed (t a c b u : ℕ) (ss : List ℕ) (home₁ : ℕ → ℕ) (s₁ : Store) (x : ℕ) : Type 0 where
  pub is : x ≡ u
  pub next : s₁.used ≡ suc u
  pub sols : s₁.solutions ≡ ss
  pub label : home₁ u ≡ b
  pub tag_is : tag s₁.words u ≡ t
  pub a_is : field_a s₁.words u ≡ a
  pub b_is : field_b s₁.words u ≡ c

-- the rule of the record appended
pub new_rule : (t a c b u : ℕ) (ss : List ℕ) (home₁ : ℕ → ℕ) (s₁ : Store) → Pushed t a c b u ss home₁ s₁ u → b ≤ u
    → (6 ≤ t → t ≤ 9 → a ≤ limit u) → (t ≡ 6 → Sub s₁.words home₁ b u a)
    → (7 ≤ t → t ≤ 9 → Args s₁.words home₁ b u c × (length (elements s₁.words c) ≤ 16))
    → (t ≡ 9 → (a < u) × (tag s₁.words a ≡ HO))
    → (t ≡ 5 → (a < u) × ((c ≡ NONE → ⊥) → (c < u) × (tag s₁.words c ≡ CE)))
    → (t ≡ 4 → (a ≡ NONE → ⊥) → (a < u) × (tag s₁.words a ≡ CE)) → Rule s₁.words home₁ u
new_rule t a c b u ss home₁ s₁ p le low h₆ h₇ h₉ h₅ h₄ =
    let l = p.label in
    let ti = p.tag_is in
    record {
      own = omega arith;
      lam = λ i. rw (p.a_is, l) (h₆ (sym ti ∙ i));
      app = λ i j. rw (p.b_is, l) (h₇ (omega arith) (omega arith)).0;
      few = λ i j. rw p.b_is (h₇ (omega arith) (omega arith)).1;
      low = λ i j. rw p.a_is (low (omega arith) (omega arith));
      occ = λ i. let o = h₉ (sym ti ∙ i) in record { below = rw p.a_is o.0; hole = rw p.a_is o.1 };
      cell = λ i. let o = h₅ (sym ti ∙ i) in record { elem = rw p.a_is o.0; rest = rw p.b_is o.1 };
      hole = λ i. rw p.a_is (h₄ (sym ti ∙ i));
    }

-- the next part starts where one has come to
pub ext_refl : (barred : ℕ → Type 0) (home : ℕ → ℕ) (s : Store) → Ext barred home s home s
ext_refl barred home s = record { grown = le_refl _; kept = λ i h. refl; labels = λ r h. refl; none = λ q l k. absurd (omega arith) }

pub ext_trans : (barred : ℕ → Type 0) (home : ℕ → ℕ) (s : Store) (home₁ : ℕ → ℕ) (s₁ : Store) (home₂ : ℕ → ℕ) (s₂ : Store)
    → Ext barred home s home₁ s₁ → Ext barred home₁ s₁ home₂ s₂ → Ext barred home s home₂ s₂
ext_trans barred home s home₁ s₁ home₂ s₂ e g =
    record {
      grown = omega arith;
      kept = λ i h. g.kept i (omega arith) ∙ e.kept i h;
      labels = λ r h. g.labels r (omega arith) ∙ e.labels r h;
      none = λ q l k. old q l k (dec_lt q s₁.used);
    }
  where
    old : (q : ℕ) → s.used ≤ q → q < s₂.used → Dec (q < s₁.used) → tag s₂.words q ≡ HA → barred (field_a s₂.words q) → ⊥
    old q l k (yes h) = λ t x. e.none q l h (sym (g.kept (4 * q) (omega arith)) ∙ t) (subst barred (g.kept (4 * q + 1) (omega arith)) x)
    old q l k (no h) = g.none q (omega arith) k

pub bind_grows : {A B : Type 0} (barred : ℕ → Type 0) (P : (ℕ → ℕ) → Store → A → Type 0) (Q : (ℕ → ℕ) → Store → B → Type 0) (R n : ℕ) (home : ℕ → ℕ) (s : Store) (o : Out A) (k : Store × A → Out B)
    → Grows barred P R n home s o → ((home₁ : ℕ → ℕ) (s₁ : Store) (x : A) → Ext barred home s home₁ s₁ → Fine R n home₁ s₁ → P home₁ s₁ x → Grows barred Q R n home₁ s₁ (k (s₁, x))) → Grows barred Q R n home s (o >>= k)
unfolding ◌>>=◌
bind_grows {B = B} barred P Q R n home s (goes s₁ x) k g f = after (k (s₁, x)) (f g.home₁ s₁ x g.ext g.fine g.root)
  where
    after : (o : Out B) → Grows barred Q R n g.home₁ s₁ o → Grows barred Q R n home s o
    after (goes s₂ y) h = record { home₁ = h.home₁; ext = ext_trans barred home s g.home₁ s₁ h.home₁ s₂ g.ext h.ext; outside = outside_trans R n s s₁ s₂.words s₂.solutions g.outside h.outside; fine = h.fine; root = h.root }
    after (fails ws ss e) h = stopped_after R n s s₁ ws ss g.outside h
    after spent h = h
bind_grows {B = B} barred P Q R n home s (fails ws ss e) k g f = g
bind_grows {B = B} barred P Q R n home s spent k g f = g

pub map_grows : {A : Type 0} (barred : ℕ → Type 0) (P Q : (ℕ → ℕ) → Store → A → Type 0) (R n : ℕ) (home : ℕ → ℕ) (s : Store) (o : Out A) → Grows barred P R n home s o
    → ((home₁ : ℕ → ℕ) (s₁ : Store) (x : A) → Ext barred home s home₁ s₁ → Fine R n home₁ s₁ → P home₁ s₁ x → Q home₁ s₁ x) → Grows barred Q R n home s o
map_grows barred P Q R n home s (goes s₁ x) g f = record { home₁ = g.home₁; ext = g.ext; outside = g.outside; fine = g.fine; root = f g.home₁ s₁ x g.ext g.fine g.root }
map_grows barred P Q R n home s (fails ws ss e) g f = g
map_grows barred P Q R n home s spent g f = g
