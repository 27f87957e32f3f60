-- Terms and lists that are written, record by record: each record keeps the rules, and its root is in use by none.
use Rattle.std.specs.Prelude.{ℕ, ◌+◌, ◌<◌, ◌≤◌, ◌≡◌, List, ◌∷◌, true, length}
use Rattle.std.proofs.Common.{◌∙◌, arith, le_refl}
use Rattle.std.proofs.Math.Decide.{dec_lt}
use Rattle.rules.specs.Words.{NONE, BT, KO, HO, CE, LA, CA, VA, HA, tag, field_b, field_c, is_term, elements}
use Rattle.rules.specs.Store.{Store}
use Rattle.laws.specs.Lists.{Cell, Listed, elements_cell}
use Rattle.laws.specs.Members.{Begins, cell}
use Rattle.invariants.specs.Push.{put-length}
use Rattle.legal.specs.Stay.{tag_same, term_same, type_same, begins_same, elements_same}
use Rattle.legal.specs.Right.{Free, Right, lambda_right, constant_right, variable_right, occurrence_right, hole_right}
use Rattle.legal.specs.Cells.{Kind, some_types, some_terms, of, cell_right}
use Rattle.legal.specs.Reading.{term_yes}
use Rattle.legal.specs.Sane.{Sane, legal, Kept, top_free, free-kept, added, added_same, tag_is, a_is, b_is, c_is, old-sound, free-added}
use Rattle.legal.proofs.Sane.{append}
use Rattle.legal.specs.Added.{Root, Chain}

pub root_kept : {R : ℕ} {s₀ s s₁ : Store} (x : ℕ) → Sane R s → Kept R s s₁ → Root s₀ s x → Root s₀ s₁ x
root_kept {s = s} {s₁} x i k r =
    let g = k.grown in
    let b = r.below in
    record { new = r.new; below = omega arith; term = rw (term_same s.words s₁.words s.used (legal i) k.same x b) r.term; free = free-kept x i k b r.free }

kind_same : (k : Kind) {R : ℕ} {s : Store} (t a b : ℕ) (i : Sane R s) (lt : s.used < R) (x : ℕ) → x < s.used → of k (added s t a b).words x ≡ of k s.words x
kind_same some_types {s = s} t a b i lt x h = type_same s.words (added s t a b).words s.used (legal i) (added_same t a b i lt) x h
kind_same some_terms {s = s} t a b i lt x h = term_same s.words (added s t a b).words s.used (legal i) (added_same t a b i lt) x h

module _ {R : ℕ} {s₀ s : Store} (k : Kept R s₀ s) (lt : s.used < R) where
  i : Sane R s
  i = k.sane

  -- what is free and not older than s₀, once a record is appended
  counts : (t a b x : ℕ) → s₀.used ≤ x → Free s.words s.used x → (s₀.used ≤ x) × Free (added s t a b).words s.used x
  counts t a b x n f = (n, free-added t a b i lt x f)

  -- the term that the record appended is
  root : (t a b : ℕ) → 6 ≤ t → t ≤ 9 → Kept R s₀ (added s t a b) → Root s₀ (added s t a b) s.used
  root t a b lo hi k₁ =
      let g = k.grown in
      let e = tag_is t a b i lt in
      record { new = g; below = omega arith; term = term_yes (added s t a b).words s.used (omega arith) (omega arith); free = top_free (added s t a b).words (s.used + 1) s.used k₁.sane.sound (omega arith) }

  -- a list, once a record is appended whose second or first field it is
  moved : (q : Kind) (t a b l : ℕ) {xs : List ℕ} → Chain q s₀ s l xs → (v : ℕ) → v ≡ l → Begins (of q (added s t a b).words) (added s t a b).words s.used v
  moved q t a b l c v e =
      rw e (begins_same s.words (added s t a b).words s.used (legal i) (added_same t a b i lt) (of q s.words) (of q (added s t a b).words) (kind_same q t a b i lt) s.used l (le_refl _) c.begins)

  listed : (q : Kind) (t a b l : ℕ) {xs : List ℕ} → Chain q s₀ s l xs → (v : ℕ) → v ≡ l → (v ≡ NONE → ⊥) → (s₀.used ≤ v) × Free (added s t a b).words s.used v
  listed q t a b l c v e = rw e (λ z. counts t a b l (c.new z) (c.free z))

  pub lambda_added : (y : ℕ) → Root s₀ s y → Kept R s₀ (added s LA y 0) × Root s₀ (added s LA y 0) s.used
  lambda_added y r =
      let a = a_is LA y 0 i lt in
      let k₁ = append LA y 0 i lt s₀ k
      (lambda_right (added s LA y 0).words s.used _ (tag_is LA y 0 i lt) (rw a r.below) (rw (a, term_same s.words (added s LA y 0).words s.used (legal i) (added_same LA y 0 i lt) y r.below) r.term)
      (b_is LA y 0 i lt) (c_is LA y 0 i lt) (rw a (counts LA y 0 y r.new r.free))) in
      (k₁, root LA y 0 (omega arith) (omega arith) k₁)

  -- a head over a list
  applied-added : (t a l : ℕ) (xs : List ℕ) → 7 ≤ t → t ≤ 9 → Chain some_terms s₀ s l xs
      → ((Q : ℕ → Type 0) → field_c (added s t a l).words s.used ≡ 0 → Begins (is_term (added s t a l).words) (added s t a l).words s.used (field_b (added s t a l).words s.used)
      → ((field_b (added s t a l).words s.used ≡ NONE → ⊥) → Q (field_b (added s t a l).words s.used)) → Right (added s t a l).words s.used Q)
      → Kept R s₀ (added s t a l) × Root s₀ (added s t a l) s.used
  applied-added t a l xs lo hi c right =
      let e = b_is t a l i lt in
      let k₁ = append t a l i lt s₀ k (right _ (c_is t a l i lt) (moved some_terms t a l l c _ e) (listed some_terms t a l l c _ e)) in
      (k₁, root t a l (omega arith) hi k₁)

  -- a record before the one appended has the tag that it had
  old-tag : (t a l x j : ℕ) → x < s.used → tag s.words x ≡ j → tag (added s t a l).words x ≡ j
  old-tag t a l x j h e = tag_same s.words (added s t a l).words s.used (legal i) (added_same t a l i lt) x h ∙ e

  pub constant_added : (a l : ℕ) (xs : List ℕ) → a < s.used → tag s.words a ≡ KO → Chain some_terms s₀ s l xs → Kept R s₀ (added s CA a l) × Root s₀ (added s CA a l) s.used
  constant_added a l xs h e c =
      let z = a_is CA a l i lt in
      applied-added CA a l xs (omega arith) (omega arith) c (λ Q. constant_right _ _ Q (tag_is CA a l i lt) (rw z h) (rw z (old-tag CA a l a KO h e)))

  pub variable_added : (v l : ℕ) (xs : List ℕ) → v < 4096 → Chain some_terms s₀ s l xs → Kept R s₀ (added s VA v l) × Root s₀ (added s VA v l) s.used
  variable_added v l xs h c =
      let z = a_is VA v l i lt in
      applied-added VA v l xs (omega arith) (omega arith) c (λ Q. variable_right _ _ Q (tag_is VA v l i lt) (rw z h))

  pub occurrence-added : (a l : ℕ) (xs : List ℕ) → a < s.used → tag s.words a ≡ HO → Chain some_terms s₀ s l xs → Kept R s₀ (added s HA a l) × Root s₀ (added s HA a l) s.used
  occurrence-added a l xs h e c =
      let z = a_is HA a l i lt in
      applied-added HA a l xs (omega arith) (omega arith) c (λ Q. occurrence_right _ _ Q (tag_is HA a l i lt) (rw z h) (rw z (old-tag HA a l a HO h e)))

  pub hole_added : (l b : ℕ) (xs : List ℕ) → Chain some_types s₀ s l xs → b < s.used → tag s.words b ≡ BT → Kept R s₀ (added s HO l b)
  hole_added l b xs c h e =
      let z = b_is HO l b i lt in
      append HO l b i lt s₀ k
      (hole_right (added s HO l b).words s.used _ (tag_is HO l b i lt) (moved some_types HO l b l c _ (a_is HO l b i lt)) (rw z h) (rw z (old-tag HO l b b BT h e))
      (c_is HO l b i lt) (listed some_types HO l b l c _ (a_is HO l b i lt)))

  -- a cell before a list
  module _ (q : Kind) (y l : ℕ) (xs : List ℕ) (is : of q s.words y ≡ true) (h : y < s.used) (c : Chain q s₀ s l xs) where
    abbrev ws₁ : List ℕ
    ws₁ = (added s CE y l).words

    cell_new : Cell ws₁ s.used
    cell_new = record { elem = rw (a_is CE y l i lt) h; rest = λ z. let p = moved q CE y l l c (field_b ws₁ s.used) (b_is CE y l i lt) z in (p.0, p.1) }

    cell_listed : Listed ws₁ s.used
    cell_listed =
        let z = put-length s.words s.used CE y l in
        let a = i.room in
        let b = i.few in
        record { top = s.used + 1; inside = omega arith; few = omega arith; good = λ j l e. at j l e (dec_lt j s.used); here = λ _. (omega arith, tag_is CE y l i lt) }
      where
        at : (j : ℕ) → j < s.used + 1 → tag ws₁ j ≡ CE → Dec (j < s.used) → Cell ws₁ j
        at j l₁ e (yes m) = cell ws₁ s.used (old-sound CE y l i lt) j m e
        at j l₁ e (no m) = let z : j ≡ s.used = omega arith in rw z cell_new

    cell_elements : elements ws₁ s.used ≡ y ∷ xs
    cell_elements =
        let a = i.few in
        let real : s.used ≡ NONE → ⊥ = omega arith in
        elements_cell ws₁ s.used real cell_listed ∙ rw (a_is CE y l i lt, b_is CE y l i lt, elements_same s.words ws₁ s.used (legal i) (added_same CE y l i lt) l (λ z. let p = c.begins z in (p.0, p.1)), c.is)

    pub cell_added : (is_term s.words y ≡ true → Root s₀ s y) → length xs ≤ 15 → Kept R s₀ (added s CE y l) × Chain q s₀ (added s CE y l) s.used (y ∷ xs)
    cell_added r few =
        let a = a_is CE y l i lt in
        let e : of q ws₁ y ≡ true = rw (kind_same q CE y l i lt y h) is in
        let k₁ = append CE y l i lt s₀ k
        (cell_right q ws₁ s.used _ (tag_is CE y l i lt) (rw a h) (rw a e) (moved q CE y l l c _ (b_is CE y l i lt)) (c_is CE y l i lt) (rw cell_elements (omega arith))
        (rw a (λ z. let o = r (rw (term_same s.words ws₁ s.used (legal i) (added_same CE y l i lt) y h) at z) in counts CE y l y o.new o.free)) (listed q CE y l l c _ (b_is CE y l i lt))) in (
          k₁,
          record {
            begins = λ z. (omega arith, tag_is CE y l i lt, rw a e);
            new = λ z. k.grown;
            free = λ z. top_free ws₁ (s.used + 1) s.used k₁.sane.sound (omega arith);
            is = cell_elements;
          },
        )
