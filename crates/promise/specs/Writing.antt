-- What writing records does to readings: push, cells, variables and occurrences.
use Rattle.std.specs.Prelude.{ℕ, suc, ◌+◌, ◌*◌, ◌<◌, ◌≤◌, ◌≡◌, refl, List, [], ◌∷◌, true, false, get_or, set, eqb}
use Rattle.std.proofs.Common.{sym, ap, ◌∙◌, get_or-set_same, lt-ltb, le-ltb}
use native.Mathlib.Omega.{arith}
use Rattle.std.proofs.Math.Decide.{dec_lt}
use Rattle.std.proofs.Math.ListN.{length, length-set}
use Rattle.std.proofs.Math.Seq.{get_or-set_other}
use Rattle.rules.specs.declared.Failure.TheVariants.{TableFull}
use Rattle.rules.specs.Words.{tag, field_a, field_b, NONE, HO, CE, LA, CA, VA, HA}
use Rattle.rules.specs.Store.{Store, put, push, push_cells, push_variables, push_occurrence}
use Rattle.trees.specs.Tree.{Ty, base, Tree, lam, con, var, hol}
use Rattle.promise.specs.Reading.{Listed, l_none, l_cell, Bares, b_nil, b_cons, one, many, Reads, r_lam, r_con, r_var, r_hol, ReadsTy, ReadsTys, HoleAt, Same, same_tag, same_a, same_b, under, listed_later, bares_later, reads_later, type_later, types_later}
use Rattle.promise.specs.Outcomes.{Ends, ended, bind_ends, map_ends, OnlyFull, fail_ends, Fits, Grew, Appends, appends_refl, appends_trans}

-- one record was appended
pub record Pushed (R t a b : ℕ) (s s₁ : Store) (r : ℕ) : Type 0 where
  pub grew : Grew R s s₁
  pub at : r ≡ s.used
  pub next : s₁.used ≡ s.used + 1
  pub below : r < 4096
  pub is : tag s₁.words r ≡ t
  pub first : field_a s₁.words r ≡ a
  pub second : field_b s₁.words r ≡ b

module _ (ws : List ℕ) (u t a b : ℕ) where
  put-kept : (i : ℕ) → i < 4 * u → get_or (put ws u t a b) i 0 ≡ get_or ws i 0
  unfolding put
  put-kept i h =
      let n₀ : i ≡ 4 * u → ⊥ = omega arith in
      let n₁ : i ≡ 4 * u + 1 → ⊥ = omega arith in
      let n₂ : i ≡ 4 * u + 2 → ⊥ = omega arith in
      let n₃ : i ≡ 4 * u + 3 → ⊥ = omega arith in
      simp get_or-set_other

  put-length : length (put ws u t a b) ≡ length ws
  unfolding put
  put-length = simp length-set

  module _ (h : 4 * u + 4 ≤ length ws) where
    put-tag : tag (put ws u t a b) u ≡ t
    unfolding put
    put-tag =
        let n₁ : 4 * u ≡ 4 * u + 1 → ⊥ = omega arith in
        let n₂ : 4 * u ≡ 4 * u + 2 → ⊥ = omega arith in
        let n₃ : 4 * u ≡ 4 * u + 3 → ⊥ = omega arith in
        let k : 4 * u < length ws = omega arith in
        simp (get_or-set_other, get_or-set_same)

    put_a : field_a (put ws u t a b) u ≡ a
    unfolding put
    put_a =
        let n₂ : 4 * u + 1 ≡ 4 * u + 2 → ⊥ = omega arith in
        let n₃ : 4 * u + 1 ≡ 4 * u + 3 → ⊥ = omega arith in
        let k : 4 * u + 1 < length (set ws (4 * u) t) = simp length-set (omega arith) in
        simp (get_or-set_other, get_or-set_same)

    put_b : field_b (put ws u t a b) u ≡ b
    unfolding put
    put_b =
        let n₃ : 4 * u + 2 ≡ 4 * u + 3 → ⊥ = omega arith in
        let k : 4 * u + 2 < length (set (set ws (4 * u) t) (4 * u + 1) a) = simp length-set (omega arith) in
        simp (get_or-set_other, get_or-set_same)

pub push_ends : (R t a b : ℕ) (s : Store) → Fits R s → Ends (Pushed R t a b s) OnlyFull (push R t a b s)
unfolding push
push_ends R t a b s f = go (dec_lt s.used R)
  where
    s₁ : Store
    s₁ = record { words = put s.words s.used t a b; solutions = s.solutions; used = s.used + 1 }

    room : s.used < R → Pushed R t a b s s₁ s.used
    room h =
        let k : 4 * s.used + 4 ≤ length s.words = omega (arith, f.table) in
        let l : length (put s.words s.used t a b) ≡ length s.words = put-length _ _ _ _ _ in
        record {
          grew = record {
            same = record { word = put-kept s.words s.used t a b };
            grown = omega arith;
            answers = refl;
            fits = record { small = f.small; table = omega (arith, f.table); full = omega arith };
          };
          at = refl;
          next = refl;
          below = omega (arith, f.small);
          is = put-tag _ _ _ _ _ k;
          first = put_a _ _ _ _ _ k;
          second = put_b _ _ _ _ _ k;
        }

    go : Dec (s.used < R) → Ends (Pushed R t a b s) OnlyFull (push R t a b s)
    go (yes h) = rw (lt-ltb _ _ h, push) (ended (room h))
    go (no h) = let k : R ≤ s.used = omega arith in rw (le-ltb _ _ k, push) (fail_ends s TableFull tt)

-- a tag other than a hole's
abbrev pub Plain : ℕ → Type 0
Plain t = elim (eqb t HO) [ true ↦ ⊥ | false ↦ Unit {0} ]

plain-tag : (t : ℕ) → Plain t → t ≡ HO → ⊥
plain-tag t k e = rw e at k

-- a cell, a bare variable, an occurrence: what the pushed record reads as
module _ {R : ℕ} {s s₁ : Store} {r : ℕ} where
  pub pushed_below : {t a b : ℕ} → Pushed R t a b s s₁ r → r < s₁.used
  pushed_below p = omega (arith, p.at, p.next)

  -- the pushed record is the last
  pub pushed_last : {t a b : ℕ} → Pushed R t a b s s₁ r → s₁.used ≡ suc r
  pushed_last p = omega (arith, p.at, p.next)

  -- what was read below `used` before is read below the pushed record
  pub pushed_same : {t a b : ℕ} → Pushed R t a b s s₁ r → Same s.used s.words s₁.words × (s.used ≤ r)
  pushed_same p = (p.grew.same, omega (arith, p.at))

  -- a record that is no hole
  pub pushed_appends : {t a b : ℕ} → Pushed R t a b s s₁ r → Plain t → Appends R s s₁
  pushed_appends {t} p k = record { grew = p.grew; plain = λ h x y e. plain-tag t k (sym p.is ∙ ap (tag s₁.words) (only h x y) ∙ e) }
    where
      only : (h : ℕ) → s.used ≤ h → h < s₁.used → r ≡ h
      only h x y = omega (arith, p.at, p.next)

  pub pushed_cell : {x b : ℕ} {xs : List ℕ} → Pushed R CE x b s s₁ r → Listed s.words s.used b xs → Listed s₁.words s₁.used r (x ∷ xs)
  pushed_cell p d =
      let z = pushed_same p in
      let k : r < NONE = omega (arith, p.below) in
      l_cell (pushed_below p) k p.is p.first p.second (listed_later z.0 z.1 d)

  pub pushed_occurrence : {h b : ℕ} {xs vs : List ℕ} → Pushed R HA h b s s₁ r → Listed s.words s.used b xs → Bares s.words s.used xs vs
      → Reads s₁.words s₁.used (one r) (hol h vs)
  pushed_occurrence p l d =
      let z = pushed_same p in
      r_hol (pushed_below p) p.is p.first p.second (listed_later z.0 z.1 l) (bares_later z.0 z.1 d)

  pub pushed_lambda : {b c : ℕ} {t : Tree} → Pushed R LA b c s s₁ r → Reads s.words s.used (one b) t → Reads s₁.words s₁.used (one r) (lam t)
  pushed_lambda p d = let z = pushed_same p in r_lam (pushed_below p) p.is p.first (reads_later z.0 z.1 d)

  pub pushed_constant : {c b : ℕ} {xs : List ℕ} {a : Tree} → Pushed R CA c b s s₁ r → Listed s.words s.used b xs → Reads s.words s.used (many xs) a
      → Reads s₁.words s₁.used (one r) (con c a)
  pushed_constant p l d =
      let z = pushed_same p in
      r_con (pushed_below p) p.is p.first p.second (listed_later z.0 z.1 l) (reads_later z.0 z.1 d)

  pub pushed_variable : {v b : ℕ} {xs : List ℕ} {a : Tree} → Pushed R VA v b s s₁ r → Listed s.words s.used b xs → Reads s.words s.used (many xs) a
      → Reads s₁.words s₁.used (one r) (var v a)
  pushed_variable p l d =
      let z = pushed_same p in
      r_var (pushed_below p) p.is p.first p.second (listed_later z.0 z.1 l) (reads_later z.0 z.1 d)

  pub pushed_hole : {l b k : ℕ} {xs : List ℕ} {C : List Ty} → Pushed R HO l b s s₁ r → Listed s.words s.used l xs → ReadsTys s.words s.used xs C
      → ReadsTy s.words s.used b (base k) → HoleAt s₁.words s₁.used r C k
  pushed_hole {l} {b} {xs = xs} p d e f =
      let z = pushed_same p in
      record {
        low = pushed_below p;
        is = p.is;
        list = l;
        first = p.first;
        entries = xs;
        listed = listed_later z.0 z.1 d;
        context = types_later z.0 z.1 e;
        at = b;
        second = p.second;
        result = type_later z.0 z.1 f;
      }

-- these records were appended as the cells of a list
pub record Cells (R : ℕ) (xs : List ℕ) (s s₁ : Store) (l : ℕ) : Type 0 where
  pub appends : Appends R s s₁
  pub listed : Listed s₁.words s₁.used l xs

pub cells_end : (R : ℕ) (xs : List ℕ) (s : Store) → Fits R s → Ends (Cells R xs s) OnlyFull (push_cells R xs s)
unfolding push_cells
cells_end R [] s f = ended (record { appends = appends_refl f; listed = l_none refl })
cells_end R (x ∷ xs) s f =
    bind_ends _ (cells_end R xs s f) (λ _ e. e) λ s₁ l c.
    map_ends (λ _ e. e) (λ s₂ r p. record { appends = appends_trans c.appends (pushed_appends p tt); listed = pushed_cell p c.listed })
    (push_ends R CE x l s₁ c.appends.grew.fits)

-- bare variables of these numbers were appended, and the cells of their list
pub record Variables (R : ℕ) (vs : List ℕ) (s s₁ : Store) (l : ℕ) : Type 0 where
  pub appends : Appends R s s₁
  pub records : List ℕ
  pub listed : Listed s₁.words s₁.used l records
  pub bares : Bares s₁.words s₁.used records vs

pub variables_end : (R : ℕ) (vs : List ℕ) (s : Store) → Fits R s → Ends (Variables R vs s) OnlyFull (push_variables R vs s)
unfolding push_variables
variables_end R [] s f = ended (record { appends = appends_refl f; records = []; listed = l_none refl; bares = b_nil })
variables_end R (v ∷ vs) s f =
    bind_ends _ (push_ends R VA v NONE s f) (λ _ e. e) λ s₁ x p.
    bind_ends _ (variables_end R vs s₁ p.grew.fits) (λ _ e. e) λ s₂ l c.
    map_ends (λ _ e. e) (λ s₃ r q. wrote s₁ x p s₂ l c s₃ r q) (push_ends R CE x l s₂ c.appends.grew.fits)
  where
    wrote : (s₁ : Store) (x : ℕ) → Pushed R VA v NONE s s₁ x → (s₂ : Store) (l : ℕ) → Variables R vs s₁ s₂ l → (s₃ : Store) (r : ℕ) → Pushed R CE x l s₂ s₃ r
        → Variables R (v ∷ vs) s s₃ r
    wrote s₁ x p s₂ l c s₃ r q =
        let b = appends_trans c.appends (pushed_appends q tt) in
        let h = pushed_below p in
        let k = b.grew.same in
        record {
          appends = appends_trans (pushed_appends p tt) b;
          records = x ∷ c.records;
          listed = pushed_cell q c.listed;
          bares = b_cons (under h b.grew.grown) (same_tag k h p.is) (same_a k h p.first) (same_b k h p.second)
              (bares_later q.grew.same q.grew.grown c.bares);
        }

-- records were appended, the last of which reads as this tree
pub record Wrote (R : ℕ) (t : Tree) (s s₁ : Store) (r : ℕ) : Type 0 where
  pub appends : Appends R s s₁
  pub last : s₁.used ≡ suc r
  pub reads : Reads s₁.words s₁.used (one r) t

pub occurrence_ends : (R h : ℕ) (vs : List ℕ) (s : Store) → Fits R s → Ends (Wrote R (hol h vs) s) OnlyFull (push_occurrence R h vs s)
unfolding push_occurrence
occurrence_ends R h vs s f =
    bind_ends _ (variables_end R vs s f) (λ _ e. e) λ s₁ l c.
    map_ends (λ _ e. e) (λ s₂ r p. record {
      appends = appends_trans c.appends (pushed_appends p tt);
      last = pushed_last p;
      reads = pushed_occurrence p c.listed c.bares;
    })
    (push_ends R HA h l s₁ c.appends.grew.fits)
