-- What a store says: the holes declared, the solutions, and what each write does to them.
use Rattle.std.specs.Prelude.{ℕ, ◌<◌, ◌≤◌, List, ◌≢◌, ◌⊎◌, set}
use Rattle.std.proofs.Math.Path.{◌≡◌, refl, ap}
use Rattle.std.proofs.Common.{sym, ◌∙◌, inl, inr, arith, le_refl, le_trans, length-set, get_or-set_same, get_or-set_other}
use Rattle.std.proofs.Math.Bool.{true, false, not}
use Rattle.std.proofs.Math.Option.{Option, none, some, none-ne-some}
use Rattle.std.proofs.Math.Decide.{dec_lt, ℕ_discrete}
use Rattle.std.proofs.Math.ListN.{length, get_or}
use Rattle.std.proofs.Math.Dec.{eqb}
use borrow.Author.Tests.{eq-eqb, ne_eqb}
use Rattle.rules.specs.Words.{tag, NONE, HO}
use Rattle.rules.specs.Store.{Store, settle, solved, solution}
use Rattle.trees.specs.Tree.{Ty, Tree, Holes, Sig}
use Rattle.trees.specs.Moves.{Solutions, Adds}
use Rattle.trees.specs.Typing.{Declared}
use Rattle.trees.proofs.Walk.{declared_later}
use Rattle.promise.specs.Reading.{one, Reads, r_lam, r_con, r_var, r_hol, HoleAt, Same, same_refl, same_trans, same_tag, reads_later, hole_later}
use Rattle.promise.specs.Outcomes.{Fits, Grew, Appends}
use Rattle.promise.specs.Writing.{Pushed}

-- what stands below `used` stays
pub record Later (s s₁ : Store) : Type 0 where
  pub same : Same s.used s.words s₁.words
  pub grown : s.used ≤ s₁.used

pub later_refl : {s : Store} → Later s s
later_refl = record { same = same_refl; grown = le_refl _ }

pub later_trans : {s s₁ s₂ : Store} → Later s s₁ → Later s₁ s₂ → Later s s₂
later_trans a b = record { same = same_trans a.grown a.same b.same; grown = le_trans a.grown b.grown }

pub grew_later : {R : ℕ} {s s₁ : Store} → Grew R s s₁ → Later s s₁
grew_later g = record { same = g.same; grown = g.grown }

-- the hole records are the holes of D, the solution words are the solutions σ
pub record Holds (R : ℕ) (s : Store) (D : Sig) (σ : Solutions) : Type 0 where
  pub fits : Fits R s
  pub room : R ≤ length s.solutions
  pub declared : (h : ℕ) (C : List Ty) (b : ℕ) → D h ≡ some (C, b) → HoleAt s.words s.used h C b
  pub all : (h : ℕ) → h < s.used → tag s.words h ≡ HO → D h ≡ none → ⊥
  pub solves : (h : ℕ) (t : Tree) → σ h ≡ some t → Reads s.words s.used (one (get_or s.solutions h NONE)) t
  pub leaves : (h : ℕ) → h < R → σ h ≡ none → get_or s.solutions h NONE ≡ NONE
  pub inside : (h : ℕ) (t : Tree) → σ h ≡ some t → Holes (Declared D) t

pub reads_below : {ws : List ℕ} {n r : ℕ} {t : Tree} → Reads ws n (one r) t → r < n
reads_below (r_lam h e a d) = h
reads_below (r_con h e a b l d) = h
reads_below (r_var h e a b l d) = h
reads_below (r_hol h e a b l d) = h

module _ {R : ℕ} {s : Store} {D : Sig} {σ : Solutions} (i : Holds R s D σ) where
  -- a hole is solved where the test says so
  pub solved_some : (h : ℕ) → h < R → solved s h ≡ true → (t : Tree) × (σ h ≡ some t) × Reads s.words s.used (one (solution s h)) t
  unfolding solved solution
  solved_some h l e = go (σ h) refl
    where
      go : (o : Option Tree) → σ h ≡ o → (t : Tree) × (σ h ≡ some t) × Reads s.words s.used (one (get_or s.solutions h NONE)) t
      go (some t) q = (t, q, i.solves h t q)
      go none q =
          let z : eqb (get_or s.solutions h NONE) NONE ≡ true = eq-eqb _ _ (i.leaves h l q) in
          let y : not true ≡ true = ap not (sym z) ∙ e in
          absurd (let x : ◌≡◌ {A = ℕ} 0 1 = cc in omega arith)

  pub solved_none : (h : ℕ) → solved s h ≡ false → σ h ≡ none
  unfolding solved
  solved_none h e = go (σ h) refl
    where
      go : (o : Option Tree) → σ h ≡ o → σ h ≡ none
      go none q = q
      go (some t) q =
          let l = reads_below (i.solves h t q) in
          let n : get_or s.solutions h NONE ≡ NONE → ⊥ = omega (arith, i.fits.full, i.fits.small) in
          let z : eqb (get_or s.solutions h NONE) NONE ≡ false = ne_eqb _ _ n in
          let y : not false ≡ false = ap not (sym z) ∙ e in
          absurd (let x : ◌≡◌ {A = ℕ} 0 1 = cc in omega arith)

  -- a declared hole's number is below R
  pub declared_low : (h : ℕ) (c : List Ty × ℕ) → D h ≡ some c → h < R
  declared_low h c e = let l = (i.declared h c.0 c.1 e).low in omega (arith, i.fits.full)

  -- no hole from `used` on is declared
  pub fresh : (h : ℕ) → s.used ≤ h → D h ≡ none
  fresh h k = go (D h) refl
    where
      go : (o : Option (List Ty × ℕ)) → D h ≡ o → D h ≡ none
      go none q = q
      go (some c) q = let l = (i.declared h c.0 c.1 q).low in absurd (omega arith)

  -- records that are no holes
  pub holds_appends : {s₁ : Store} → Appends R s s₁ → Holds R s₁ D σ
  holds_appends {s₁} a = record {
    fits = a.grew.fits;
    room = rw a.grew.answers i.room;
    declared = λ h C b e. hole_later a.grew.same a.grew.grown (i.declared h C b e);
    all = λ h l e q. old h l e q (dec_lt h s.used);
    solves = λ h t e. rw a.grew.answers (reads_later a.grew.same a.grew.grown (i.solves h t e));
    leaves = λ h l e. rw a.grew.answers (i.leaves h l e);
    inside = i.inside;
  }
    where
      old : (h : ℕ) → h < s₁.used → tag s₁.words h ≡ HO → D h ≡ none → Dec (h < s.used) → ⊥
      old h l e q (yes k) = i.all h k (sym (same_tag a.grew.same k refl) ∙ e) q
      old h l e q (no k) = a.plain h (omega arith) l e

  -- a hole
  pub holds_hole : {s₁ : Store} {l b r : ℕ} {C : List Ty} {k : ℕ} {E : Sig} → Pushed R HO l b s s₁ r → HoleAt s₁.words s₁.used r C k → Adds D r (C, k) E
      → Holds R s₁ E σ
  holds_hole {s₁} {r = r} {C} {k} {E} p d a = record {
    fits = p.grew.fits;
    room = rw p.grew.answers i.room;
    declared = λ h B b e. each h B b (a.only h (B, b) e);
    all = λ h l e q. old h l e q (dec_lt h s.used);
    solves = λ h t e. rw p.grew.answers (reads_later p.grew.same p.grew.grown (i.solves h t e));
    leaves = λ h l e. rw p.grew.answers (i.leaves h l e);
    inside = λ h t e. declared_later D E a.grows t (i.inside h t e);
  }
    where
      each : (h : ℕ) (B : List Ty) (b : ℕ) → ((h ≡ r) × (◌≡◌ {A = List Ty × ℕ} (B, b) (C, k))) ⊎ (D h ≡ some (B, b)) → HoleAt s₁.words s₁.used h B b
      each h B b (inl e) =
          let x : B ≡ C = ap (λ z. z.0) e.1 in
          let y : b ≡ k = ap (λ z. z.1) e.1 in
          rw (e.0, x, y) d
      each h B b (inr e) = hole_later p.grew.same p.grew.grown (i.declared h B b e)

      old : (h : ℕ) → h < s₁.used → tag s₁.words h ≡ HO → E h ≡ none → Dec (h < s.used) → ⊥
      old h l e q (yes n) = i.all h n (sym (same_tag p.grew.same n refl) ∙ e) (none_before (D h) refl)
        where
          none_before : (o : Option (List Ty × ℕ)) → D h ≡ o → D h ≡ none
          none_before none z = z
          none_before (some c) z = absurd (none-ne-some c (sym q ∙ a.grows h c z))
      old h l e q (no n) =
          let z : h ≡ r = omega (arith, p.at, p.next) in
          none-ne-some (C, k) (sym q ∙ ap E z ∙ a.new)

  -- a solution
  pub holds-settle : {h r : ℕ} {t : Tree} {τ : Solutions} → h < s.used → Reads s.words s.used (one r) t → Holes (Declared D) t → Adds σ h t τ
      → Holds R (settle h r s) D τ
  unfolding settle
  holds-settle {h} {r} {t} {τ} l d n a = record {
    fits = record { small = i.fits.small; table = i.fits.table; full = i.fits.full };
    room = rw (length-set s.solutions h r) i.room;
    declared = i.declared;
    all = i.all;
    solves = λ g u e. solves' g u (a.only g u e);
    leaves = λ g l e. leaves' g l e (ℕ_discrete g h);
    inside = λ g u e. inside' g u (a.only g u e);
  }
    where
      k : h < length s.solutions
      k = omega (arith, i.fits.full, i.room)

      solves' : (g : ℕ) (u : Tree) → ((g ≡ h) × (u ≡ t)) ⊎ (σ g ≡ some u) → Reads s.words s.used (one (get_or (set s.solutions h r) g NONE)) u
      solves' g u (inl e) = rw (e.0, e.1, get_or-set_same s.solutions h r NONE k) d
      solves' g u (inr e) =
          let z : g ≢ h = λ x. none-ne-some u (sym a.before ∙ ap σ (sym x) ∙ e) in
          rw (get_or-set_other s.solutions h g r NONE z) (i.solves g u e)

      leaves' : (g : ℕ) → g < R → τ g ≡ none → Dec (g ≡ h) → get_or (set s.solutions h r) g NONE ≡ NONE
      leaves' g j e (yes x) = absurd (none-ne-some t (sym e ∙ ap τ x ∙ a.new))
      leaves' g j e (no x) = get_or-set_other s.solutions h g r NONE x ∙ i.leaves g j (before (σ g) refl)
        where
          before : (o : Option Tree) → σ g ≡ o → σ g ≡ none
          before none z = z
          before (some c) z = absurd (none-ne-some c (sym e ∙ a.grows g c z))

      inside' : (g : ℕ) (u : Tree) → ((g ≡ h) × (u ≡ t)) ⊎ (σ g ≡ some u) → Holes (Declared D) u
      inside' g u (inl e) = rw e.1 n
      inside' g u (inr e) = i.inside g u e
