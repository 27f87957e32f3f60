-- The records of a sound table keep the rules that the machine relies on, with every home 0.
use Rattle.std.specs.Prelude.{ℕ, zero, suc, ◌*◌, ◌<◌, ◌≤◌, ◌≡◌, List, [], ◌∷◌, true, not, ◌⊎◌, get_or, eqb, leb}
use Rattle.std.proofs.Common.{sym, ap, ◌∙◌, le_refl}
use Rattle.std.proofs.Math.Logic.{inl, inr}
use native.Mathlib.Omega.{arith}
use Rattle.std.proofs.Math.Decide.{ℕ_discrete}
use Rattle.std.proofs.Math.ListN.{length}
use borrow.Author.Tests.{ltb-true, leb-true, eqb-true}
use Rattle.rules.specs.Lists.{both, enough}
use Rattle.rules.specs.Words.{NONE, tag, field_a, field_b, CE, has, is_term, cells, elements, LA, CA, VA}
use Rattle.rules.specs.Records.{never, shapes, shape, fits, shaped, alike, listed, keeps}
use Rattle.laws.specs.Tests.{false_true, both_true, either_true}
use Rattle.laws.specs.Sound.{Sound, lambda_field, constant_head, hole_head, hole_context, constant_list, variable_list, hole_list, cell_element, cell_rest, follows_term}
use Rattle.laws.specs.Lists.{Cell, Listed, size, size_real, size_below, cells_none, cells-more, elements_none, elements_cell}
use Rattle.invariants.specs.Floor.{Term, Sub, All, Args, limit, Rule}

-- a list shorter than the fuel does not feel it
cells_short : (k j : ℕ) (ws : List ℕ) (l : ℕ) → length (cells k ws l) < k → k ≤ j → cells j ws l ≡ cells k ws l
cells_short zero j ws l h le = absurd (omega arith)
cells_short (suc k) zero ws l h le = absurd (omega arith)
cells_short (suc k) (suc j) ws l h le = go (ℕ_discrete l NONE) (cells_short k j ws (field_b ws l))
  where
    go : Dec (l ≡ NONE) → (length (cells k ws (field_b ws l)) < k → k ≤ j → cells j ws (field_b ws l) ≡ cells k ws (field_b ws l)) → cells (suc j) ws l ≡ cells (suc k) ws l
    go (yes e) ih = cells_none (suc j) ws l e ∙ sym (cells_none (suc k) ws l e)
    go (no e) ih =
        let h₁ : length (field_a ws l ∷ cells k ws (field_b ws l)) < suc k = rw (cells-more k ws l e) at h in
        rw (cells-more j ws l e, cells-more k ws l e, ih (omega arith) (omega arith))

pub is_term_lem : (ws : List ℕ) (x : ℕ) → is_term ws x ≡ true → Term ws x
unfolding is_term
is_term_lem ws x e = let p = both_true _ _ e in record { low = leb-true _ _ p.0; high = leb-true _ _ p.1 }

module _ (ws : List ℕ) (n : ℕ) (g : Sound ws n) (few : n ≤ 4096) (held : 4 * n ≤ length ws) where
  cell_at : (c : ℕ) → c < n → tag ws c ≡ CE → Cell ws c
  cell_at c lt e = record { elem = cell_element ws n g c lt e; rest = λ ne. elim (cell_rest ws n g c lt e) [ inl z ↦ absurd (ne z) | inr z ↦ z ] }

  listed_at : (l : ℕ) → ((l ≡ NONE → ⊥) → (l < n) × (tag ws l ≡ CE)) → Listed ws l
  listed_at l h = record { top = n; inside = held; few = few; good = cell_at; here = h }

  -- a list of the table has at most 16 cells
  pub few_cells : (l : ℕ) → l < n → tag ws l ≡ CE → length (elements ws l) ≤ 16
  unfolding keeps listed has elements
  few_cells l lt e = go (either_true _ _ (both_true _ _ (both_true _ _ (g l lt)).1).0)
    where
      go : (not (eqb (tag ws l) CE) ≡ true) ⊎ (both (alike ws l) (leb (length (cells 17 ws l)) 16) ≡ true) → length (cells enough ws l) ≤ 16
      go (inl z) = absurd (false_true (rw e at z))
      go (inr z) = let c : length (cells 17 ws l) ≤ 16 = leb-true _ _ (both_true _ _ z).1 in rw (cells_short 17 enough ws l (omega arith) (omega arith)) c

  -- a list of terms below r, or NONE
  abbrev Terms : ℕ → ℕ → Type 0
  Terms r l = (l ≡ NONE → ⊥) → (l < r) × (tag ws l ≡ CE) × (is_term ws (field_a ws l) ≡ true)

  rest_terms : (r l : ℕ) → r ≤ n → (l ≡ NONE → ⊥) → Terms r l → Terms l (field_b ws l)
  rest_terms r l le ne h some =
      let t = h ne in
      let c = (cell_at l (omega arith) t.1).rest some in
      (c.0, c.1, follows_term ws n g l (omega arith) t.1 some t.2)

  terms_below : (k r l : ℕ) → size l ≤ k → r ≤ n → Terms r l → All (Sub ws (λ i. 0) 0 r) (elements ws l)
  terms_below zero r l le hr h = go (ℕ_discrete l NONE)
    where
      go : Dec (l ≡ NONE) → All (Sub ws (λ i. 0) 0 r) (elements ws l)
      go (yes e) = rw (elements_none ws l e) tt
      go (no e) = let z = size_real l e in absurd (omega arith)
  terms_below (suc k) r l le hr h = go (ℕ_discrete l NONE) (terms_below k r (field_b ws l))
    where
      go : Dec (l ≡ NONE) → (size (field_b ws l) ≤ k → r ≤ n → Terms r (field_b ws l) → All (Sub ws (λ i. 0) 0 r) (elements ws (field_b ws l))) → All (Sub ws (λ i. 0) 0 r) (elements ws l)
      go (yes e) ih = rw (elements_none ws l e) tt
      go (no e) ih =
          let t = h e in
          let lt = t.0 in
          let z = size_real l e in
          let el = (cell_at l (omega arith) t.1).elem in
          let rest = rest_terms r l hr e h in
          let s = size_below (field_b ws l) l (λ some. (rest some).0) in
          rw (elements_cell ws l e (listed_at l (λ some. (omega arith, t.1)))) (
            record { below = omega arith; term = is_term_lem ws (field_a ws l) t.2; up = omega arith },
            ih (omega arith) hr (λ some. let q = (rest some).0 in (omega arith, (rest some).1, (rest some).2)),
          )

  variable_small : (r : ℕ) → r < n → tag ws r ≡ VA → field_a ws r < 4096
  unfolding keeps shaped shape shapes fits
  variable_small r lt e = ltb-true _ _ (rw (ap (λ k. (get_or shapes k (never, never, never)).0) e) at (both_true _ _ (both_true _ _ (g r lt)).0).0)

  -- a list field of an applied record
  args_at : (r : ℕ) → r < n → ((field_b ws r ≡ NONE) ⊎ ((field_b ws r < r) × (tag ws (field_b ws r) ≡ CE) × (is_term ws (field_a ws (field_b ws r)) ≡ true)))
      → Args ws (λ i. 0) 0 r (field_b ws r) × (length (elements ws (field_b ws r)) ≤ 16)
  args_at r lt (inl e) = let z : elements ws (field_b ws r) ≡ [] = elements_none ws (field_b ws r) e in (record { here = λ some. absurd (some e); all = rw z tt }, rw z (omega arith))
  args_at r lt (inr t) =
      let b = t.0 in (
        record { here = λ some. (b, t.1); all = terms_below (size (field_b ws r)) r (field_b ws r) (le_refl _) (omega arith) (λ some. t) },
        few_cells (field_b ws r) (omega arith) t.1,
      )

  args_of : (r : ℕ) → r < n → 7 ≤ tag ws r → tag ws r ≤ 9 → Args ws (λ i. 0) 0 r (field_b ws r) × (length (elements ws (field_b ws r)) ≤ 16)
  args_of r lt lo hi = args_at r lt (go (ℕ_discrete (tag ws r) CA) (ℕ_discrete (tag ws r) VA))
    where
      go : Dec (tag ws r ≡ CA) → Dec (tag ws r ≡ VA) → (field_b ws r ≡ NONE) ⊎ ((field_b ws r < r) × (tag ws (field_b ws r) ≡ CE) × (is_term ws (field_a ws (field_b ws r)) ≡ true))
      go (yes e) d = constant_list ws n g r lt e
      go (no e) (yes d) = variable_list ws n g r lt d
      go (no e) (no d) = hole_list ws n g r lt (omega arith)

  low_of : (r : ℕ) → r < n → 6 ≤ tag ws r → tag ws r ≤ 9 → field_a ws r ≤ limit r
  low_of r lt lo hi = go (ℕ_discrete (tag ws r) LA) (ℕ_discrete (tag ws r) CA) (ℕ_discrete (tag ws r) VA)
    where
      go : Dec (tag ws r ≡ LA) → Dec (tag ws r ≡ CA) → Dec (tag ws r ≡ VA) → field_a ws r ≤ limit r
      go (yes e) d c = let b = (lambda_field ws n g r lt e).0 in omega arith
      go (no e) (yes d) c = let b = (constant_head ws n g r lt d).0 in omega arith
      go (no e) (no d) (yes c) = let b = variable_small r lt c in omega arith
      go (no e) (no d) (no c) = let b = (hole_head ws n g r lt (omega arith)).0 in omega arith

  -- a record of a sound table keeps the rules
  pub sound_rule : (r : ℕ) → r < n → Rule ws (λ i. 0) r
  unfolding has
  sound_rule r lt =
      record {
        own = omega arith;
        lam = λ e. let b = lambda_field ws n g r lt e in record { below = b.0; term = is_term_lem ws (field_a ws r) b.1; up = omega arith };
        app = λ lo hi. (args_of r lt lo hi).0;
        few = λ lo hi. (args_of r lt lo hi).1;
        low = low_of r lt;
        occ = λ e. let b = hole_head ws n g r lt e in record { below = b.0; hole = eqb-true _ _ b.1 };
        cell = cell_at r lt;
        hole = λ e some. elim (hole_context ws n g r lt e) [ inl z ↦ absurd (some z) | inr z ↦ (z.0, z.1) ];
      }
