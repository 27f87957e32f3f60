-- What every element of a list of a sound table is: a lower record of the list's kind.
use Prim.Native.Nat.{ℕ, zero, suc, ◌*◌, ◌<◌, ◌≤◌}
use Rattle.std.specs.Prelude.{◌≡◌, refl, List, [], ◌∷◌, map, Bool, true, ◌⊎◌, length, get_or, None}
use Rattle.std.proofs.Common.{inl, inr}
use native.Mathlib.Omega.{arith}
use Rattle.std.proofs.Math.Decide.{ℕ_discrete}
use Rattle.rules.specs.Lists.{each}
use Rattle.rules.specs.Words.{NONE, CE, tag, field_a, field_b, cells, elements}
use Rattle.rules.specs.Records.{broken}
use Rattle.laws.specs.Sound.{Sound, broken_none, Starting, Follows, cell_element, cell_rest}
use Rattle.laws.specs.Lists.{Cell, Listed, cells_none, cells-more}

-- a legal table: its n records lie in the words, are at most 4,096, and keep the rules
pub record Legal (ws : List ℕ) (n : ℕ) : Type 0 where
  pub inside : 4 * n ≤ length ws
  pub few : n ≤ 4096
  pub sound : Sound ws n

-- from success of the records check follows what all later reading relies on
pub broken_legal : (ws : List ℕ) (n : ℕ) → (n ≤ 4096) × (4 * n ≤ length ws) → broken ws n ≡ None → Legal ws n
broken_legal ws n h e = record { inside = h.1; few = h.0; sound = broken_none ws n e }

-- every element has P
pub data Every (P : ℕ → Type 0) : List ℕ → Type 0 where
  none : Every P []
  more : {x : ℕ} {xs : List ℕ} → P x → Every P xs → Every P (x ∷ xs)

pub every_so : (P Q : ℕ → Type 0) (xs : List ℕ) → ((x : ℕ) → P x → Q x) → Every P xs → Every Q xs
every_so P Q [] f none = none
every_so P Q (x ∷ xs) f (more p ps) = more (f x p) (every_so P Q xs f ps)

pub every_at : (P : ℕ → Type 0) (xs : List ℕ) (i : ℕ) → i < length xs → Every P xs → P (get_or xs i 0)
every_at P [] i h none = absurd (omega arith)
every_at P (x ∷ xs) zero h (more p ps) = p
every_at P (x ∷ xs) (suc i) h (more p ps) = every_at P xs i (omega arith) ps

pub each_same : (c d : ℕ → ℕ → Bool) (xs ys : List ℕ) → Every (λ x. (y : ℕ) → c x y ≡ d x y) xs → each c xs ys ≡ each d xs ys
unfolding each
each_same c d [] [] none = refl
each_same c d [] (y ∷ ys) none = refl
each_same c d (x ∷ xs) [] (more p ps) = refl
each_same c d (x ∷ xs) (y ∷ ys) (more p ps) = rw (p y, each_same c d xs ys ps)

pub map_same : (f g : ℕ → ℕ) (xs : List ℕ) → Every (λ x. f x ≡ g x) xs → map f xs ≡ map g xs
map_same f g [] none = refl
map_same f g (x ∷ xs) (more p ps) = rw (p, map_same f g xs ps)

-- l is empty, or a cell below r whose element passes
abbrev pub Begins : (ℕ → Bool) → List ℕ → ℕ → ℕ → Type 0
Begins ok ws r l = (l ≡ NONE → ⊥) → (l < r) × (tag ws l ≡ CE) × (ok (field_a ws l) ≡ true)

module _ (ws : List ℕ) (n : ℕ) (g : Sound ws n) where
  pub begins : (ok : ℕ → Bool) (r : ℕ) (h : r < n) (l : ℕ) → Starting ws n g r h ok l → Begins ok ws r l
  begins ok r h l (inl e) z = absurd (z e)
  begins ok r h l (inr p) z = p

  pub rest_begins : (ok : ℕ → Bool) → Follows ws n g ok → (l : ℕ) → l < n → tag ws l ≡ CE → ok (field_a ws l) ≡ true → Begins ok ws l (field_b ws l)
  rest_begins ok on l h e k z = go (cell_rest ws n g l h e)
    where
      go : (field_b ws l ≡ NONE) ⊎ ((field_b ws l < l) × (tag ws (field_b ws l) ≡ CE))
          → (field_b ws l < l) × (tag ws (field_b ws l) ≡ CE) × (ok (field_a ws (field_b ws l)) ≡ true)
      go (inl x) = absurd (z x)
      go (inr x) = (x.0, x.1, on l h e z k)

  pub cell : (c : ℕ) → c < n → tag ws c ≡ CE → Cell ws c
  cell c h e = record {
    elem = cell_element ws n g c h e;
    rest = λ z. elim (cell_rest ws n g c h e) [ inl x ↦ absurd (z x) | inr x ↦ x ];
  }

  cells_every : (ok : ℕ → Bool) → Follows ws n g ok → (k r l : ℕ) → r ≤ n → Begins ok ws r l → Every (λ x. (x < r) × (ok x ≡ true)) (cells k ws l)
  unfolding cells
  cells_every ok on zero r l h b = none
  cells_every ok on (suc k) r l h b = go (ℕ_discrete l NONE) (λ c. cells_every ok on k r (field_b ws l) h c)
    where
      go : Dec (l ≡ NONE) → (Begins ok ws r (field_b ws l) → Every (λ x. (x < r) × (ok x ≡ true)) (cells k ws (field_b ws l)))
          → Every (λ x. (x < r) × (ok x ≡ true)) (cells (suc k) ws l)
      go (yes e) ih = rw (cells_none (suc k) ws l e) none
      go (no z) ih =
          let p = b z in
          let lt = p.0 in
          let a = cell_element ws n g l (omega arith) p.1 in
          let low : field_a ws l < r = omega arith in
          let m = rest_begins ok on l (omega arith) p.1 p.2 in
          rw (cells-more k ws l z) (more (low, p.2) (ih (λ w. let q = m w in let lo = q.0 in (omega arith, q.1, q.2))))

  -- the elements of a list in record r are lower than r and of the list's kind
  pub elements_every : (ok : ℕ → Bool) → Follows ws n g ok → (r l : ℕ) → r ≤ n → Begins ok ws r l → Every (λ x. (x < r) × (ok x ≡ true)) (elements ws l)
  unfolding elements
  elements_every ok on r l h b = cells_every ok on _ r l h b

pub listed_in : (ws : List ℕ) (n : ℕ) (ok : ℕ → Bool) (r l : ℕ) → Legal ws n → r ≤ n → Begins ok ws r l → Listed ws l
listed_in ws n ok r l t h b =
    record { top = n; inside = t.inside; few = t.few; good = cell ws n t.sound; here = λ z. let p = b z in let lt = p.0 in (omega arith, p.1) }
