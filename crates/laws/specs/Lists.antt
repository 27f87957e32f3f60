-- Lists of a table whose cells refer to lower cells: their elements cell by cell, whatever the fuel, and as long as the words stay.
use Rattle.std.specs.Prelude.{ℕ, zero, suc, ◌+◌, ◌*◌, ◌<◌, ◌≤◌, ◌≡◌, refl, List, [], ◌∷◌, true, false, length, get_or, eqb}
use Rattle.std.proofs.Common.{sym, ap, ◌∙◌, arith, eq-eqb, ne_eqb}
use Rattle.std.proofs.Math.Decide.{ℕ_discrete}
use Rattle.rules.specs.Words.{NONE, tag, field_a, field_b, cells, elements, CE}

-- a record's number and one, and 0 of NONE: what falls from a reference to the next
unfoldable pub size : ℕ → ℕ
size x = elim (eqb x NONE) [ true ↦ 0 | false ↦ suc x ]

pub size_none : (x : ℕ) → x ≡ NONE → size x ≡ 0
unfolding size
size_none x h = rw (eq-eqb _ _ h, size)

pub size_real : (x : ℕ) → (x ≡ NONE → ⊥) → size x ≡ suc x
unfolding size
size_real x h = rw (ne_eqb _ _ h, size)

pub size_below : (x n : ℕ) → ((x ≡ NONE → ⊥) → x < n) → size x ≤ n
size_below x n h = go (ℕ_discrete x NONE)
  where
    go : Dec (x ≡ NONE) → size x ≤ n
    go (yes e) = let z = size_none x e in omega arith
    go (no e) = let z = size_real x e in let l = h e in omega arith

-- cell c refers to lower records, and on to a cell
pub record Cell (ws : List ℕ) (c : ℕ) : Type 0 where
  pub elem : field_a ws c < c
  pub rest : (field_b ws c ≡ NONE → ⊥) → (field_b ws c < c) × (tag ws (field_b ws c) ≡ CE)

-- list l can be read
pub record Listed (ws : List ℕ) (l : ℕ) : Type 0 where
  pub top : ℕ
  pub inside : 4 * top ≤ length ws
  pub few : top ≤ 4096
  pub good : (c : ℕ) → c < top → tag ws c ≡ CE → Cell ws c
  pub here : (l ≡ NONE → ⊥) → (l < top) × (tag ws l ≡ CE)

pub cells_none : (k : ℕ) (ws : List ℕ) (l : ℕ) → l ≡ NONE → cells k ws l ≡ []
unfolding cells
cells_none zero ws l e = refl
cells_none (suc k) ws l e = rw (eq-eqb _ _ e, cells)

pub cells-more : (k : ℕ) (ws : List ℕ) (l : ℕ) → (l ≡ NONE → ⊥) → cells (suc k) ws l ≡ field_a ws l ∷ cells k ws (field_b ws l)
unfolding cells
cells-more k ws l n = rw (ne_eqb _ _ n, cells)

cells_stable : (j k : ℕ) (ws : List ℕ) (top l : ℕ) → ((c : ℕ) → c < top → tag ws c ≡ CE → Cell ws c) → ((l ≡ NONE → ⊥) → (l < top) × (tag ws l ≡ CE))
    → size l ≤ j → size l ≤ k → cells j ws l ≡ cells k ws l
cells_stable zero k ws top l good here h g = go (ℕ_discrete l NONE)
  where
    go : Dec (l ≡ NONE) → cells zero ws l ≡ cells k ws l
    go (yes e) = cells_none zero ws l e ∙ sym (cells_none k ws l e)
    go (no n) = let z = size_real l n in absurd (omega arith)
cells_stable (suc j) zero ws top l good here h g = go (ℕ_discrete l NONE)
  where
    go : Dec (l ≡ NONE) → cells (suc j) ws l ≡ cells zero ws l
    go (yes e) = cells_none (suc j) ws l e ∙ sym (cells_none zero ws l e)
    go (no n) = let z = size_real l n in absurd (omega arith)
cells_stable (suc j) (suc k) ws top l good here h g = go (ℕ_discrete l NONE) (λ p a b. cells_stable j k ws top (field_b ws l) good p a b)
  where
    go : Dec (l ≡ NONE)
        → (((field_b ws l ≡ NONE → ⊥) → (field_b ws l < top) × (tag ws (field_b ws l) ≡ CE)) → size (field_b ws l) ≤ j → size (field_b ws l) ≤ k → cells j ws (field_b ws l) ≡ cells k ws (field_b ws l))
        → cells (suc j) ws l ≡ cells (suc k) ws l
    go (yes e) ih = cells_none _ ws l e ∙ sym (cells_none _ ws l e)
    go (no n) ih =
        let q = here n in
        let lt = q.0 in
        let r = (good l lt q.1).rest in
        let z = size_real l n in
        let s = size_below (field_b ws l) l (λ m. (r m).0) in
        rw (cells-more j ws l n, cells-more k ws l n, ih (λ m. let lo = (r m).0 in (omega arith, (r m).1)) (omega arith) (omega arith))

pub elements_none : (ws : List ℕ) (l : ℕ) → l ≡ NONE → elements ws l ≡ []
unfolding elements
elements_none ws l e = cells_none _ ws l e

pub listed_rest : (ws : List ℕ) (l : ℕ) → (l ≡ NONE → ⊥) → Listed ws l → Listed ws (field_b ws l)
listed_rest ws l n h =
    let q = h.here n in
    let lt = q.0 in
    let r = (h.good l lt q.1).rest in
    record { top = h.top; inside = h.inside; few = h.few; good = h.good; here = λ m. let lo = (r m).0 in (omega arith, (r m).1) }

pub elements_cell : (ws : List ℕ) (l : ℕ) → (l ≡ NONE → ⊥) → Listed ws l → elements ws l ≡ field_a ws l ∷ elements ws (field_b ws l)
unfolding elements listed_rest
elements_cell ws l n h =
    let r = listed_rest ws l n h in
    let f = h.few in
    let s = size_below (field_b ws l) h.top (λ m. (r.here m).0) in
    cells-more 18446744073709551615 ws l n ∙ ap (λ (xs : List ℕ). field_a ws l ∷ xs) (cells_stable 18446744073709551615 18446744073709551616 ws h.top (field_b ws l) h.good r.here (omega arith) (omega arith))

cells-kept : (k : ℕ) (ws ws₁ : List ℕ) (u l : ℕ) → ((i : ℕ) → i < 4 * u → get_or ws₁ i 0 ≡ get_or ws i 0) → ((c : ℕ) → c < u → tag ws c ≡ CE → Cell ws c)
    → ((l ≡ NONE → ⊥) → (l < u) × (tag ws l ≡ CE)) → cells k ws₁ l ≡ cells k ws l
unfolding cells
cells-kept zero ws ws₁ u l same good here = refl
cells-kept (suc k) ws ws₁ u l same good here = go (ℕ_discrete l NONE) (λ g. cells-kept k ws ws₁ u (field_b ws l) same good g)
  where
    go : Dec (l ≡ NONE) → (((field_b ws l ≡ NONE → ⊥) → (field_b ws l < u) × (tag ws (field_b ws l) ≡ CE)) → cells k ws₁ (field_b ws l) ≡ cells k ws (field_b ws l)) → cells (suc k) ws₁ l ≡ cells (suc k) ws l
    go (yes e) ih = cells_none (suc k) ws₁ l e ∙ sym (cells_none (suc k) ws l e)
    go (no e) ih =
        let q = here e in
        let lt = q.0 in
        let r = (good l lt q.1).rest in
        let a₁ : field_a ws₁ l ≡ field_a ws l = same (4 * l + 1) (omega arith) in
        let b₁ : field_b ws₁ l ≡ field_b ws l = same (4 * l + 2) (omega arith) in
        let t = ih (λ g. let lo = (r g).0 in (omega arith, (r g).1)) in
        rw (cells-more k ws₁ l e, cells-more k ws l e, a₁, b₁, t)

pub elements-kept : (ws ws₁ : List ℕ) (u l : ℕ) → ((i : ℕ) → i < 4 * u → get_or ws₁ i 0 ≡ get_or ws i 0) → ((c : ℕ) → c < u → tag ws c ≡ CE → Cell ws c)
    → ((l ≡ NONE → ⊥) → (l < u) × (tag ws l ≡ CE)) → elements ws₁ l ≡ elements ws l
unfolding elements
elements-kept ws ws₁ u l same good here = cells-kept _ ws ws₁ u l same good here
