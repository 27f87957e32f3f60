-- The functions of Table give what the readings say.
use Rattle.std.specs.Prelude.{ℕ, zero, suc, ◌<◌, ◌≤◌, List, ◌∷◌, map, ltb}
use Rattle.std.proofs.Math.Path.{◌≡◌, refl, ap}
use Rattle.std.proofs.Common.{sym, ap₂, ◌∙◌}
use Rattle.std.proofs.Math.Bool.{true, not}
use Rattle.std.proofs.Math.Option.{Option, none, some, none-ne-some}
use native.Mathlib.Omega.{arith}
use Rattle.std.proofs.Math.Decide.{dec_lt}
use Rattle.std.proofs.Math.ListN.{get_or}
use Rattle.std.proofs.Math.Dec.{eqb}
use borrow.Author.Tests.{lt-ltb, eq-eqb, ne_eqb}
use Rattle.rules.specs.Lists.{both, all, enough}
use Rattle.rules.specs.Words.{tag, field_a, field_b, NONE, BT, AR, KO, HO, has, elements, bare}
use Rattle.rules.specs.Store.{Store, solved, solution}
use Rattle.rules.specs.Machine.{Pair}
use Rattle.laws.specs.Tests.{both_yes, both_never}
use Rattle.trees.specs.Tree.{Ty, base, arr, Tree, lam, con, var, cons, Sig, Pairs}
use Rattle.trees.specs.Moves.{Solutions}
use Rattle.promise.specs.Table.{type_at, type_of, spine, tree_at, tree_of, pair_of, constants, holes, solution_of}
use Rattle.promise.specs.Reading.{Bares, b_nil, b_cons, Node, one, many, Reads, r_lam, r_con, r_var, r_hol, r_nil, r_cons, ReadsTy, ty_base, ty_arr, ReadsTys, ty_nil, ty_cons, HoleAt, listed-elements, listed-arguments, listed-variables}
use Rattle.promise.specs.Rewriting.{form_lam, form_con, form_var, form_hol}
use Rattle.promise.specs.State.{Holds, reads_below}
use Rattle.promise.specs.Waiting.{PairsRead, p_nil, p_cons}

type_arrow : (f : ℕ) (ws : List ℕ) (r : ℕ) → tag ws r ≡ AR → type_at (suc f) ws r ≡ arr (type_at f ws (field_a ws r)) (type_at f ws (field_b ws r))
unfolding type_at has
type_arrow f ws r e = rw (e, type_at)

type_base : (f : ℕ) (ws : List ℕ) (r : ℕ) → tag ws r ≡ BT → type_at (suc f) ws r ≡ base (field_a ws r)
unfolding type_at has
type_base f ws r e = rw (e, type_at)

pub type_reads : (f : ℕ) {ws : List ℕ} {n r : ℕ} {A : Ty} → n ≤ f → ReadsTy ws n r A → type_at f ws r ≡ A
type_reads zero h (ty_base l e x) = absurd (omega arith)
type_reads (suc f) {ws} {r = r} h (ty_base l e x) = type_base f ws r e ∙ ap base x
type_reads zero h (ty_arr l e x y d p) = absurd (omega arith)
type_reads (suc f) {ws} {r = r} h (ty_arr l e x y d p) =
    type_arrow f ws r e ∙ ap₂ arr (ap (type_at f ws) x ∙ type_reads f (omega arith) d) (ap (type_at f ws) y ∙ type_reads f (omega arith) p)

types_read : {ws : List ℕ} {n : ℕ} {xs : List ℕ} {C : List Ty} → n ≤ enough → ReadsTys ws n xs C → map (λ x. type_of ws x) xs ≡ C
types_read h ty_nil = refl
types_read h (ty_cons d e) = ap₂ ◌∷◌ (type_reads enough h d) (types_read h e)

-- bare variables pass the test
all-bare : {ws : List ℕ} {n : ℕ} {xs vs : List ℕ} → Bares ws n xs vs → all (bare ws) xs ≡ true
unfolding all bare both has
all-bare b_nil = refl
all-bare (b_cons h t a b d) = rw (t, b) (all-bare d)

-- a node as a tree
node_at : ℕ → List ℕ → Node → Tree
node_at f ws (one r) = tree_at f ws r
node_at f ws (many xs) = spine (λ x. tree_at f ws x) xs

node_reads : {ws : List ℕ} (f : ℕ) {n : ℕ} {x : Node} {t : Tree} → n ≤ f → Reads ws n x t → node_at f ws x ≡ t
unfolding node_at tree_at spine
node_reads zero h (r_lam l e x d) = absurd (omega arith)
node_reads {ws} (suc f) h (r_lam {r = r} l e x d) = rw (form_lam ws r e, tree_at, x) (ap lam (node_reads f (omega arith) d))
node_reads zero h (r_con l e x y g d) = absurd (omega arith)
node_reads {ws} (suc f) h (r_con {r = r} {c = c} l e x y g d) = rw (form_con ws r e, tree_at, x, listed-arguments r y g) (ap (con c) (node_reads f (omega arith) d))
node_reads zero h (r_var l e x y g d) = absurd (omega arith)
node_reads {ws} (suc f) h (r_var {r = r} {v = v} l e x y g d) = rw (form_var ws r e, tree_at, x, listed-arguments r y g) (ap (var v) (node_reads f (omega arith) d))
node_reads zero h (r_hol l e x y g d) = absurd (omega arith)
node_reads {ws} (suc f) h (r_hol {r = r} l e x y g d) = rw (form_hol ws r e, tree_at, ap (all (bare ws)) (listed-arguments r y g) ∙ all-bare d, x, listed-variables r y g d)
node_reads f h r_nil = refl
node_reads f h (r_cons d e) = ap₂ cons (node_reads f h d) (node_reads f h e)

pub tree_reads : {ws : List ℕ} {n r : ℕ} {t : Tree} → n ≤ enough → Reads ws n (one r) t → tree_of ws r ≡ t
unfolding node_at
tree_reads h d = node_reads enough h d

pub pairs-read : {ws : List ℕ} {n : ℕ} {q : List Pair} {ps : Pairs} → n ≤ enough → PairsRead ws n q ps → map (pair_of ws) q ≡ ps
pairs-read h p_nil = refl
pairs-read h (p_cons d e r) = ap₂ ◌∷◌ (ap₂ (λ x y. (x, y)) (tree_reads h d) (tree_reads h e)) (pairs-read h r)

-- the holes
pub constants_some : (ws : List ℕ) (n c : ℕ) → c < n → tag ws c ≡ KO → constants ws n c ≡ some (type_of ws (field_a ws c))
unfolding constants has
constants_some ws n c h e = let t = both_yes (ltb c n) (has ws c KO) (lt-ltb c n h) (eq-eqb _ _ e) in rw (t, constants)

pub constants_none : (ws : List ℕ) (n c : ℕ) → (c < n → tag ws c ≡ KO → ⊥) → constants ws n c ≡ none
unfolding constants has
constants_none ws n c k =
    let t = both_never (ltb c n) (has ws c KO) (λ x y. k (borrow.Author.Tests.ltb-true c n x) (borrow.Author.Tests.eqb-true (tag ws c) KO y)) in
    rw (t, constants)

base_number : {ws : List ℕ} {n r b : ℕ} → ReadsTy ws n r (base b) → field_a ws r ≡ b
base_number (ty_base h e x) = x

pub holes_some : {ws : List ℕ} {n h : ℕ} {C : List Ty} {b : ℕ} → n ≤ enough → HoleAt ws n h C b → holes ws n h ≡ some (C, b)
unfolding holes has
holes_some {ws} {n} {h} {C} {b} k d =
    let t = both_yes (ltb h n) (has ws h HO) (lt-ltb h n d.low) (eq-eqb _ _ d.is) in
    let els : elements ws (field_a ws h) ≡ d.entries = ap (elements ws) d.first ∙ listed-elements d.listed in
    let x : map (λ y. type_of ws y) (elements ws (field_a ws h)) ≡ C = ap (map (λ y. type_of ws y)) els ∙ types_read (omega (arith, d.low)) d.context in
    let y : field_a ws (field_b ws h) ≡ b = ap (field_a ws) d.second ∙ base_number d.result in
    rw (t, holes) (ap₂ (λ u v. some (u, v)) x y)

pub holes_none : (ws : List ℕ) (n h : ℕ) → (h < n → tag ws h ≡ HO → ⊥) → holes ws n h ≡ none
unfolding holes has
holes_none ws n h k =
    let t = both_never (ltb h n) (has ws h HO) (λ x y. k (borrow.Author.Tests.ltb-true h n x) (borrow.Author.Tests.eqb-true (tag ws h) HO y)) in
    rw (t, holes)

pub holes_low : (ws : List ℕ) (n h : ℕ) (c : List Ty × ℕ) → holes ws n h ≡ some c → h < n
holes_low ws n h c e = go (dec_lt h n)
  where
    go : Dec (h < n) → h < n
    go (yes l) = l
    go (no l) = absurd (none-ne-some c (sym (holes_none ws n h (λ x _. l x)) ∙ e))

module _ {R : ℕ} {s : Store} {D : Sig} {σ : Solutions} (i : Holds R s D σ) where
  fuel : s.used ≤ enough
  fuel = omega (arith, i.fits.full, i.fits.small)

  -- the holes that a store declares are those of its table
  pub holds-holes : (h : ℕ) → D h ≡ holes s.words s.used h
  holds-holes h = go (D h) refl
    where
      go : (o : Option (List Ty × ℕ)) → D h ≡ o → o ≡ holes s.words s.used h
      go (some c) e = sym (holes_some fuel (i.declared h c.0 c.1 e))
      go none e = sym (holes_none s.words s.used h (λ l t. i.all h l t e))

  -- and so are the solutions, where solved holes are declared
  pub holds_solutions : ((h : ℕ) (t : Tree) → σ h ≡ some t → h < s.used) → (h : ℕ) → σ h ≡ solution_of s h
  unfolding solution_of solved solution
  holds_solutions low h = go (σ h) refl
    where
      go : (o : Option Tree) → σ h ≡ o → o ≡ solution_of s h
      go (some t) e =
          let d = i.solves h t e in
          let l = reads_below d in
          let n : get_or s.solutions h NONE ≡ NONE → ⊥ = omega (arith, i.fits.full, i.fits.small) in
          let x = both_yes (ltb h s.used) (solved s h) (lt-ltb h s.used (low h t e)) (ap not (ne_eqb _ _ n)) in
          rw (x, solution_of) (ap some (sym (tree_reads fuel d)))
      go none e =
          let x = both_never (ltb h s.used) (solved s h) (λ a b. unsolved (borrow.Author.Tests.ltb-true h s.used a) b) in
          rw (x, solution_of) refl
        where
          unsolved : h < s.used → not (eqb (get_or s.solutions h NONE) NONE) ≡ true → ⊥
          unsolved a b =
              let z : eqb (get_or s.solutions h NONE) NONE ≡ true = eq-eqb _ _ (i.leaves h (omega (arith, i.fits.full)) e) in
              let y : not true ≡ true = ap not (sym z) ∙ b in
              let x : ◌≡◌ {A = ℕ} 0 1 = cc in
              omega arith
