-- The order of the equations that come last does not matter.
use Rattle.std.specs.Prelude.{ℕ, zero, suc, ◌+◌, ◌-◌, ◌<◌, ◌≤◌, ◌≡◌, refl, Bool, true, false}
use Rattle.std.proofs.Common.{sym, ap₂, ◌∙◌, subst, le_refl}
use Rattle.std.proofs.Math.Path.{ap, fun_ext}
use mathlib.Core.List.{List, [], ◌∷◌, ◌++◌, map, map-append, Permᴰ}
use Rattle.std.proofs.Math.Option.{some}
use native.Mathlib.Omega.{arith}
use Rattle.std.proofs.Math.Decide.{dec_lt, ℕ_discrete}
use borrow.Author.Tests.{eq-eqb}
use Rattle.rules.specs.Lists.{those, from, below, enough}
use Rattle.rules.specs.Words.{tag, field_a, field_b, KO, HO, EQ, has}
use Rattle.rules.specs.Machine.{Pair, equations}
use Rattle.rules.specs.Solve.{solve}
use Rattle.trees.specs.Tree.{Ty, Tree, inst, Fills, Pairs}
use Rattle.trees.specs.Pairs.{each_perm}
use Rattle.trees.proofs.Leads.{fills_less}
use Rattle.promise.specs.Table.{type_of, tree_of, pair_of, constants, holes, sides, filling}
use Rattle.promise.specs.Demand.{left, holes_in, pairs_from, Reordered}
use Rattle.promise.specs.Reading.{one, Reads, r_lam, r_con, r_var, r_hol, HoleAt, Same, same_less, same_tag, same_a, reads_later, type_later, hole_later}
use Rattle.promise.specs.State.{reads_below}
use Rattle.promise.specs.Waiting.{PairsRead, p_nil, p_cons}
use Rattle.promise.specs.Readable.{type_at, hole_at}
use Rattle.promise.specs.TableLaws.{type_reads, tree_reads, constants_some, constants_none, holes_some, holes_none}
use Rattle.promise.specs.Admitting.{Admitted, low}
use Rattle.promise.specs.Starting.{equations_same, pairs-typed}
use Rattle.promise.proofs.Solving.{solve_means, solve_final}
use Rattle.laws.specs.Sound.{constant_field}

from_split : (i j m : ℕ) → from i (j + m) ≡ from i j ++ from (i + j) m
unfolding from
from_split i zero m = let e : 0 + m ≡ m = omega arith in let f : i + 0 ≡ i = omega arith in rw (e, f)
from_split i (suc j) m =
    let e : suc j + m ≡ suc (j + m) = omega arith in
    let f : i + suc j ≡ i + 1 + j = omega arith in
    rw (e, f) (ap (i ∷◌) (from_split (i + 1) j m))

those-append : (ok : ℕ → Bool) (xs ys : List ℕ) → those ok (xs ++ ys) ≡ those ok xs ++ those ok ys
unfolding those
those-append ok [] ys = refl
those-append ok (x ∷ xs) ys = go (ok x) refl (those-append ok xs ys)
  where
    go : (b : Bool) → ok x ≡ b → those ok (xs ++ ys) ≡ those ok xs ++ those ok ys → those ok (x ∷ (xs ++ ys)) ≡ those ok (x ∷ xs) ++ those ok ys
    go true e ih = rw (e, those) (ap (x ∷◌) ih)
    go false e ih = rw (e, those) ih

those-whole : (ok : ℕ → Bool) (i k : ℕ) → ((j : ℕ) → i ≤ j → j < i + k → ok j ≡ true) → those ok (from i k) ≡ from i k
unfolding those from
those-whole ok i zero h = refl
those-whole ok i (suc k) h = rw (h i (omega arith) (omega arith), those) (ap (i ∷◌) (those-whole ok (i + 1) k (λ j a b. h j (omega arith) (omega arith))))

-- the equations below n are those below k and all records from k on
module _ (ws : List ℕ) (k n : ℕ) (h : k ≤ n) (l : (r : ℕ) → k ≤ r → r < n → tag ws r ≡ EQ) where
  records_split : those (λ j. has ws j EQ) (from 0 n) ≡ those (λ j. has ws j EQ) (from 0 k) ++ from k (n - k)
  unfolding has
  records_split =
      let e : n ≡ k + (n - k) = omega arith in
      let f : 0 + k ≡ k = omega arith in
      let s : from 0 n ≡ from 0 k ++ from k (n - k) = ap (from 0) e ∙ from_split 0 k (n - k) ∙ ap (λ z. from 0 k ++ from z (n - k)) f in
      let w = those-whole (λ j. has ws j EQ) k (n - k) (λ j a b. eq-eqb _ _ (l j a (omega arith))) in
      ap (those (λ j. has ws j EQ)) s ∙ those-append (λ j. has ws j EQ) (from 0 k) (from k (n - k)) ∙ ap (those (λ j. has ws j EQ) (from 0 k) ++◌) w

  equations_split : equations ws n ≡ equations ws k ++ pairs_from ws k (n - k)
  unfolding equations below
  equations_split = ap (map (λ j. (field_a ws j, field_b ws j))) records_split ∙ map-append (λ j. (field_a ws j, field_b ws j)) (those (λ j. has ws j EQ) (from 0 k)) (from k (n - k))

map_perm : {A B : Type 0} (f : A → B) {q r : List A} → Permᴰ q r → Permᴰ (map f q) (map f r)
map_perm f mathlib.Core.List.Permᴰ.nil = mathlib.Core.List.Permᴰ.nil
map_perm f (mathlib.Core.List.Permᴰ.cons e d) = mathlib.Core.List.Permᴰ.cons (ap f e) (map_perm f d)
map_perm f (mathlib.Core.List.Permᴰ.swap e g) = mathlib.Core.List.Permᴰ.swap (ap f e) (ap f g)
map_perm f (mathlib.Core.List.Permᴰ.trans d e) = mathlib.Core.List.Permᴰ.trans (map_perm f d) (map_perm f e)

-- a term's record is no equation
term_no_equation : {ws : List ℕ} {n r : ℕ} {t : Tree} → Reads ws n (one r) t → tag ws r ≡ EQ → ⊥
term_no_equation (r_lam h e a d) q = let z : ◌≡◌ {A = ℕ} 6 10 = sym e ∙ q in omega arith
term_no_equation (r_con h e a b l d) q = let z : ◌≡◌ {A = ℕ} 7 10 = sym e ∙ q in omega arith
term_no_equation (r_var h e a b l d) q = let z : ◌≡◌ {A = ℕ} 8 10 = sym e ∙ q in omega arith
term_no_equation (r_hol h e a b l d) q = let z : ◌≡◌ {A = ℕ} 9 10 = sym e ∙ q in omega arith

reads_tight : {ws : List ℕ} {n m r : ℕ} {t : Tree} → r < m → Reads ws n (one r) t → Reads ws m (one r) t
reads_tight k (r_lam h e a d) = r_lam k e a d
reads_tight k (r_con h e a b l d) = r_con k e a b l d
reads_tight k (r_var h e a b l d) = r_var k e a b l d
reads_tight k (r_hol h e a b l d) = r_hol k e a b l d

hole_tight : {ws : List ℕ} {n m h : ℕ} {C : List Ty} {b : ℕ} → h < m → HoleAt ws n h C b → HoleAt ws m h C b
hole_tight k d = record {
  low = k;
  is = d.is;
  list = d.list;
  first = d.first;
  entries = d.entries;
  listed = d.listed;
  context = d.context;
  at = d.at;
  second = d.second;
  result = d.result;
}

module _ (ws ss vs : List ℕ) (k n : ℕ) (a : Admitted ws ss n) (o : Reordered k n ws vs) where
  same : Same k ws vs
  same = record { word = o.same }

  fuel : n ≤ enough
  fuel = omega (arith, low ws ss n a)

  -- a record that is no equation in the one table is the same in the other
  early : (us : List ℕ) → ((r : ℕ) → k ≤ r → r < n → tag us r ≡ EQ) → (r j : ℕ) → r < n → tag us r ≡ j → (j ≡ EQ → ⊥) → r < k
  early us l r j h e q = go (dec_lt r k)
    where
      go : Dec (r < k) → r < k
      go (yes x) = x
      go (no x) = absurd (q (sym e ∙ l r (omega arith) h))

  early_one : (r j : ℕ) → r < n → tag ws r ≡ j → (j ≡ EQ → ⊥) → r < k
  early_one = early ws (λ r x y. (o.last r x y).0)

  early_other : (r j : ℕ) → r < n → tag vs r ≡ j → (j ≡ EQ → ⊥) → r < k
  early_other = early vs (λ r x y. (o.last r x y).1)

  same_constants : (c : ℕ) → constants ws n c ≡ constants vs n c
  same_constants c = go (dec_lt c n) (ℕ_discrete (tag ws c) KO)
    where
      go : Dec (c < n) → Dec (tag ws c ≡ KO) → constants ws n c ≡ constants vs n c
      go (no h) t = constants_none ws n c (λ x _. h x) ∙ sym (constants_none vs n c (λ x _. h x))
      go (yes h) (no t) =
          constants_none ws n c (λ _ x. t x)
          ∙ sym (constants_none vs n c (λ _ x. t (sym (same_tag same (early_other c KO h x (omega arith)) refl) ∙ x)))
      go (yes h) (yes t) =
          let l = early_one c KO h t (omega arith) in
          let f = constant_field ws n a.sound c h t in
          let y = type_at ws n a.sound (low ws ss n a) (field_a ws c) (omega (arith, f.0)) f.1 in
          let x = type_later (same_less {m = suc (field_a ws c)} (omega (arith, f.0)) same) (le_refl _) y.1 in
          constants_some ws n c h t
          ∙ ap some (type_reads enough (omega (arith, f.0, fuel)) y.1 ∙ sym (type_reads enough (omega (arith, f.0, fuel)) x) ∙ ap (type_of vs) (sym (same_a same l refl)))
          ∙ sym (constants_some vs n c h (same_tag same l t))

  same_holes : (h : ℕ) → holes ws n h ≡ holes vs n h
  same_holes h = go (dec_lt h n) (ℕ_discrete (tag ws h) HO)
    where
      go : Dec (h < n) → Dec (tag ws h ≡ HO) → holes ws n h ≡ holes vs n h
      go (no l) t = holes_none ws n h (λ x _. l x) ∙ sym (holes_none vs n h (λ x _. l x))
      go (yes l) (no t) =
          holes_none ws n h (λ _ x. t x) ∙ sym (holes_none vs n h (λ _ x. t (sym (same_tag same (early_other h HO l x (omega arith)) refl) ∙ x)))
      go (yes l) (yes t) =
          let e = early_one h HO l t (omega arith) in
          let x = hole_at ws n a.sound (low ws ss n a) h l t in
          holes_some fuel x.2 ∙ sym (holes_some fuel (hole_later same o.within (hole_tight e x.2)))

  same_tree : {x : ℕ} {t : Tree} → Reads ws n (one x) t → tree_of ws x ≡ tree_of vs x
  same_tree {x} d =
      let e = before (dec_lt x k) in
      tree_reads fuel d ∙ sym (tree_reads fuel (reads_later same o.within (reads_tight e d)))
    where
      before : Dec (x < k) → x < k
      before (yes y) = y
      before (no y) = absurd (term_no_equation d (o.last x (omega arith) (reads_below d)).0)

  same_pairs : {q : List Pair} {ps : Pairs} → PairsRead ws n q ps
      → map (pair_of ws) q ≡ map (pair_of vs) q
  same_pairs p_nil = refl
  same_pairs (p_cons x y r) = ap₂ ◌∷◌ (ap₂ (λ z w. (z, w)) (same_tree x) (same_tree y)) (same_pairs r)

  same_sides : Permᴰ (sides ws n) (sides vs n)
  unfolding sides
  same_sides =
      let e = equations_split ws k n o.within (λ r x y. (o.last r x y).0) in
      let f = equations_split vs k n o.within (λ r x y. (o.last r x y).1) in
      let g = equations_same ws vs k same in
      let p : Permᴰ (equations ws n) (equations vs n) = rw (e, f, g) (mathlib.Core.List.Permᴰ.append_left (equations ws k) o.order) in
      rw (same_pairs (pairs-typed ws ss n a).1) (map_perm (pair_of vs) p)

-- if one table is solved, a table that differs only in the order of the equations that come last is not refuted
pub solve_order : (ws ss qs vs ts rs : List ℕ) (k n : ℕ) → Reordered k n ws vs → (solve ws ss qs n).said.answer ≡ 0 → 1 ≤ (solve vs ts rs n).said.answer
    → (solve vs ts rs n).said.answer ≤ 3 → ⊥
solve_order ws ss qs vs ts rs k n o e x y =
    let a = (solve_final ws ss qs n e).allowed in
    let b = (solve_means ws ss qs n).solved e in
    let s = left (solve ws ss qs n) in
    let f = fills_less (constants ws n) (holes ws n) (holes_in s) (holes_in s) (filling s) b.input b.typed in
    let c : constants ws n ≡ constants vs n = fun_ext (same_constants ws ss vs k n a o) in
    let h : holes ws n ≡ holes vs n = fun_ext (same_holes ws ss vs k n a o) in
    (solve_means vs ts rs n).refuted x y (holes_in s) (filling s) (record {
      typed = subst (λ S. Fills S (holes vs n) (holes_in s) (filling s)) c (subst (λ D. Fills (constants ws n) D (holes_in s) (filling s)) h f);
      equal = each_perm (λ l r. inst (filling s) l ≡ inst (filling s) r) (same_sides ws ss vs k n a o) b.equal;
    })
