-- The examples P6, P8, P9, P10, P12 and P13 as trees, each with its run and its most general unifier; last a trap.
use Rattle.std.specs.Prelude.{◌≡◌, refl, List, [], ◌∷◌, ◌≢◌, ℕ, zero, suc}
use Rattle.std.proofs.Common.{◌∙◌, ap, ap₂, arith}
use Rattle.std.proofs.Math.Option.{Option, none, some, none-ne-some}
use Rattle.std.proofs.Math.Decide.{ℕ_discrete}
use Rattle.trees.specs.Tree.{Ty, base, arr, Tree, lam, con, var, hol, nil, cons, ren, nth, Distinct, Sig, v_nil, v_cons, at, HasTy, t_lam, t_con, t_var, t_hol, t_nil, t_cons, Pairs, PairsTyped}
use Rattle.trees.specs.Moves.{Solutions, nothing, move_lam, move_swap, move_drop, move_expand, Run, run_done, run_step, Def, Covers, Walk, w_con, w_var, w_nil, w_cons, w_kept, w_narrowed, NoneFrozen}
use Rattle.trees.specs.Statements.{Expansion, Principal}
use Rattle.trees.specs.Update.{update, adds_update}
use Rattle.trees.proofs.Leads.{run_trans, run_same}
use Rattle.trees.proofs.Read.{back, back_inverts}
use Rattle.trees.proofs.Walk.{solve_by_walk}
use Rattle.trees.proofs.Demand.{run-start}
use Rattle.trees.proofs.Theorems.{solved_is_most_general}

-- the base type i, and the constants a of type i, f from i to i, g of two arguments
abbrev pub i : Ty
i = base 0

abbrev pub S : ℕ → Option Ty
S zero = some i
S (suc zero) = some (arr i i)
S (suc (suc zero)) = some (arr i (arr i i))
S (suc (suc (suc _))) = none

abbrev pub a : Tree
a = con 0 nil

abbrev pub f : Tree → Tree
f t = con 1 (cons t nil)

abbrev pub g : Tree → Tree → Tree
g t u = con 2 (cons t (cons u nil))

-- the holes U, which is 0, over C, and V, which is 1, over B; a narrowing makes W, which is 2
abbrev pub holes : List Ty → List Ty → Sig
holes C B zero = some (C, 0)
holes C B (suc zero) = some (B, 0)
holes C B (suc (suc _)) = none

-- a run that solves the equations, and what it says of U
record Solved (D : Sig) (ps : Pairs) (u : Tree) : Type 0 where
  sig : Sig
  solutions : Solutions
  typed : PairsTyped S D ps
  run : Run S NoneFrozen D nothing ps sig solutions []
  answer : (F : ℕ → Tree) → Expansion sig solutions F → F 0 ≡ u

-- the equations have a most general unifier that gives U the tree u
abbrev Answer : Sig → Pairs → Tree → Type 0
Answer D ps u = (E : Sig) × (F : ℕ → Tree) × Principal S D ps E F × (F 0 ≡ u)

answered : {D : Sig} {ps : Pairs} {u : Tree} → Solved D ps u → Answer D ps u
answered {D} {ps} e =
    let r = solved_is_most_general S NoneFrozen D ps e.sig e.solutions e.typed e.run in
    (e.sig, r.0.0, r.1 r.0.0 r.0.1, e.answer r.0.0 r.0.1)

-- the first pair U xs = t is solved by a walk of t
pub solved_by : (D E : Sig) (τ : Solutions) (ps : Pairs) (xs : List ℕ) (t s : Tree) → PairsTyped S D ((hol 0 xs, t) ∷ ps) → Distinct xs
    → Walk NoneFrozen 0 D nothing (back xs) t E τ s → τ 0 ≡ none → Run S NoneFrozen D nothing ((hol 0 xs, t) ∷ ps) E (update τ 0 (some s)) ps
solved_by D E τ ps xs t s w d x e =
    solve_by_walk S NoneFrozen 0 D E nothing τ (update τ 0 (some s)) ps xs (back xs) t s (run-start S NoneFrozen D ((hol 0 xs, t) ∷ ps) w).good
    (λ z. z) (back_inverts xs d) x (adds_update τ 0 s e)

-- an equation below two lambdas, over x, which is 1, and y, which is 0, is answered by such a walk
below_xy : (D E : Sig) (τ : Solutions) (xs : List ℕ) (t s u : Tree) → HasTy S D (i ∷ i ∷ []) (hol 0 xs) (at i) → HasTy S D (i ∷ i ∷ []) t (at i)
    → Distinct xs → Walk NoneFrozen 0 D nothing (back xs) t E τ s → τ 0 ≡ none
    → ((F : ℕ → Tree) → Expansion E (update τ 0 (some s)) F → F 0 ≡ u) → Answer D ((lam (lam (hol 0 xs)), lam (lam t)) ∷ []) u
below_xy D E τ xs t s u l r d w e x = answered (record {
  sig = E;
  solutions = update τ 0 (some s);
  typed = (([], at (arr i (arr i i)), t_lam (t_lam l), t_lam (t_lam r)), tt);
  run = run_step move_lam (run_step move_lam (solved_by D E τ [] xs t s ((i ∷ i ∷ [], at i, l, r), tt) d w e));
  answer = x;
})

pub other : ◌≢◌ {A = ℕ} 1 0
other = omega arith

xy : Distinct (1 ∷ 0 ∷ [])
xy = ((omega arith, tt), (tt, tt))

yx : Distinct (0 ∷ 1 ∷ [])
yx = ((omega arith, tt), (tt, tt))

-- P6: \xy.U[x,y] = \xy.U[y,x] gives W[] for U
p6 : Answer (holes (i ∷ i ∷ []) []) ((lam (lam (hol 0 (1 ∷ 0 ∷ []))), lam (lam (hol 0 (0 ∷ 1 ∷ [])))) ∷ []) (hol 2 [])
unfolding ℕ_discrete
p6 = answered (record {
  sig = update D 2 (some ([], 0));
  solutions = update nothing 0 (some (hol 2 []));
  typed = (([], at (arr i (arr i i)), t_lam (t_lam l), t_lam (t_lam r)), tt);
  run =
      run_step move_lam
      (run_step move_lam
      (run_same S NoneFrozen D nothing [] 0 2 (1 ∷ 0 ∷ []) (0 ∷ 1 ∷ []) [] (i ∷ i ∷ []) [] 0 (update D 2 (some ([], 0)))
      (update nothing 0 (some (hol 2 []))) (run-start S NoneFrozen D ((hol 0 (1 ∷ 0 ∷ []), hol 0 (0 ∷ 1 ∷ [])) ∷ []) ((i ∷ i ∷ [], at i, l, r), tt)).good
      (λ z. z) refl differ tt v_nil tt (adds_update D 2 ([], 0) refl) (adds_update nothing 0 (hol 2 []) refl)));
  answer = λ F x. x 0 ∙ ap (ren (nth [])) (x 2);
})
  where
    D : Sig
    D = holes (i ∷ i ∷ []) []

    l : HasTy S D (i ∷ i ∷ []) (hol 0 (1 ∷ 0 ∷ [])) (at i)
    l = t_hol refl (v_cons refl (v_cons refl v_nil)) xy

    r : HasTy S D (i ∷ i ∷ []) (hol 0 (0 ∷ 1 ∷ [])) (at i)
    r = t_hol refl (v_cons refl (v_cons refl v_nil)) yx

    differ : Covers (λ j. nth (1 ∷ 0 ∷ []) j ≡ nth (0 ∷ 1 ∷ []) j) 2 []
    differ zero k e = absurd (omega arith)
    differ (suc zero) k e = absurd (omega arith)
    differ (suc (suc j)) k e = absurd (omega arith)

-- P8: \xy.U[x,y] = \xy.V[y] gives V[y] for U
p8 : Answer (holes (i ∷ i ∷ []) (i ∷ [])) ((lam (lam (hol 0 (1 ∷ 0 ∷ []))), lam (lam (hol 1 (0 ∷ [])))) ∷ []) (hol 1 (1 ∷ []))
unfolding ℕ_discrete
p8 =
    below_xy (holes (i ∷ i ∷ []) (i ∷ [])) (holes (i ∷ i ∷ []) (i ∷ [])) nothing (1 ∷ 0 ∷ []) (hol 1 (0 ∷ [])) (hol 1 (1 ∷ [])) (hol 1 (1 ∷ []))
    (t_hol refl (v_cons refl (v_cons refl v_nil)) xy) (t_hol refl (v_cons refl v_nil) (tt, tt)) xy (w_kept refl other refl) refl
    (λ F x. x 0 ∙ ap (ren (nth (1 ∷ []))) (x 1))

-- the walk of V[x,y] for U[x]: V is narrowed to x, by W
abbrev D : Sig
D = holes (i ∷ []) (i ∷ i ∷ [])

abbrev E : Sig
E = update D 2 (some (i ∷ [], 0))

abbrev τ : Solutions
τ = update nothing 1 (some (hol 2 (0 ∷ [])))

narrowed : Walk NoneFrozen 0 D nothing (back (1 ∷ [])) (hol 1 (1 ∷ 0 ∷ [])) E τ (hol 2 (0 ∷ []))
unfolding ℕ_discrete
narrowed =
    w_narrowed {K = 0 ∷ []} (λ z. z) other refl placed (v_cons refl v_nil) (tt, tt) refl (adds_update D 2 (i ∷ [], 0) refl)
    (adds_update nothing 1 (hol 2 (0 ∷ [])) refl)
  where
    placed : Covers (Def (λ j. back (1 ∷ []) (nth (1 ∷ 0 ∷ []) j))) 2 (0 ∷ [])
    placed zero k d = (0, omega arith, refl)
    placed (suc zero) k d = absurd (none-ne-some d.0 d.1)
    placed (suc (suc j)) k d = absurd (omega arith)

-- P9: \xy.U[x] = \xy.V[x,y] gives W[x] for U
p9 : Answer D ((lam (lam (hol 0 (1 ∷ []))), lam (lam (hol 1 (1 ∷ 0 ∷ [])))) ∷ []) (hol 2 (0 ∷ []))
unfolding ℕ_discrete
p9 =
    below_xy D E τ (1 ∷ []) (hol 1 (1 ∷ 0 ∷ [])) (hol 2 (0 ∷ [])) (hol 2 (0 ∷ [])) (t_hol refl (v_cons refl v_nil) (tt, tt))
    (t_hol refl (v_cons refl (v_cons refl v_nil)) xy) (tt, tt) narrowed refl (λ F x. x 0 ∙ ap (ren (nth (0 ∷ []))) (x 2))

-- P10: \xy.U[x] = \xy.f V[x,y] gives f W[x] for U
p10 : Answer D ((lam (lam (hol 0 (1 ∷ []))), lam (lam (f (hol 1 (1 ∷ 0 ∷ []))))) ∷ []) (f (hol 2 (0 ∷ [])))
unfolding ℕ_discrete
p10 =
    below_xy D E τ (1 ∷ []) (f (hol 1 (1 ∷ 0 ∷ []))) (f (hol 2 (0 ∷ []))) (f (hol 2 (0 ∷ []))) (t_hol refl (v_cons refl v_nil) (tt, tt))
    (t_con refl (t_cons (t_hol refl (v_cons refl (v_cons refl v_nil)) xy) t_nil)) (tt, tt) (w_con (w_cons narrowed w_nil)) refl
    (λ F x. x 0 ∙ ap (λ t. f (ren (nth (0 ∷ [])) t)) (x 2))

-- P12: U[] = V[]; V[] = U[] gives V[] for U: the right side is expanded before the holes are compared
p12 : Answer (holes [] []) ((hol 0 [], hol 1 []) ∷ (hol 1 [], hol 0 []) ∷ []) (hol 1 [])
unfolding ℕ_discrete
p12 = answered (record {
  sig = H;
  solutions = υ;
  typed = eqs_typed;
  run =
      run_trans S NoneFrozen (solved_by H H nothing ((hol 1 [], hol 0 []) ∷ []) [] (hol 1 []) (hol 1 []) eqs_typed tt (w_kept refl other refl) refl)
      (run_step move_swap (run_step (move_expand {h = 0} {s = hol 1 []} refl) (run_step (move_drop (λ X θ k e. refl)) run_done)));
  answer = λ F x. x 0 ∙ ap (ren (nth [])) (x 1);
})
  where
    H : Sig
    H = holes [] []

    υ : Solutions
    υ = update nothing 0 (some (hol 1 []))

    eqs_typed : PairsTyped S H ((hol 0 [], hol 1 []) ∷ (hol 1 [], hol 0 []) ∷ [])
    eqs_typed = (([], at i, t_hol refl v_nil tt, t_hol refl v_nil tt), (([], at i, t_hol refl v_nil tt, t_hol refl v_nil tt), tt))

-- P13: \k.U[k] = \k.k a, k from i to i, gives k a for U
p13 : Answer (holes (arr i i ∷ []) []) ((lam (hol 0 (0 ∷ [])), lam (var 0 (cons a nil))) ∷ []) (var 0 (cons a nil))
unfolding ℕ_discrete
p13 = answered (record {
  sig = H;
  solutions = update nothing 0 (some (var 0 (cons a nil)));
  typed = (([], at (arr (arr i i) i), t_lam l, t_lam r), tt);
  run =
      run_step move_lam
      (solved_by H H nothing [] (0 ∷ []) (var 0 (cons a nil)) (var 0 (cons a nil)) ((arr i i ∷ [], at i, l, r), tt) (tt, tt)
      (w_var refl (w_cons (w_con w_nil) w_nil)) refl);
  answer = λ F x. x 0;
})
  where
    H : Sig
    H = holes (arr i i ∷ []) []

    l : HasTy S H (arr i i ∷ []) (hol 0 (0 ∷ [])) (at i)
    l = t_hol refl (v_cons refl v_nil) (tt, tt)

    r : HasTy S H (arr i i ∷ []) (var 0 (cons a nil)) (at i)
    r = t_var refl (t_cons (t_con refl t_nil) t_nil)

-- The trap: \xy.U[x] = \xy.g V[x] V[y]. The walk writes V[x] and then, at V[y], narrows V to nothing, so that U's solution holds a solved hole;
-- U is g W[] W[].
trap : Answer (holes (i ∷ []) (i ∷ [])) ((lam (lam (hol 0 (1 ∷ []))), lam (lam (g (hol 1 (1 ∷ [])) (hol 1 (0 ∷ []))))) ∷ []) (g (hol 2 []) (hol 2 []))
unfolding ℕ_discrete
trap =
    below_xy H (update H 2 (some ([], 0))) (update nothing 1 (some (hol 2 []))) (1 ∷ []) (g (hol 1 (1 ∷ [])) (hol 1 (0 ∷ [])))
    (g (hol 1 (0 ∷ [])) (hol 2 [])) (g (hol 2 []) (hol 2 [])) (t_hol refl (v_cons refl v_nil) (tt, tt))
    (t_con refl (t_cons (t_hol refl (v_cons refl v_nil) (tt, tt)) (t_cons (t_hol refl (v_cons refl v_nil) (tt, tt)) t_nil))) (tt, tt)
    (w_con
    (w_cons (w_kept refl other refl)
    (w_cons
    (w_narrowed {K = []} (λ z. z) other refl unplaced v_nil tt refl (adds_update H 2 ([], 0) refl) (adds_update nothing 1 (hol 2 []) refl))
    w_nil)))
    refl
    (λ F x. x 0 ∙ ap₂ (λ v w. g (ren (nth (0 ∷ [])) v) (ren (nth []) w)) (x 1 ∙ ap (ren (nth [])) (x 2)) (x 2))
  where
    H : Sig
    H = holes (i ∷ []) (i ∷ [])

    unplaced : Covers (Def (λ j. back (1 ∷ []) (nth (0 ∷ []) j))) 1 []
    unplaced zero k d = absurd (none-ne-some d.0 d.1)
    unplaced (suc j) k d = absurd (omega arith)
