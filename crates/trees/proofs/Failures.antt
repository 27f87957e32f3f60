-- Examples of failures as trees (P4, P5, P11), each without any filling, and of a frozen hole.
use Rattle.std.specs.Prelude.{◌≡◌, refl, [], ◌∷◌, ◌≢◌, ℕ}
use Rattle.std.proofs.Common.{ap, arith}
use Rattle.std.proofs.Math.Option.{some}
use Rattle.std.proofs.Math.Decide.{ℕ_discrete}
use Rattle.trees.specs.Tree.{arr, Tree, lam, var, hol, nil, Sig, v_nil, v_cons, at, t_lam, t_con, t_var, t_hol, t_nil, t_cons, Pairs, Equates, PairsTyped, Fills, Leaves}
use Rattle.trees.specs.Moves.{nothing, move_lam, move_expand, run_done, run_step, Walk, w_con, w_nil, w_kept, l_escape, l_occurs, l_frozen, l_con, l_first, Head, h_lam, h_nil, h_cons, h_con, h_var, h_hol, fails_clash, fails-walk, NoneFrozen}
use Rattle.trees.specs.Update.{update}
use Rattle.trees.proofs.Leads.{run_trans}
use Rattle.trees.proofs.Read.{back, back_inverts}
use Rattle.trees.proofs.Theorems.{failed_has_no_filling}
use Rattle.trees.proofs.Examples.{i, S, a, f, holes, solved_by, other}

-- no typed filling that leaves the frozen holes as they are makes the equations equal
abbrev NoFilling : (ℕ → Type 0) → Sig → Pairs → Type 0
NoFilling Frozen D ps = (X : Sig) (θ : ℕ → Tree) → Fills S D X θ → Leaves Frozen D θ → ¬ (Equates θ ps)

-- P4: \x.U[] = \x.x is an escape
p4 : NoFilling NoneFrozen (holes [] []) ((lam (hol 0 []), lam (var 0 nil)) ∷ [])
p4 =
    failed_has_no_filling S NoneFrozen D ((lam (hol 0 []), lam (var 0 nil)) ∷ []) D nothing ((hol 0 [], var 0 nil) ∷ []) (λ h z. absurd z)
    (([], at (arr i i), t_lam (t_hol refl v_nil tt), t_lam (t_var refl t_nil)), tt) (run_step move_lam run_done)
    (fails-walk (back_inverts [] tt) (l_escape refl))
  where
    D : Sig
    D = holes [] []

-- P5: U[] = f U[] is an occurs
p5 : NoFilling NoneFrozen (holes [] []) ((hol 0 [], f (hol 0 [])) ∷ [])
p5 =
    failed_has_no_filling S NoneFrozen D ((hol 0 [], f (hol 0 [])) ∷ []) D nothing ((hol 0 [], f (hol 0 [])) ∷ []) (λ h z. absurd z)
    (([], at i, t_hol refl v_nil tt, t_con refl (t_cons (t_hol refl v_nil tt) t_nil)), tt) run_done
    (fails-walk (back_inverts [] tt) (l_con (l_first l_occurs)))
  where
    D : Sig
    D = holes [] []

-- P11: U[] = a; U[] = f a is a clash, of a and f a
p11 : NoFilling NoneFrozen (holes [] []) ((hol 0 [], a) ∷ (hol 0 [], f a) ∷ [])
unfolding ℕ_discrete
p11 =
    failed_has_no_filling S NoneFrozen D ps D (update nothing 0 (some a)) ((a, f a) ∷ []) (λ h z. absurd z) typed
    (run_trans S NoneFrozen (solved_by D D nothing ((hol 0 [], f a) ∷ []) [] a a typed tt (w_con w_nil) refl) (run_step (move_expand {s = a} refl) run_done))
    (fails_clash tt tt apart)
  where
    D : Sig
    D = holes [] []

    ps : Pairs
    ps = (hol 0 [], a) ∷ (hol 0 [], f a) ∷ []

    typed : PairsTyped S D ps
    typed =
        (([], at i, t_hol refl v_nil tt, t_con refl t_nil), (([], at i, t_hol refl v_nil tt, t_con refl (t_cons (t_con refl t_nil) t_nil)), tt))

    number : Head → ℕ
    number h_lam = 0
    number h_nil = 0
    number h_cons = 0
    number (h_con c) = c
    number (h_var v) = 0
    number (h_hol h xs) = 0

    apart : h_con 0 ≢ h_con 1
    apart e = let n : number (h_con 0) ≡ number (h_con 1) = ap number e in omega arith

-- V frozen: U[x] = V[y] is an escape, and U[x] = V[x] solves U
frozen_escapes : NoFilling (λ h. h ≡ 1) (holes (i ∷ []) (i ∷ [])) ((hol 0 (1 ∷ []), hol 1 (0 ∷ [])) ∷ [])
unfolding ℕ_discrete
frozen_escapes =
    failed_has_no_filling S (λ h. h ≡ 1) D ps D nothing ps (λ h z. ((i ∷ [], 0), rw z refl))
    ((i ∷ i ∷ [], at i, t_hol refl (v_cons refl v_nil) (tt, tt), t_hol refl (v_cons refl v_nil) (tt, tt)), tt) run_done
    (fails-walk (back_inverts (1 ∷ []) (tt, tt)) (l_frozen {ys = 0 ∷ []} 0 refl (omega arith) refl))
  where
    D : Sig
    D = holes (i ∷ []) (i ∷ [])

    ps : Pairs
    ps = (hol 0 (1 ∷ []), hol 1 (0 ∷ [])) ∷ []

frozen_kept : Walk (λ h. h ≡ 1) 0 (holes (i ∷ []) (i ∷ [])) nothing (back (1 ∷ [])) (hol 1 (1 ∷ [])) (holes (i ∷ []) (i ∷ [])) nothing (hol 1 (0 ∷ []))
unfolding ℕ_discrete
frozen_kept = w_kept refl other refl
