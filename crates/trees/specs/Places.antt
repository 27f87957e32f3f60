-- The part of a context that a narrowing keeps.
use Rattle.std.specs.Prelude.{refl, List, [], ◌∷◌, ℕ, zero, suc, ◌<◌, length, get_or}
use Rattle.std.proofs.Common.{arith}
use Rattle.trees.specs.Tree.{Ty, base, AllL, At, Vars, v_nil, v_cons}

-- the part K of a context
abbrev pub part : List Ty → List ℕ → List Ty
part C [] = []
part C (k ∷ K) = get_or C k (base 0) ∷ part C K

at_place : (C : List Ty) (k : ℕ) → k < length C → At C k (get_or C k (base 0))
at_place [] k l = absurd (omega arith)
at_place (A ∷ C) zero l = refl
at_place (A ∷ C) (suc k) l = at_place C k (omega arith)

pub vars_part : (C : List Ty) (K : List ℕ) → AllL (λ j. j < length C) K → Vars C K (part C K)
vars_part C [] h = v_nil
vars_part C (k ∷ K) h = v_cons (at_place C k h.0) (vars_part C K h.1)
