-- What reads as a typed tree is in scope under its context.
use Rattle.std.specs.Prelude.{ℕ, suc, ◌+◌, ◌<◌, ◌≤◌, ◌≡◌, refl, List, [], ◌∷◌, length}
use Rattle.std.proofs.Common.{sym, ap, ◌∙◌, arith}
use Rattle.std.proofs.Math.Option.{Option, some}
use Rattle.rules.specs.Words.{elements}
use Rattle.invariants.specs.Floor.{All}
use Rattle.trees.specs.Tree.{Ty, Tree, AllL, Sig, Kind, HasTy, t_lam, t_con, t_var, t_hol, t_nil, t_cons}
use Rattle.trees.specs.Typing.{At-lt, vars_below, vars_length}
use Rattle.promise.specs.Reading.{Node, one, many, Reads, r_lam, r_con, r_var, r_hol, r_nil, r_cons, ReadsTys, ty_nil, ty_cons, HoleAt, listed-elements, listed-arguments, listed-variables}
use Rattle.legal.specs.Reading.{arity}
use Rattle.legal.specs.Scope.{Scopes, lambda_scope, applied_scope, hole_scope}

all_of : (P : ℕ → Type 0) (xs : List ℕ) → AllL P xs → All P xs
all_of P [] h = tt
all_of P (x ∷ xs) h = (h.0, all_of P xs h.1)

types_length : {ws : List ℕ} {n : ℕ} {xs : List ℕ} {C : List Ty} → ReadsTys ws n xs C → length xs ≡ length C
types_length ty_nil = refl
types_length (ty_cons a h) = ap suc (types_length h)

-- a hole takes as many variables as its context has entries
hole_takes : {ws : List ℕ} {n h : ℕ} {C : List Ty} {b : ℕ} → HoleAt ws n h C b → arity ws h ≡ length C
hole_takes {ws} d = ap (λ l. length (elements ws l)) d.first ∙ ap length (listed-elements d.listed) ∙ types_length d.context

module _ (ws : List ℕ) (c top : ℕ) (S : ℕ → Option Ty) (D : Sig) (declared : (h : ℕ) (C : List Ty) (b : ℕ) → D h ≡ some (C, b) → HoleAt ws top h C b) where
  -- a record, or the records of an argument list
  abbrev InScope : ℕ → Node → Type 0
  InScope b (one x) = Scopes ws c b x
  InScope b (many xs) = All (Scopes ws c b) xs

  pub typed_scope : {n : ℕ} {x : Node} {t : Tree} {G : List Ty} {k : Kind} → Reads ws n x t → HasTy S D G t k → length G + n ≤ c → InScope (length G) x
  typed_scope {G = G} (r_lam {r = r} {a = a} h e f d) (t_lam ty) le =
      let z : length G + 1 ≡ suc (length G) = omega arith in
      let body : Scopes ws c (suc (length G)) a = typed_scope d ty (omega arith) in
      lambda_scope ws c (length G) r e (rw (f, z) body)
  typed_scope {G = G} (r_con {r = r} {xs = xs} h e f g l d) (t_con s ty) le =
      let parts : All (Scopes ws c (length G)) xs = typed_scope d ty (omega arith) in
      applied_scope ws c (length G) r (omega arith) (omega arith) (λ q. absurd (omega arith)) (rw (listed-arguments r g l) parts)
  typed_scope {G = G} (r_var {r = r} {v = v} {xs = xs} h e f g l d) (t_var {A = A} s ty) le =
      let parts : All (Scopes ws c (length G)) xs = typed_scope d ty (omega arith) in
      applied_scope ws c (length G) r (omega arith) (omega arith) (λ q. rw f (At-lt G v A s)) (rw (listed-arguments r g l) parts)
  typed_scope {G = G} (r_hol {r = r} {h = u} {vs = vs} h e f g l d) (t_hol {C = C} {b = b} s v w) le =
      hole_scope ws c (length G) r e (rw (listed-variables r g l d) (all_of (λ j. j < length G) vs (vars_below v)))
      (rw (listed-variables r g l d, f) (vars_length v ∙ sym (hole_takes (declared u C b s)))) (omega arith)
  typed_scope r_nil t_nil le = tt
  typed_scope (r_cons a d) (t_cons x y) le = (typed_scope a x le, typed_scope d y le)
