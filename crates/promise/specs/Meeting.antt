-- Steps 2 to 5: two sides whose heads are no solved holes meet.
use Rattle.std.specs.Prelude.{ℕ, ◌≡◌, List}
use Rattle.std.proofs.Math.Option.{Option, some}
use Rattle.trees.specs.Tree.{Ty, Tree, con, var, Sig, Kind, args, At, HasTy, t_con, t_var}

-- the arguments of a typed application
pub con_args : {S : ℕ → Option Ty} {D : Sig} {G : List Ty} {k : Kind} {c : ℕ} {a : Tree} → HasTy S D G (con c a) k → (A : Ty) × (b : ℕ) × (S c ≡ some A) × HasTy S D G a (args A b)
con_args (t_con {A = A} {b = b} e d) = (A, b, e, d)

pub var_args : {S : ℕ → Option Ty} {D : Sig} {G : List Ty} {k : Kind} {v : ℕ} {a : Tree} → HasTy S D G (var v a) k → (A : Ty) × (b : ℕ) × (At G v A) × HasTy S D G a (args A b)
var_args (t_var {A = A} {b = b} e d) = (A, b, e, d)
