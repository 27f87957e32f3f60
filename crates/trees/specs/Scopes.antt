-- Solutions keep to the contexts of their holes: typed ones do, and the walk keeps it so.
use Rattle.std.specs.Prelude.{◌≡◌, List, ◌⊎◌, ℕ, length}
use Rattle.std.proofs.Common.{inl, inr}
use Rattle.std.proofs.Math.Option.{Option, some}
use Rattle.trees.specs.Tree.{Ty, Tree, hol, Sig}
use Rattle.trees.specs.Moves.{Solutions, SolTyped, Walk, w_lam, w_con, w_var, w_nil, w_cons, w_solved, w_kept, w_narrowed}
use Rattle.trees.specs.Free.{Scoped}
use Rattle.trees.specs.Typing.{vars_below, typed_scoped}

-- every solved hole is declared, and its solution has no free variable beyond its context
abbrev ScopedAt : Sig → ℕ → Tree → Type 0
ScopedAt D h s = (C : List Ty) × (b : ℕ) × (D h ≡ some (C, b)) × Scoped (length C) s

abbrev pub SolScoped : Sig → Solutions → Type 0
SolScoped D σ = (h : ℕ) (s : Tree) → σ h ≡ some s → ScopedAt D h s

pub sol_scoped : (S : ℕ → Option Ty) (D : Sig) (σ : Solutions) → SolTyped S D σ → SolScoped D σ
sol_scoped S D σ g h s e = let w = g h s e in (w.0, w.1, w.2, typed_scoped S D w.3)

module _ (Frozen : ℕ → Type 0) (u : ℕ) where
  pub walk_scoped : {D E : Sig} {σ τ : Solutions} {p : ℕ → Option ℕ} {t s : Tree} → Walk Frozen u D σ p t E τ s → SolScoped D σ → SolScoped E τ
  walk_scoped (w_lam x) i = walk_scoped x i
  walk_scoped (w_con x) i = walk_scoped x i
  walk_scoped (w_var e x) i = walk_scoped x i
  walk_scoped w_nil i = i
  walk_scoped (w_cons x y) i = walk_scoped y (walk_scoped x i)
  walk_scoped (w_solved e a x) i = walk_scoped x i
  walk_scoped (w_kept n d q) i = i
  walk_scoped {D} {E} {σ} {τ} (w_narrowed {v = v} {w = w} {K = K} {C = C} {b = b} _ n q k vs dk z ae aσ) i = λ h s e. go h s (aσ.only h s e)
    where
      go : (h : ℕ) (s : Tree) → ((h ≡ v) × (s ≡ hol w K)) ⊎ (σ h ≡ some s) → ScopedAt E h s
      go h s (inl e) = rw (e.0, e.1) (C, b, ae.grows v (C, b) q, vars_below vs)
      go h s (inr e) = let c = i h s e in (c.0, c.1, ae.grows h (c.0, c.1) c.2, c.3)
