-- Heads: the types that records read as, the arguments that a head asks, and its final type.
use Prim.Native.Nat.{ℕ, zero, suc, ◌<◌, ◌≤◌}
use Rattle.std.proofs.Math.Path.{◌≡◌, refl}
use Rattle.std.proofs.Common.{sym, ap, ap₂, ◌∙◌, arith, leb-true}
use mathlib.Core.List.{List, [], ◌∷◌}
use Rattle.std.specs.Prelude.{Bool, length, get_or}
use Rattle.std.proofs.Math.Bool.{true, false}
use Rattle.std.proofs.Math.Decide.{ℕ_discrete}
use Rattle.rules.specs.Lists.{each}
use Rattle.rules.specs.Words.{tag, field_a, field_b, BT, AR, LA, CA, VA, HA, has, is_term}
use Rattle.rules.specs.Typing.{final_type, domains}
use Rattle.trees.specs.Tree.{Ty, base, arr, At}
use Rattle.promise.specs.Reading.{ReadsTy, ty_base, ty_arr, ReadsTys, ty_nil, ty_cons}
use Rattle.laws.specs.Tests.{false_true, both_true}

-- a record reads as one type
pub type_one : {ws : List ℕ} {n m r : ℕ} {A B : Ty} → ReadsTy ws n r A → ReadsTy ws m r B → A ≡ B
type_one (ty_base h e x) (ty_base k f y) = ap base (sym x ∙ y)
type_one (ty_base h e x) (ty_arr k f y z d q) = absurd (let w : ◌≡◌ {A = ℕ} 1 2 = sym e ∙ f in omega arith)
type_one (ty_arr h e x u c p) (ty_base k f y) = absurd (let w : ◌≡◌ {A = ℕ} 2 1 = sym e ∙ f in omega arith)
type_one {ws} (ty_arr h e x u c p) (ty_arr k f y z d q) =
    ap₂ arr (type_one c (rw (sym y ∙ x) at d)) (type_one p (rw (sym z ∙ u) at q))

pub type_same : {ws : List ℕ} {n m r s : ℕ} {A B : Ty} → ReadsTy ws n r A → s ≡ r → ReadsTy ws m s B → A ≡ B
type_same d e f = type_one d (rw e at f)

pub type_below : {ws : List ℕ} {n r : ℕ} {A : Ty} → ReadsTy ws n r A → r < n
type_below (ty_base h e x) = h
type_below (ty_arr h e x u c p) = h

module _ (ws : List ℕ) (ty : ℕ) where
  pub domains_base : (f : ℕ) → tag ws ty ≡ BT → domains (suc f) ws ty ≡ []
  unfolding domains has
  domains_base f e = rw (e, domains)

  pub domains_arrow : (f : ℕ) → tag ws ty ≡ AR → domains (suc f) ws ty ≡ field_a ws ty ∷ domains f ws (field_b ws ty)
  unfolding domains has
  domains_arrow f e = rw (e, domains)

  pub final_base : (f : ℕ) → tag ws ty ≡ BT → final_type (suc f) ws ty ≡ ty
  unfolding final_type has
  final_base f e = rw (e, final_type)

  pub final_arrow : (f : ℕ) → tag ws ty ≡ AR → final_type (suc f) ws ty ≡ final_type f ws (field_b ws ty)
  unfolding final_type has
  final_arrow f e = rw (e, final_type)

  -- a head that asks no argument has its own type
  pub domains_none : (f : ℕ) → 0 < f → domains f ws ty ≡ [] → final_type f ws ty ≡ ty
  unfolding domains final_type
  domains_none zero h e = absurd (omega arith)
  domains_none (suc f) h e = go (has ws ty AR) refl
    where
      go : (b : Bool) → has ws ty AR ≡ b → final_type (suc f) ws ty ≡ ty
      go true q = absurd (let z : field_a ws ty ∷ domains f ws (field_b ws ty) ≡ [] = rw (q, domains) at e in let w : ◌≡◌ {A = ℕ} 0 1 = cc in omega arith)
      go false q = rw (q, final_type)

pub each_right_nil : (ok : ℕ → ℕ → Bool) (xs : List ℕ) → each ok xs [] ≡ true → xs ≡ []
unfolding each
each_right_nil ok [] e = refl
each_right_nil ok (x ∷ xs) e = absurd (false_true e)

pub each-left_nil : (ok : ℕ → ℕ → Bool) (ys : List ℕ) → each ok [] ys ≡ true → ys ≡ []
unfolding each
each-left_nil ok [] e = refl
each-left_nil ok (y ∷ ys) e = absurd (false_true e)

-- a term is of one of four tags
pub data TermTag (ws : List ℕ) (r : ℕ) : Type 0 where
  is_lam : tag ws r ≡ LA → TermTag ws r
  is_con : tag ws r ≡ CA → TermTag ws r
  is_var : tag ws r ≡ VA → TermTag ws r
  is_hol : tag ws r ≡ HA → TermTag ws r

pub term_tag : (ws : List ℕ) (r : ℕ) → is_term ws r ≡ true → TermTag ws r
unfolding is_term
term_tag ws r e =
    let p = both_true _ _ e in
    go (leb-true 6 (tag ws r) p.0) (leb-true (tag ws r) 9 p.1) (ℕ_discrete (tag ws r) LA) (ℕ_discrete (tag ws r) CA) (ℕ_discrete (tag ws r) VA)
  where
    go : 6 ≤ tag ws r → tag ws r ≤ 9 → Dec (tag ws r ≡ LA) → Dec (tag ws r ≡ CA) → Dec (tag ws r ≡ VA) → TermTag ws r
    go a b (yes x) y z = is_lam x
    go a b (no x) (yes y) z = is_con y
    go a b (no x) (no y) (yes z) = is_var z
    go a b (no x) (no y) (no z) = is_hol (omega arith)

-- a variable of a context
pub context_at : {ws : List ℕ} {n : ℕ} {ctx : List ℕ} {G : List Ty} → ReadsTys ws n ctx G → (v : ℕ) → v < length ctx → (A : Ty) × At G v A × ReadsTy ws n (get_or ctx v 0) A
context_at ty_nil v h = absurd (omega arith)
context_at (ty_cons {A = A} d e) zero h = (A, refl, d)
context_at (ty_cons d e) (suc v) h = context_at e v (omega arith)
