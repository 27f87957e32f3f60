-- The parts of a term that reads as a tree, by its tag.
use Rattle.std.specs.Prelude.{ℕ, ◌≤◌, ◌≡◌, refl, List, [], ◌∷◌, length}
use Rattle.std.proofs.Common.{sym, ap, ap₂, ◌∙◌, arith}
use Rattle.rules.specs.Words.{tag, field_a, field_b, NONE, LA, CA, VA, HA, elements, variables}
use Rattle.invariants.specs.Floor.{All as Each}
use Rattle.trees.specs.Tree.{Ty, Tree, lam, con, var, hol, AllL, All}
use Rattle.promise.specs.Reading.{Listed, l_none, l_cell, one, many, Reads, r_lam, r_con, r_var, r_hol, ReadsTys, ty_nil, ty_cons, HoleAt, Same, same_refl, lower, listed_later, reads_later, listed-elements, listed-variables}

-- an argument list that reads as a tree
pub record Applied (ws : List ℕ) (n l : ℕ) (a : Tree) : Type 0 where
  pub records : List ℕ
  pub listed : Listed ws n l records
  pub reads : Reads ws n (many records) a

pub applied_later : {ws vs : List ℕ} {n m l : ℕ} {a : Tree} → Same n ws vs → n ≤ m → Applied ws n l a → Applied vs m l a
applied_later s k d = record { records = d.records; listed = listed_later s k d.listed; reads = reads_later s k d.reads }

module _ {ws : List ℕ} {n r : ℕ} where
  pub lambda_body : {t : Tree} → tag ws r ≡ LA → Reads ws n (one r) t → (b : Tree) × (t ≡ lam b) × Reads ws n (one (field_a ws r)) b
  lambda_body e (r_lam {t = b} h k a d) = (b, refl, rw a (reads_later same_refl (lower h) d))
  lambda_body e (r_con h k a b l d) = absurd (omega arith)
  lambda_body e (r_var h k a b l d) = absurd (omega arith)
  lambda_body e (r_hol h k a b l d) = absurd (omega arith)

  pub constant_arguments : {t : Tree} → tag ws r ≡ CA → Reads ws n (one r) t → (a : Tree) × (t ≡ con (field_a ws r) a) × Applied ws n (field_b ws r) a
  constant_arguments e (r_lam h k a d) = absurd (omega arith)
  constant_arguments e (r_con {xs = xs} {a = t} h k a b l d) =
      (t, ap (λ c. con c t) (sym a), record { records = xs; listed = rw b (listed_later same_refl (lower h) l); reads = reads_later same_refl (lower h) d })
  constant_arguments e (r_var h k a b l d) = absurd (omega arith)
  constant_arguments e (r_hol h k a b l d) = absurd (omega arith)

  pub variable_arguments : {t : Tree} → tag ws r ≡ VA → Reads ws n (one r) t → (a : Tree) × (t ≡ var (field_a ws r) a) × Applied ws n (field_b ws r) a
  variable_arguments e (r_lam h k a d) = absurd (omega arith)
  variable_arguments e (r_con h k a b l d) = absurd (omega arith)
  variable_arguments e (r_var {xs = xs} {a = t} h k a b l d) =
      (t, ap (λ c. var c t) (sym a), record { records = xs; listed = rw b (listed_later same_refl (lower h) l); reads = reads_later same_refl (lower h) d })
  variable_arguments e (r_hol h k a b l d) = absurd (omega arith)

  pub hole_occurrence : {t : Tree} → tag ws r ≡ HA → Reads ws n (one r) t → t ≡ hol (field_a ws r) (variables ws r)
  hole_occurrence e (r_lam h k a d) = absurd (omega arith)
  hole_occurrence e (r_con h k a b l d) = absurd (omega arith)
  hole_occurrence e (r_var h k a b l d) = absurd (omega arith)
  hole_occurrence e (r_hol h k a b l d) = ap₂ hol (sym a) (sym (listed-variables r b l d))

  -- what holds of the free variables holds of each argument
  pub occurrence-each : {t : Tree} {P Q : ℕ → Type 0} → ((j : ℕ) → P j → Q j) → tag ws r ≡ HA → Reads ws n (one r) t → All P t → Each Q (variables ws r)
  occurrence-each {P = P} {Q} f e d h = go (variables ws r) (rw (hole_occurrence e d) at h)
    where
      go : (vs : List ℕ) → AllL P vs → Each Q vs
      go [] a = tt
      go (v ∷ vs) a = (f v a.0, go vs a.1)

-- the first element of a list, and the rest
pub listed_parts : {ws : List ℕ} {n l : ℕ} {xs : List ℕ} → (l ≡ NONE → ⊥) → Listed ws n l xs → (ys : List ℕ) × (xs ≡ field_a ws l ∷ ys) × Listed ws n (field_b ws l) ys
listed_parts e (l_none q) = absurd (e q)
listed_parts e (l_cell {xs = ys} h q t a b d) = (ys, ap (◌∷ ys) (sym a), rw b (listed_later same_refl (lower h) d))

-- a hole's context has as many elements as types
pub context-length : {ws : List ℕ} {n h : ℕ} {C : List Ty} {b : ℕ} → HoleAt ws n h C b → length (elements ws (field_a ws h)) ≡ length C
context-length {ws} d = ap (λ l. length (elements ws l)) d.first ∙ ap length (listed-elements d.listed) ∙ go d.context
  where
    go : {m : ℕ} {xs : List ℕ} {B : List Ty} → ReadsTys ws m xs B → length xs ≡ length B
    go ty_nil = refl
    go (ty_cons x y) = let z = go y in omega arith
