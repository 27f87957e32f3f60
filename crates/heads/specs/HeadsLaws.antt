-- What the types of heads and of binders give where a term is checked.
use Rattle.std.specs.Prelude.{ℕ, ◌+◌, ◌<◌, ◌≤◌, ◌≡◌, refl, List, [], ◌∷◌, true, false, length, get_or, Option, Some, None}
use Rattle.std.proofs.Math.Path.{sym, ap}
use Rattle.std.proofs.Common.{◌∙◌, arith, add-one, eq-eqb, ne_eqb, lt-ltb, le-ltb}
use Rattle.std.proofs.Math.Decide.{dec_lt, ℕ_discrete}
use Rattle.table.specs.declared.Record.{Record}
use Rattle.rules.specs.Lists.{either, enough}
use Rattle.rules.specs.Words.{AR, VA, tag, field_a, field_b, has, bare}
use Rattle.rules.specs.Typing.{domains, fills, checks}
use Rattle.laws.specs.Tests.{both_true}
use Rattle.laws.specs.Unrolled.{domains_unrolled}
use Rattle.laws.specs.Places.{TypeAt}
use Rattle.heads.specs.Stack.{binders, type_of}
use Rattle.heads.specs.Heads.{named, head_type}

pub binders_pop : (e st : List ℕ) (d v : ℕ) → binders e (d + 1) ≡ v ∷ binders st d → binders e d ≡ binders st d
binders_pop e st d v q = let p : binders e (d + 1) ≡ get_or e d 0 ∷ binders e d = rw add-one (unfold binders in refl) in cc

pub type_bound : (ctx : List ℕ) (v : ℕ) → v < length ctx → type_of ctx v ≡ Some (get_or ctx v 0)
unfolding type_of
type_bound ctx v h = rw (lt-ltb _ _ h, type_of)

pub type_free : (ctx : List ℕ) (v : ℕ) → length ctx ≤ v → type_of ctx v ≡ None
unfolding type_of
type_free ctx v h = rw (le-ltb _ _ h, type_of)

-- the type that is found for a variable is the context's
pub type_found : (ctx : List ℕ) (v t : ℕ) → type_of ctx v ≡ Some t → (v < length ctx) × (get_or ctx v 0 ≡ t)
type_found ctx v t e = go (dec_lt v (length ctx))
  where
    go : Dec (v < length ctx) → (v < length ctx) × (get_or ctx v 0 ≡ t)
    go (yes l) = (l, cc (type_bound ctx v l))
    go (no l) = let z : ◌≡◌ {A = ℕ} 0 1 = cc (type_free ctx v (omega arith)) in absurd (omega arith)

pub type_missing : (ctx : List ℕ) (v : ℕ) → type_of ctx v ≡ None → length ctx ≤ v
type_missing ctx v e = go (dec_lt v (length ctx))
  where
    go : Dec (v < length ctx) → length ctx ≤ v
    go (yes l) = let z : ◌≡◌ {A = ℕ} 0 1 = cc (type_bound ctx v l) in absurd (omega arith)
    go (no l) = omega arith

-- a rigid head's type is its variable's, or its constant's
module _ (ws ctx : List ℕ) (x : Record) where
  pub head_variable : (f : Option ℕ) → x.tag ≡ VA → f ≡ type_of ctx x.a → f ≡ head_type ws ctx x
  unfolding head_type
  head_variable f e q = q ∙ sym (rw (eq-eqb _ _ e, head_type))

  pub head_constant : (t : ℕ) → (x.tag ≡ VA → ⊥) → t ≡ field_a ws x.a → Some t ≡ head_type ws ctx x
  unfolding head_type
  head_constant t z q = ap Some q ∙ sym (rw (ne_eqb _ _ z, head_type))

module _ {ws : List ℕ} {ty : ℕ} (p : TypeAt ws ty) where
  pub domains_arrow : tag ws ty ≡ AR → domains enough ws ty ≡ field_a ws ty ∷ domains enough ws (field_b ws ty)
  unfolding has
  domains_arrow e = domains_unrolled ws p.top p.legal ty p.low ∙ rw e

  pub domains_base : (tag ws ty ≡ AR → ⊥) → domains enough ws ty ≡ []
  unfolding has
  domains_base z = domains_unrolled ws p.top p.legal ty p.low ∙ rw (ne_eqb _ _ z)

-- a type that asks arguments is an arrow
pub asks_arrow : {ws : List ℕ} {ty : ℕ} → TypeAt ws ty → (length (domains enough ws ty) ≡ 0 → ⊥) → tag ws ty ≡ AR
asks_arrow {ws} {ty} p z = go (ℕ_discrete (tag ws ty) AR)
  where
    go : Dec (tag ws ty ≡ AR) → tag ws ty ≡ AR
    go (yes e) = e
    go (no n) = absurd (z (rw (domains_base p n)))

-- a hole's argument that is a bare variable of exactly its type, or another
module _ (ws ctx : List ℕ) (x t : ℕ) where
  pub named-fills : named ws ctx x t ≡ true → fills (checks enough ws) ws ctx x t ≡ true
  unfolding named fills either
  named-fills e = rw e

  pub other_fills : named ws ctx x t ≡ false → fills (checks enough ws) ws ctx x t ≡ checks enough ws ctx x t
  unfolding named fills either
  other_fills e = rw e

  pub named-bare : named ws ctx x t ≡ true → bare ws x ≡ true
  unfolding named
  named-bare e = (both_true _ _ e).0
