-- What the functions of this crate answer.
use Rattle.std.specs.Prelude.{ℕ, ◌+◌, ◌≤◌, ◌≡◌, List, ◌∷◌, Bool, true, false, length, get_or, eqb, ltb, Option, Some, None}
use Rattle.table.specs.declared.Record.{Record}
use Rattle.rules.specs.Lists.{both, enough}
use Rattle.rules.specs.Words.{AR, VA, tag, field_a, field_b, bare}
use Rattle.rules.specs.Typing.{final_type, domains}
use Rattle.heads.specs.declared.Final.{Final}
use Rattle.heads.specs.Stack.{binders, type_of}

-- a hole's argument is a bare variable of exactly the type asked
unfoldable pub named : List ℕ → List ℕ → ℕ → ℕ → Bool
named ws ctx x t = both (bare ws x) (both (ltb (field_a ws x) (length ctx)) (eqb (get_or ctx (field_a ws x) 0) t))

-- the type of a rigid head: a bound variable's, or a constant's
unfoldable pub head_type : List ℕ → List ℕ → Record → Option ℕ
head_type ws ctx x = elim (eqb x.tag VA) [ true ↦ type_of ctx x.a | false ↦ Some (field_a ws x.a) ]

-- a head's final type, and how many arguments it asks
pub record IsFinal (ws : List ℕ) (ty : ℕ) (x : Final) : Type 0 where
  pub base_is : x.base ≡ final_type enough ws ty
  pub count_is : x.count ≡ length (domains enough ws ty)
  pub few : x.count ≤ ty

-- an arrow's domain is the innermost binder, and its result is the type asked of the body
pub record Bound (ws st : List ℕ) (d ty : ℕ) (st₁ : List ℕ) (body : ℕ) : Type 0 where
  pub arrow : tag ws ty ≡ AR
  pub pushed : binders st₁ (d + 1) ≡ field_a ws ty ∷ binders st d
  pub body_is : body ≡ field_b ws ty

-- what a lambda's binder leaves: the type asked of the body, or, where the type asked is no arrow, nothing
unfoldable pub Binds : List ℕ → List ℕ → ℕ → ℕ → List ℕ → Option ℕ → Type 0
Binds ws st d ty st₁ (Some body) = Bound ws st d ty st₁ body
Binds ws st d ty st₁ None = (tag ws ty ≡ AR → ⊥) × (st₁ ≡ st)
