-- The types of the bound variables, on a stack: what typing calls the context.
use Rattle.std.specs.Prelude.{ℕ, zero, suc, List, [], ◌∷◌, true, false, length, get_or, ltb, Option, Some, None}

-- the types of the d binders on the stack, innermost first
unfoldable pub binders : List ℕ → ℕ → List ℕ
binders st zero = []
binders st (suc d) = get_or st d 0 ∷ binders st d

-- the type of variable v
unfoldable pub type_of : List ℕ → ℕ → Option ℕ
type_of ctx v = elim (ltb v (length ctx)) [ true ↦ Some (get_or ctx v 0) | false ↦ None ]
