-- One hole occurrence: whether its arguments are different bare variables.
use Rattle.std.specs.Prelude.{ℕ, Bool, true, false, List, map}
use Rattle.rules.specs.Lists.{both, all, distinct}
use Rattle.rules.specs.Words.{NONE, field_a, elements, bare}

-- the arguments in list l are bare variables with different numbers
unfoldable pub different : List ℕ → ℕ → Bool
different ws l = both (all (bare ws) (elements ws l)) (distinct (map (λ x. field_a ws x) (elements ws l)))

-- a hole occurrence at record r with arguments l, if it offends; otherwise NONE
unfoldable pub occurrence : List ℕ → ℕ → ℕ → ℕ
occurrence ws r l = elim (different ws l) [ true ↦ NONE | false ↦ r ]
