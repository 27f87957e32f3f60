-- Fuel that is not spent.
use Rattle.rules.specs.Store.{Out, goes, fails, spent}

-- fuel is not spent
abbrev pub Ended : {A : Type 0} → Out A → Type 0
Ended (goes s x) = Unit {0}
Ended (fails ws ss e) = Unit {0}
Ended spent = ⊥
