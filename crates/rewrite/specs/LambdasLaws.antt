-- Lambdas written one by one, and none; none is written after a failure.
use Rattle.std.specs.Prelude.{ℕ, zero, suc, ◌≡◌, refl, List}
use Rattle.rules.specs.declared.Failure.{Failure}
use Rattle.rules.specs.Store.{Out, fails, ◌>>=◌}
use Rattle.rules.specs.Words.{LA}
use Rattle.store.specs.Said.{under}
use Rattle.rewrite.specs.Lambdas.{lambdas}

pub lambdas_none : (R k : ℕ) (o : Out ℕ) → k ≡ 0 → lambdas R k o ≡ o
unfolding lambdas
lambdas_none R k o e = rw e

pub lambdas-one : (R k j : ℕ) (o : Out ℕ) → k ≡ suc j → lambdas R k o ≡ lambdas R j (o >>= under R LA 0)
unfolding lambdas
lambdas-one R k j o e = rw e

pub lambdas_fails : (R k : ℕ) (ws ss : List ℕ) (e : Failure) → lambdas R k (fails ws ss e) ≡ fails ws ss e
unfolding lambdas ◌>>=◌
lambdas_fails R zero ws ss e = refl
lambdas_fails R (suc k) ws ss e = lambdas_fails R k ws ss e
