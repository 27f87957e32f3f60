-- Lambdas are written one by one after a body.
use Rattle.std.specs.Prelude.{Ok, Err}
use Prim.Native.Nat.{ℕ, ◌+◌, ◌-◌, ◌*◌, ◌<◌, ◌≤◌}
use mathlib.Core.Path.{◌≡◌, ◌∙◌}
use mathlib.Core.List.{List}
use native.Mathlib.Omega.{arith}
use lib.ListN.{length}
use Rattle.rules.specs.declared.Failure.{Failure}
use Rattle.store.specs.declared.Written.{Written}
use Rattle.rules.specs.Words.{LA}
use Rattle.rules.specs.Store.{push, ◌>>=◌}
use Rattle.store.specs.Said.{Answer, Does, shown}
use Rattle.store.specs.SaidLaws.{since_root, since_failed}
use Rattle.rewrite.specs.Lambdas.{lambdas, Under}
use Rattle.rewrite.specs.LambdasLaws.{lambdas_none, lambdas-one, lambdas_fails}

-- after i lambdas
pub record Turn (n R k : ℕ) (ws₀ : List ℕ) (w₀ : Written) (ws : List ℕ) (w : Written) (i : ℕ) : Type 0 where
  pub room : 4 * R ≤ length ws
  pub since : n ≤ w.used
  pub leads : (ss : List ℕ) → lambdas R k (shown ws₀ ss (Ok w₀)) ≡ lambdas R (k - i) (shown ws ss (Ok w))

module _ (n R k : ℕ) (ws₀ : List ℕ) (w₀ : Written) where
  pub turn_first : (4 * R ≤ length ws₀) × (n ≤ w₀.used) → Turn n R k ws₀ w₀ ws₀ w₀ 0
  turn_first h = let e : k - 0 ≡ k = omega arith in record { room = h.0; since = h.1; leads = λ ss. rw e }

  module _ (ws : List ℕ) (w : Written) (i : ℕ) (h : Turn n R k ws₀ w₀ ws w i) where
    pub turn_room : 4 * R ≤ length ws
    turn_room = h.room

    pub turn_since : n ≤ w.used
    turn_since = h.since

    pub turn_ends : k ≤ i → Under n R k ws₀ w₀ ws (Ok w)
    turn_ends g = record { run = λ ss. h.leads ss ∙ lambdas_none R (k - i) (shown ws ss (Ok w)) (omega arith); grown = since_root _ _ h.since }

    module _ (lt : i < k) (ws₁ : List ℕ) (x : Answer) (p : Does n (push R LA w.root 0) ws w.used ws₁ x) where
      one : (ss : List ℕ) → lambdas R k (shown ws₀ ss (Ok w₀)) ≡ lambdas R (k - (i + 1)) (shown ws₁ ss x)
      unfolding ◌>>=◌
      one ss = h.leads ss ∙ lambdas-one R (k - i) (k - (i + 1)) (shown ws ss (Ok w)) (omega arith) ∙ rw (p.run ss)

      pub turn_stops : (e : Failure) (y : Answer) → x ≡ Err e → y ≡ Err e → Under n R k ws₀ w₀ ws₁ y
      turn_stops e y q o = rw o (record { run = λ ss. one ss ∙ rw q (lambdas_fails R (k - (i + 1)) ws₁ ss e); grown = since_failed _ _ })

      pub turn_next : (v : Written) → x ≡ Ok v → length ws₁ ≡ length ws → Turn n R k ws₀ w₀ ws₁ v (i + 1)
      turn_next v q e =
          let r = h.room in
          record { room = omega arith; since = p.grown.since v q; leads = λ ss. one ss ∙ rw q }
