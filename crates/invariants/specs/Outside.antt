-- What a part of the machine writes is outside neither records n to R nor the first R solutions; what a failure leaves.
use Rattle.std.specs.Prelude.{ℕ, ◌+◌, ◌-◌, ◌*◌, ◌<◌, ◌≤◌, ◌≡◌, refl, List, get_or, set}
use Rattle.std.proofs.Common.{◌∙◌, arith, drop-set-lt}
use Rattle.std.proofs.Math.Decide.{ℕ_discrete}
use Rattle.std.proofs.lemmas.List.{take-set-le}
use Rattle.rules.specs.Words.{NONE}
use Rattle.rules.specs.Store.{Store, put}
use Rattle.rules.specs.Solve.{filled}
use Rattle.invariants.specs.Floor.{Fine, Outside, Stopped}

-- a word that is filled anyway
filled-set : (i k x : ℕ) (ws : List ℕ) (j v : ℕ) → i ≤ j → j < i + k → filled i k x (set ws j v) ≡ filled i k x ws
unfolding filled
filled-set i k x ws j v lo hi = rw (take-set-le i ws j v lo, drop-set-lt (i + k) ws j v hi)

pub outside_refl : (R n : ℕ) (s : Store) → Outside R n s s.words s.solutions
outside_refl R n s = record { table = refl; solutions = refl }

pub outside_trans : (R n : ℕ) (s s₁ : Store) (ws ss : List ℕ) → Outside R n s s₁.words s₁.solutions → Outside R n s₁ ws ss → Outside R n s ws ss
outside_trans R n s s₁ ws ss o p = record { table = p.table ∙ o.table; solutions = p.solutions ∙ o.solutions }

pub put-outside : (R n : ℕ) (s : Store) (t a c : ℕ) → n ≤ s.used → s.used < R → Outside R n s (put s.words s.used t a c) s.solutions
unfolding put
put-outside R n s t a c since h =
    record {
      table = filled-set (4 * n) (4 * (R - n)) 0 _ (4 * s.used + 3) 0 (omega arith) (omega arith)
          ∙ filled-set (4 * n) (4 * (R - n)) 0 _ (4 * s.used + 2) c (omega arith) (omega arith)
          ∙ filled-set (4 * n) (4 * (R - n)) 0 _ (4 * s.used + 1) a (omega arith) (omega arith)
          ∙ filled-set (4 * n) (4 * (R - n)) 0 _ (4 * s.used) t (omega arith) (omega arith);
      solutions = refl;
    }

pub set-outside : (R n : ℕ) (s : Store) (h t : ℕ) → h < R → Outside R n s s.words (set s.solutions h t)
set-outside R n s h t lt = record { table = refl; solutions = filled-set 0 R NONE s.solutions h t (omega arith) (omega arith) }

-- a hole that has no record yet is not solved
pub unsolved : (R n : ℕ) (home : ℕ → ℕ) (s : Store) (x : ℕ) → Fine R n home s → s.used ≤ x → x < R → get_or s.solutions x NONE ≡ NONE
unsolved R n home s x f h lx = go (ℕ_discrete (get_or s.solutions x NONE) NONE)
  where
    go : Dec (get_or s.solutions x NONE ≡ NONE) → get_or s.solutions x NONE ≡ NONE
    go (yes e) = e
    go (no e) = let lt = (f.sols x lx e).hole in absurd (omega arith)

-- a failure is raised at a store that is fine
pub fine_stopped : (R n : ℕ) (home : ℕ → ℕ) (s : Store) → Fine R n home s → Stopped R n s s.words s.solutions
fine_stopped R n home s f =
    record { outside = outside_refl R n s; rest = record { used = s.used; since = f.since; within = f.within; tagged = f.tagged; blank = f.blank; free = λ h lo hi. unsolved R n home s h f lo hi } }

-- and what a part did before it changes nothing outside
pub stopped_after : (R n : ℕ) (s s₁ : Store) (ws ss : List ℕ) → Outside R n s s₁.words s₁.solutions → Stopped R n s₁ ws ss → Stopped R n s ws ss
stopped_after R n s s₁ ws ss o p = record { outside = outside_trans R n s s₁ ws ss o p.outside; rest = p.rest }
