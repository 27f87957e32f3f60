-- What the machine comes to, and what is left behind.
use Prim.Native.Nat.{ℕ, zero, suc, ◌+◌, ◌-◌, ◌*◌}
use mathlib.Core.Path.{◌≡◌, refl, sym, ◌∙◌}
use mathlib.Core.List.{List, [], ◌++◌}
use mathlib.Core.Bool.{true}
use native.Mathlib.Omega.{arith}
use lib.ListN.{length, take, drop}
use lib.Seq.{drop-append_seam}
use Rattle.rules.specs.declared.Failure.{Failure}
use Rattle.rules.specs.declared.Reply.{Reply}
use Rattle.rules.specs.Words.{NONE}
use Rattle.rules.specs.Answers.{reply, records, pairs}
use Rattle.rules.specs.Store.{goes, fails}
use Rattle.rules.specs.Machine.{machine}
use Rattle.rules.specs.Solve.{admitted, filled, start, emptied, leaves}
use Rattle.invariants.specs.Floor.{Stopped, Grows}
use Rattle.invariants.proofs.Machine.{machine_grows}
use Rattle.invariants.specs.Run.{Any}
use Rattle.invariants.specs.Copy.{Nobody}
use Rattle.store.specs.Said.{store}
use Rattle.store.specs.FilledLaws.{filled_again}
use Rattle.store.specs.Clearing.{Cleared}
use Rattle.store.specs.ClearingLaws.{clearing_table, clearing_solutions}
use Rattle.std.specs.Prelude.{Ok, Err}
use Rattle.machine.specs.Run.{Ran, ended}
use Rattle.machine.specs.Leaving.{Admits, Fails, LeftBehind}
use Rattle.machine.specs.MachineLaws.{machine_none}
use Rattle.machine.proofs.Pairs.{lent_length}
use Rattle.machine.proofs.Admitting.{admits_clearing, start_is}

-- where the run has ended and the queue is emptied: what is left behind, whichever way it ended
pub record Ended (R n : ℕ) (ws ss qs ws₁ ss₁ qs₁ : List ℕ) (x : Ran) : Type 0 where
  pub solved : (u : ℕ) → x ≡ Ok u → LeftBehind admitted ws ss qs n ws₁ ss₁ qs₁ (reply 0 0 u)
  pub failed : (y : Failure) (ws₂ ss₂ : List ℕ) (r : Reply) → x ≡ Err y → Fails n R y ws₁ ss₁ ws₂ ss₂ r → LeftBehind admitted ws ss qs n ws₂ ss₂ qs₁ r

-- what was put in the first part does not matter when it is filled
filled_lent : (k x : ℕ) (ws part : List ℕ) → length part ≡ k → filled 0 k x (part ++ drop k ws) ≡ filled 0 k x ws
unfolding filled
filled_lent k x ws part l =
    let z : 0 + k ≡ k = omega arith in
    let d : drop k (part ++ drop k ws) ≡ drop k ws = rw l at (drop-append_seam part (drop k ws)) in
    rw (z, d) refl

module _ (R n : ℕ) (ws ss es : List ℕ) (a : Admits R n ws ss es) where
  -- to clear again what was cleared changes nothing
  again_table : filled (4 * n) (4 * (R - n)) 0 (start ws ss n).words ≡ (start ws ss n).words
  unfolding start
  again_table = rw a.room (filled_again (4 * n) (4 * (R - n)) 0 ws (clearing_table n R ws ss (admits_clearing R n ws ss es a)))

  again_solutions : filled 0 R NONE (start ws ss n).solutions ≡ (start ws ss n).solutions
  unfolding start
  again_solutions = rw a.room (filled_again 0 R NONE ss (clearing_solutions n R ws ss (admits_clearing R n ws ss es a)))

  -- where the machine fails, what is outside stays, and so does what was not written
  failing : (C : ℕ) (ws₁ ss₁ : List ℕ) (e : Failure) → machine R C n (start ws ss n) ≡ fails ws₁ ss₁ e → Stopped R n (start ws ss n) ws₁ ss₁
  failing C ws₁ ss₁ e m = go n refl
    where
      go : (k : ℕ) → n ≡ k → Stopped R n (start ws ss n) ws₁ ss₁
      go zero z =
          let m₀ : machine R C 0 (start ws ss 0) ≡ fails ws₁ ss₁ e = rw z at m in
          let q : goes (start ws ss 0) [] ≡ fails ws₁ ss₁ e = sym (machine_none R C (start ws ss 0)) ∙ m₀ in
          let y : ◌≡◌ {A = ℕ} 0 1 = cc in
          absurd (omega arith)
      go (suc k) z =
          let g : Grows Nobody Any (records ws) n (λ i. 0) (start ws ss n) (machine (records ws) C n (start ws ss n)) = machine_grows true ws ss n C a.input (omega arith) in
          rw (a.room, m) at g

  -- the words and the reply left behind
  module _ (qs ws₁ ss₁ qs₁ : List ℕ) (x : Ran) (m : machine R (pairs qs) n (start ws ss n) ≡ ended ws₁ ss₁ x) (e : emptied qs ≡ qs₁) where
    out : (y : Ran) → x ≡ y → machine (records ws) (pairs qs) n (start ws ss n) ≡ ended ws₁ ss₁ y
    out y z = rw a.room (rw z at m)

    left-solved : (u : ℕ) → x ≡ Ok u → LeftBehind admitted ws ss qs n ws₁ ss₁ qs₁ (reply 0 0 u)
    unfolding leaves
    left-solved u z = rw (out (Ok u) z, leaves, e)

    left_failed : (y : Failure) (ws₂ ss₂ : List ℕ) (r : Reply) → x ≡ Err y → Fails n R y ws₁ ss₁ ws₂ ss₂ r → LeftBehind admitted ws ss qs n ws₂ ss₂ qs₁ r
    unfolding leaves
    left_failed y ws₂ ss₂ r z f =
        let s = failing (pairs qs) ws₁ ss₁ y (rw z at m) in
        let d = f.clears s.rest in
        let w : (start ws ss n).words ≡ ws₂ = sym (s.outside.table ∙ again_table) ∙ d.table in
        let v : (start ws ss n).solutions ≡ ss₂ = sym (s.outside.solutions ∙ again_solutions) ∙ d.solutions in
        rw (out (Err y) z, leaves, e, f.says, w, v)

  pub ends : (C : ℕ) (qs ws₀ ss₀ ws₁ ss₁ part qs₁ : List ℕ) (x : Ran) → pairs qs ≡ C → Cleared n R ws ss ws₀ ss₀ → machine R C n (store ws₀ ss₀ n) ≡ ended ws₁ ss₁ x
      → length part ≡ length (take (2 * C) qs) → filled 0 (2 * C) 0 (part ++ drop (2 * C) qs) ≡ qs₁ → Ended R n ws ss qs ws₁ ss₁ qs₁ x
  unfolding emptied
  ends C qs ws₀ ss₀ ws₁ ss₁ part qs₁ x p c m l e =
      let q = filled_lent (2 * C) 0 qs part (l ∙ lent_length qs C p) in
      let run : machine R (pairs qs) n (start ws ss n) ≡ ended ws₁ ss₁ x = rw (p, start_is R n ws ss es a ws₀ ss₀ c) m in
      let empty : emptied qs ≡ qs₁ = rw p (sym q ∙ e) in
      record { solved = left-solved qs ws₁ ss₁ qs₁ x run empty; failed = left_failed qs ws₁ ss₁ qs₁ x run empty }
