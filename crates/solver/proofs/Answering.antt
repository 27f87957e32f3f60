-- What is written where show answers.
use Prim.Native.Nat.{ℕ, ◌+◌, ◌-◌, ◌*◌, ◌≤◌}
use mathlib.Core.Path.{◌≡◌, sym, ◌∙◌}
use mathlib.Core.List.{List}
use native.Mathlib.Omega.{arith}
use lib.ListN.{length}
use Rattle.rules.specs.declared.Failure.{Failure}
use Rattle.rules.specs.declared.Reply.{Reply}
use Rattle.rules.specs.Answers.{reply, too_few, records}
use Rattle.rules.specs.Solve.{filled, Behind}
use Rattle.rules.specs.Show.{answer, shows}
use Rattle.invariants.specs.Floor.{Outside}
use Rattle.invariants.specs.Start.{records_room}
use Rattle.std.specs.Prelude.{Ok, Err}
use Rattle.store.specs.declared.Written.{Written}
use Rattle.store.specs.Said.{Answer, store, shown}
use Rattle.store.specs.FilledLaws.{filled_again}
use Rattle.show.specs.Answer.{Answering}
use Rattle.show.specs.OutsideLaws.{Leaves, answer-leaves}
use Rattle.solver.specs.Answering.{Answerable, Writes}

module _ (os : List ℕ) (O : ℕ) (room : records os ≡ O) where
  pub blank-fits : 0 + 4 * O ≤ length os
  blank-fits = let r = records_room os in omega arith

  pub finishing : (os₀ os₁ : List ℕ) → length os₀ ≡ length os → length os₁ ≡ length os₀ → 0 + 4 * O ≤ length os₁
  finishing os₀ os₁ e f = let r = records_room os in omega arith

module _ (ws ss : List ℕ) (h : ℕ) (os : List ℕ) (O : ℕ) (room : records os ≡ O) where
  pub answers : (os₀ : List ℕ) → Answerable ws ss h → length os₀ ≡ length os → Answering O ws ss os₀ h
  answers os₀ a e = let r = records_room os in record { table = a.table; hole = a.hole; context = a.context; room = omega arith; known = a.known }

  module _ (os₀ : List ℕ) (blank : filled 0 (4 * O) 0 os ≡ os₀) (os₁ : List ℕ) (x : Answer) (said : answer O ws h (store os₀ ss 0) ≡ shown os₁ ss x) where
    -- where the output has too few records, it is cleared again
    again : (e : Failure) → x ≡ Err e → filled 0 (4 * O) 0 os₁ ≡ os₀
    again e q =
        let k : O - 0 ≡ O = omega arith in
        let l : Leaves O (store os₀ ss 0) (shown os₁ ss x) = rw said at (answer-leaves O ws h (store os₀ ss 0)) in
        let o : Outside O 0 (store os₀ ss 0) os₁ ss = rw q at l in
        let t : filled 0 (4 * O) 0 os₁ ≡ filled 0 (4 * O) 0 os₀ = rw k at o.table in
        t ∙ rw (← blank) (filled_again 0 (4 * O) 0 os (blank-fits os O room))

    out : (y : Answer) → x ≡ y → (l : Behind) → l.table ≡ ws → l.solutions ≡ ss
        → answer (records os) l.table h (record { words = filled 0 (4 * records os) 0 os; solutions = l.solutions; used = 0 }) ≡ shown os₁ ss y
    out y z l tb so = rw (room, tb, so, blank) (rw z at said)

    pub writes : (w : Written) → x ≡ Ok w → Writes ws ss h os os₁ (reply 0 0 w.used)
    unfolding shows
    writes w z = record { run = λ l tb so q. rw (q, shows, out (Ok w) z l tb so) }

    pub writes_none : (e : Failure) (os₂ : List ℕ) (r : Reply) → x ≡ Err e → filled 0 (4 * O) 0 os₁ ≡ os₂ → too_few ≡ r → Writes ws ss h os os₂ r
    unfolding shows
    writes_none e os₂ r z c p =
        let b : os₀ ≡ os₂ = sym (again e z) ∙ c in
        let w : Writes ws ss h os os₂ too_few = record { run = λ l tb so q. rw (q, shows, out (Err e) z l tb so, room, blank, b) } in
        rw p at w
