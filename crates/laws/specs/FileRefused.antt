-- Writing refuses the records that solving refuses.
use Rattle.std.specs.Prelude.{ℕ, ◌*◌, ◌≤◌, Bool, List, ◌↔◌, length, Option, Some, None}
use Rattle.std.proofs.Math.Path.{◌≡◌, refl}
use Rattle.std.proofs.Common.{ap}
use Rattle.std.proofs.Math.Bool.{true, false}
use native.Mathlib.Omega.{arith}
use Rattle.std.proofs.Math.Dec.{eqb, ltb}
use borrow.Author.Tests.{le-ltb}
use Rattle.rules.specs.declared.Failure.{Failure}
use Rattle.rules.specs.declared.Failure.TheVariants.{Clash, Escape, Occurs, QueueFull, TableFull}
use Rattle.rules.specs.declared.Reply.{Reply}
use Rattle.rules.specs.Lists.{either}
use Rattle.rules.specs.Words.{NONE}
use Rattle.rules.specs.Answers.{number, reply, records, pairs}
use Rattle.rules.specs.Records.{broken}
use Rattle.rules.specs.Typing.{ill_typed}
use Rattle.rules.specs.Pattern.{no_pattern}
use Rattle.rules.specs.Store.{Out, goes, fails, spent}
use Rattle.rules.specs.Machine.{Pair, machine}
use Rattle.rules.specs.Solve.{refusal, start, leaves, solve}
use Rattle.rules.specs.FileWrite.{write}

-- no failure of the machine is answer 5
number_other : (e : Failure) → number e ≡ 5 → ⊥
unfolding number
number_other Clash z = omega arith
number_other Escape z = omega arith
number_other Occurs z = omega arith
number_other QueueFull z = omega arith
number_other TableFull z = omega arith

-- within the table, at most 2,048 records, with solution words enough: what comes before answer 5 does not come
module _ (ws ss qs bs : List ℕ) (n : ℕ) (held : n ≤ records ws) (few : n ≤ 2048) (enough : records ws ≤ length ss) where
  write-broken : (r : ℕ) → broken ws n ≡ Some r → (write ws n bs).said ≡ reply 5 r 0
  unfolding write either
  write-broken r e = rw (le-ltb _ _ held, le-ltb _ _ few, e, write)

  solve-broken : (r : ℕ) → broken ws n ≡ Some r → (solve ws ss qs n).said ≡ reply 5 r 0
  unfolding solve leaves refusal either
  solve-broken r e = rw (le-ltb _ _ held, le-ltb _ _ enough, e, refusal, leaves)

  write_other : broken ws n ≡ None → (write ws n bs).said.answer ≡ 5 → ⊥
  unfolding write either
  write_other e z = go (ltb (length bs) (14 * n)) refl
    where
      go : (b : Bool) → ltb (length bs) (14 * n) ≡ b → ⊥
      go true p = let y : ◌≡◌ {A = ℕ} 14 5 = (rw (le-ltb _ _ held, le-ltb _ _ few, e, p, write) at z) in omega arith
      go false p = let y : ◌≡◌ {A = ℕ} 0 5 = (rw (le-ltb _ _ held, le-ltb _ _ few, e, p, write) at z) in omega arith

  solve_other : broken ws n ≡ None → (solve ws ss qs n).said.answer ≡ 5 → ⊥
  unfolding solve leaves refusal either
  solve_other e z = go (ill_typed ws n) refl (eqb (no_pattern ws n) NONE) refl (machine (records ws) (pairs qs) n (start ws ss n)) refl
    where
      go : (f : Option ℕ) → ill_typed ws n ≡ f → (b : Bool) → eqb (no_pattern ws n) NONE ≡ b → (o : Out (List Pair)) → machine (records ws) (pairs qs) n (start ws ss n) ≡ o → ⊥
      go (Some k) p b q o r = let y : ◌≡◌ {A = ℕ} 6 5 = (rw (le-ltb _ _ held, le-ltb _ _ enough, e, p, refusal, leaves) at z) in omega arith
      go None p false q o r = let y : ◌≡◌ {A = ℕ} 7 5 = (rw (le-ltb _ _ held, le-ltb _ _ enough, e, p, q, refusal, leaves) at z) in omega arith
      go None p true q (goes s x) r = let y : ◌≡◌ {A = ℕ} 0 5 = (rw (le-ltb _ _ held, le-ltb _ _ enough, e, p, q, refusal, leaves, r) at z) in omega arith
      go None p true q (fails ws₁ ss₁ x) r = number_other x (rw (le-ltb _ _ held, le-ltb _ _ enough, e, p, q, refusal, leaves, r) at z)
      go None p true q spent r = let y : ◌≡◌ {A = ℕ} NONE 5 = (rw (le-ltb _ _ held, le-ltb _ _ enough, e, p, q, refusal, leaves, r) at z) in omega arith

  -- writing answers 5 at a record exactly if solving does
  pub refused_alike : (r : ℕ) → ((write ws n bs).said ≡ reply 5 r 0) ↔ ((solve ws ss qs n).said ≡ reply 5 r 0)
  refused_alike r = go (broken ws n) refl
    where
      go : (f : Option ℕ) → broken ws n ≡ f → ((write ws n bs).said ≡ reply 5 r 0) ↔ ((solve ws ss qs n).said ≡ reply 5 r 0)
      go (Some k) e = (λ z. rw (solve-broken k e) (rw (write-broken k e) at z), λ z. rw (write-broken k e) (rw (solve-broken k e) at z))
      go None e = (λ z. absurd (write_other e (ap (λ (x : Reply). x.answer) z)), λ z. absurd (solve_other e (ap (λ (x : Reply). x.answer) z)))
