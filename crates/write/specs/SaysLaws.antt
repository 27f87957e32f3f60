-- What writing replies: an answer of at most 14, a place among the records, and no more used than a file has.
use Rattle.std.specs.Prelude.{ℕ, ◌*◌, ◌<◌, ◌≤◌, ◌≡◌, Bool, List, length, Option, Some, None}
use Rattle.std.proofs.Math.Path.{refl}
use Rattle.std.proofs.Common.{ap}
use Rattle.std.proofs.Math.Bool.{true, false}
use native.Mathlib.Omega.{arith}
use Rattle.std.proofs.Math.Dec.{ltb}
use borrow.Author.Tests.{ltb-false}
use Rattle.rules.specs.declared.Reply.{Reply}
use Rattle.rules.specs.Lists.{either}
use Rattle.rules.specs.Answers.{records}
use Rattle.rules.specs.Records.{broken}
use Rattle.rules.specs.FileWrite.{Wrote, write}
use Rattle.laws.specs.Search.{lowest-below}

pub record Says (r : Reply) : Type 0 where
  pub answer : r.answer ≤ 14
  pub place : r.place < 2048
  pub used : r.used ≤ 2048

module _ (ws : List ℕ) (n : ℕ) (bs : List ℕ) where
  pub write_says : Says (write ws n bs).said
  unfolding write either broken
  write_says = go (ltb (records ws) n) refl (ltb 2048 n) refl (broken ws n) refl (ltb (length bs) (14 * n)) refl
    where
      go : (a : Bool) → ltb (records ws) n ≡ a → (b : Bool) → ltb 2048 n ≡ b → (f : Option ℕ) → broken ws n ≡ f → (c : Bool) → ltb (length bs) (14 * n) ≡ c
          → Says (write ws n bs).said
      go true p b q f r c s = rw (p, write) (record { answer = omega arith; place = omega arith; used = omega arith })
      go false p true q f r c s = rw (p, q, write) (record { answer = omega arith; place = omega arith; used = omega arith })
      go false p false q (Some k) r c s =
          let few : n ≤ 2048 = ltb-false _ _ q in
          let low = lowest-below n _ k r in
          rw (p, q, r, write) (record { answer = omega arith; place = omega arith; used = omega arith })
      go false p false q None r true s = rw (p, q, r, s, write) (record { answer = omega arith; place = omega arith; used = omega arith })
      go false p false q None r false s =
          let few : n ≤ 2048 = ltb-false _ _ q in
          rw (p, q, r, s, write) (record { answer = omega arith; place = omega arith; used = omega arith })

  pub write-used : (bs₁ : List ℕ) (r : Reply) → write ws n bs ≡ record { file = bs₁; said = r } → r.used ≤ 4096
  write-used bs₁ r e = let u = write_says.used in let z : (write ws n bs).said.used ≡ r.used = ap (λ (x : Wrote). x.said.used) e in omega arith
