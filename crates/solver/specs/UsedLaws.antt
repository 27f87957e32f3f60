-- A reply's used is at most 4,096.
use Prim.Native.Nat.{ℕ, zero, suc, ◌*◌, ◌/◌, ◌%◌, ◌≤◌}
use Rattle.std.specs.Prelude.{◌≡◌, List, [], Bool, eqb, Option, ℕ, Some, None}
use Rattle.std.proofs.Math.Path.{refl, ap}
use Rattle.std.proofs.Math.Bool.{true, false, not}
use native.Mathlib.Omega.{arith}
use Rattle.std.proofs.Math.ListN.{length}
use Rattle.std.proofs.Math.Dec.{ltb}
use borrow.Author.Tests.{ltb-false}
use Rattle.rules.specs.declared.Refused.{Refused}
use Rattle.rules.specs.declared.Refused.TheVariants.{NoRoom, Broken, NoHole, IllTyped, NoPattern}
use Rattle.rules.specs.declared.Reply.{Reply}
use Rattle.rules.specs.Lists.{both, either, lowest}
use Rattle.rules.specs.Words.{HO, has}
use Rattle.rules.specs.Answers.{refusing, records, pairs}
use Rattle.rules.specs.Store.{Out, goes, fails, spent}
use Rattle.rules.specs.Machine.{Pair, machine}
use Rattle.rules.specs.Solve.{Refusal, admitted, refused, refusal, filled, start, Behind, leaves, solve}
use Rattle.rules.specs.Show.{Shown, answer, shows, show}
use Rattle.rules.specs.File.{Read, read, marked, is_known}
use Rattle.invariants.specs.Floor.{Grows}
use Rattle.invariants.specs.Copy.{Nobody}
use Rattle.invariants.specs.Run.{Any}
use Rattle.invariants.specs.Start.{records_few}
use Rattle.invariants.specs.Admit.{Says, refusal_says}
use Rattle.invariants.proofs.Machine.{machine_grows}
use Rattle.invariants.proofs.Answers.{show_says}
use Rattle.machine.specs.MachineLaws.{machine_none}

-- what is refused uses none
refusing_none : (x : Refused) → (refusing x).used ≡ 0
refusing_none NoRoom = refl
refusing_none (Broken r) = refl
refusing_none NoHole = refl
refusing_none (IllTyped r) = refl
refusing_none (NoPattern r) = refl

module _ (ws ss qs : List ℕ) (n : ℕ) where
  -- no more records are used than there are
  leaves-used : (b : Bool) (f : Refusal) → Says b ws ss n f → (leaves f ws ss qs n).said.used ≤ 4096
  unfolding leaves start
  leaves-used b (refused x) h = let z = refusing_none x in omega arith
  leaves-used b admitted h = go n refl
    where
      ran : (o : Out (List Pair)) → machine (records ws) (pairs qs) n (start ws ss n) ≡ o → Grows Nobody Any (records ws) n (λ i. 0) (start ws ss n) o → (leaves admitted ws ss qs n).said.used ≤ 4096
      ran (goes s q) e g = let w = g.fine.within in let f = g.fine.few in rw (e, leaves) (omega arith)
      ran (fails ws₁ ss₁ x) e g = rw (e, leaves) (omega arith)
      ran spent e g = absurd g

      go : (k : ℕ) → n ≡ k → (leaves admitted ws ss qs n).said.used ≤ 4096
      go zero z =
          let m : machine (records ws) (pairs qs) n (start ws ss n) ≡ goes (start ws ss n) [] = rw z (machine_none (records ws) (pairs qs) (start ws ss 0)) in
          rw (m, leaves) (omega arith)
      go (suc k) z = ran (machine (records ws) (pairs qs) n (start ws ss n)) refl (machine_grows b ws ss n (pairs qs) h (omega arith))

  pub solve-used : (ws₁ ss₁ qs₁ : List ℕ) (r : Reply) → solve ws ss qs n ≡ record { table = ws₁; solutions = ss₁; queue = qs₁; said = r } → r.used ≤ 4096
  unfolding solve
  solve-used ws₁ ss₁ qs₁ r e =
      let u = leaves-used true (refusal true ws ss n) (refusal_says true ws ss n) in
      let z : (leaves (refusal true ws ss n) ws ss qs n).said.used ≡ r.used = ap (λ (l : Behind). l.said.used) e in
      omega arith

  module _ (os : List ℕ) (h : ℕ) where
    -- an answer other than 0 uses no record
    shows-used : (l : Behind) → l.said.used ≤ 4096 → ((shows l os h).behind.said.answer ≡ 0 → (shows l os h).behind.said.used ≤ 4096) → (shows l os h).behind.said.used ≤ 4096
    unfolding shows
    shows-used l u w = go l.said.answer refl
      where
        go : (k : ℕ) → l.said.answer ≡ k → (shows l os h).behind.said.used ≤ 4096
        go zero e = ran (answer (records os) l.table h (record { words = filled 0 (4 * records os) 0 os; solutions = l.solutions; used = 0 })) refl
          where
            ran : (o : Out ℕ) → answer (records os) l.table h (record { words = filled 0 (4 * records os) 0 os; solutions = l.solutions; used = 0 }) ≡ o → (shows l os h).behind.said.used ≤ 4096
            ran (goes s r) f = w (rw (e, shows, f))
            ran (fails ws₁ ss₁ x) f = rw (e, shows, f) (omega arith)
            ran spent f = rw (e, shows, f) (omega arith)
        go (suc k) e = rw (e, shows) u

    show_low : (show ws ss qs os n h).behind.said.used ≤ 4096
    unfolding show
    show_low =
        shows-used (leaves (refusal (both (ltb h n) (has ws h HO)) ws ss n) ws ss qs n)
        (leaves-used (both (ltb h n) (has ws h HO)) (refusal (both (ltb h n) (has ws h HO)) ws ss n) (refusal_says (both (ltb h n) (has ws h HO)) ws ss n)) λ z.
        let a = (show_says ws ss qs os n h).written z in
        let l = a.root.last in
        let w = a.outputs.within in
        let f = a.outputs.few in
        omega arith

    pub show-used : (ws₁ ss₁ qs₁ os₁ : List ℕ) (r : Reply) → show ws ss qs os n h ≡ record { behind = record { table = ws₁; solutions = ss₁; queue = qs₁; said = r }; output = os₁ } → r.used ≤ 4096
    show-used ws₁ ss₁ qs₁ os₁ r e = let u = show_low in let z : (show ws ss qs os n h).behind.said.used ≡ r.used = ap (λ (x : Shown). x.behind.said.used) e in omega arith

module _ (bs ws : List ℕ) where
  read_low : (read bs ws).said.used ≤ 4096
  unfolding read
  read_low = go (either (ltb 28672 (length bs)) (not (eqb (length bs % 14) 0))) refl (ltb (records ws) (length bs / 14)) refl (lowest (length bs / 14) (λ r. not (is_known (marked bs r)))) refl
    where
      go : (a : Bool) → either (ltb 28672 (length bs)) (not (eqb (length bs % 14) 0)) ≡ a → (b : Bool) → ltb (records ws) (length bs / 14) ≡ b → (c : Option ℕ) → lowest (length bs / 14) (λ r. not (is_known (marked bs r))) ≡ c
          → (read bs ws).said.used ≤ 4096
      go true e b f c g = rw (e, read) (omega arith)
      go false e true f c g = rw (e, read, f) (omega arith)
      go false e false f (Some r) g = rw (e, read, f, g) (omega arith)
      go false e false f None g = let l : length bs / 14 ≤ records ws = ltb-false _ _ f in let m = records_few ws in rw (e, read, f, g) (omega arith)

  pub read-used : (ws₁ : List ℕ) (r : Reply) → read bs ws ≡ record { table = ws₁; said = r } → r.used ≤ 4096
  read-used ws₁ r e = let u = read_low in let z : (read bs ws).said.used ≡ r.used = ap (λ (f : Read). f.said.used) e in omega arith
