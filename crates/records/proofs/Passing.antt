-- The search: the lowest records keep the rules, and the next is looked at.
use Rattle.std.specs.Prelude.{Ok, Err}
use Prim.Native.Nat.{ℕ, ◌+◌, ◌<◌, ◌≤◌}
use mathlib.Core.Path.{◌≡◌, refl, sym, ◌∙◌}
use mathlib.Core.Bool.{Bool, true, false, not}
use mathlib.Core.List.{List}
use native.Mathlib.Omega.{arith}
use borrow.Author.Tests.{not-false}
use lib.ListN.{length}
use Rattle.rules.specs.Records.{keeps, broken}
use Rattle.laws.specs.Search.{ahead, ahead-start, ahead_on, ahead_stop, ahead_end}
use Rattle.records.specs.Marks.{used}
use Rattle.records.specs.Chains.{latest}
use Rattle.records.specs.Rows.{Passed, Blank, RecordAsks, RecordSays, LentAsks}
use Rattle.records.specs.Noting.{Noted, NoteAsks, BrokenSays}
use Rattle.rules.specs.Words.{EQ, has}
use Rattle.laws.specs.Noted.{noted_start}
use Rattle.records.proofs.Uses.{marked_start}

-- The start

passed_start : (ws ms la be : List ℕ) (n : ℕ) → Blank ms la be n → Passed ws ms la be 0
passed_start ws ms la be n p = record {
  lower = λ r h. absurd (omega arith);
  marks = unfold used in marked_start ws ms;
  chains = record { last = unfold latest in p.last; before = λ j h t. absurd (omega arith) };
}

-- From record to record

-- the records below r are passed and their k equations noted, with as many marks as before
pub record Going (ws ms₀ la₀ be₀ es₀ ms la be es : List ℕ) (n r k : ℕ) : Type 0 where
  pub asks : LentAsks ws ms₀ la₀ be₀ es₀ n
  pub passed : Passed ws ms la be r
  pub left : broken ws n ≡ ahead n (λ i. not (keeps ws i)) r
  pub noted : Noted EQ ws es k r
  pub within : r ≤ n
  pub marks : length ms ≡ length ms₀
  pub last : length la ≡ length la₀
  pub before : length be ≡ length be₀
  pub equations : length es ≡ length es₀

pub going_start : (ws ms la be es : List ℕ) (n : ℕ) → LentAsks ws ms la be es n → Going ws ms la be es ms la be es n 0 0
going_start ws ms la be es n p = record {
  asks = p;
  passed = passed_start ws ms la be n p.blank;
  left = unfold broken in ahead-start n (λ r. not (keeps ws r));
  noted = noted_start (λ e. has ws e EQ) es;
  within = omega arith;
  marks = refl;
  last = refl;
  before = refl;
  equations = refl;
}

module _ (ws ms₀ la₀ be₀ es₀ ms la be es : List ℕ) (n r k : ℕ) (g : Going ws ms₀ la₀ be₀ es₀ ms la be es n r k) where
  pub going_end : n ≤ r → BrokenSays ws es n (Ok k)
  going_end h = let w = g.within in let e : r ≡ n = omega arith in record {
    found = sym (g.left ∙ ahead_end n _ r h);
    noted = λ j z. let q : k ≡ j = cc in rw (← q, ← e) g.noted;
  }

  pub going_asks : r < n → RecordAsks ws ms la be r
  going_asks h =
      let p = g.asks in
      let i = p.inside in
      let f = p.few in
      let a = p.blank.room.marks in
      let c = p.blank.room.last in
      let d = p.blank.room.before in
      let a' = g.marks in
      let c' = g.last in
      let d' = g.before in
      record {
        inside = omega arith;
        few = omega arith;
        room = record { marks = omega arith; last = omega arith; before = omega arith };
        passed = g.passed;
      }

  pub going_notes : r < n → NoteAsks EQ ws es k r
  going_notes h =
      let i = g.asks.inside in
      let f = g.asks.few in
      let a = g.asks.equations in
      let a' = g.equations in
      record { inside = omega arith; low = omega arith; room = omega arith; lower = g.noted }

  module _ (h : r < n) (ms₁ la₁ be₁ : List ℕ) (b : Bool) (s : RecordSays ws ms₁ la₁ be₁ r b) where
    pub going_stop : not b ≡ true → BrokenSays ws es n (Err (record { 0 = r }))
    going_stop t = record {
      found = sym (g.left ∙ ahead_stop n _ r h (rw (← s.answer) t));
      noted = λ j z. absurd (let q : ◌≡◌ {A = ℕ} 0 1 = cc in omega arith);
    }

    pub going_on : not b ≡ false → length ms₁ ≡ length ms → length la₁ ≡ length la → length be₁ ≡ length be
        → (es₁ : List ℕ) (k₁ : ℕ) → Noted EQ ws es₁ k₁ (r + 1) → length es₁ ≡ length es → Going ws ms₀ la₀ be₀ es₀ ms₁ la₁ be₁ es₁ n (r + 1) k₁
    going_on t lm la be es₁ k₁ m le = record {
      asks = g.asks;
      passed = s.next (not-false _ t);
      left = g.left ∙ ahead_on n _ r h (rw (← s.answer) t);
      noted = m;
      within = omega arith;
      marks = lm ∙ g.marks;
      last = la ∙ g.last;
      before = be ∙ g.before;
      equations = le ∙ g.equations;
    }
