-- A refusal is made of its parts, in order.
use Rattle.std.specs.Prelude.{Option, ℕ, Some, None, Result, Ok, Err}
use Rattle.std.specs.Result.{IsErr, IsErrAnd}
use Prim.Native.Nat.{ℕ, ◌/◌, ◌<◌, ◌≤◌, min}
use mathlib.Core.Path.{◌≡◌, refl, sym, ap, ◌∙◌}
use mathlib.Core.List.{List}
use mathlib.Core.Bool.{Bool, true, false, not}
use native.Mathlib.Omega.{arith}
use lib.ListN.{length, take}
use lib.Dec.{eqb, ltb}
use borrow.Author.Tests.{lt-ltb, le-ltb, not-true, not-false}
use Rattle.rules.specs.declared.Reply.{Reply}
use Rattle.rules.specs.declared.Refused.{Refused as Why}
use Rattle.rules.specs.declared.Refused.TheVariants.{Broken as BrokenAt, NoHole}
use Rattle.laws.specs.Tests.{false_true}
use Rattle.table.specs.declared.Record.{Record}
use Rattle.table.specs.Reading.{IsRecord}
use Rattle.rules.specs.Lists.{both, either}
use Rattle.rules.specs.Words.{NONE, has}
use Rattle.rules.specs.Answers.{refusing, records}
use Rattle.rules.specs.Records.{broken}
use Rattle.rules.specs.Typing.{ill_typed}
use Rattle.rules.specs.Pattern.{no_pattern}
use Rattle.typing.specs.Judging.{judged, Judges}
use Rattle.records.specs.declared.Broken.{Broken}
use Rattle.records.specs.Rows.{LentAsks}
use Rattle.records.specs.Noting.{found_of, BrokenSays}
use Rattle.rules.specs.Solve.{refused}
use Rattle.laws.specs.Members.{broken_legal}
use Rattle.checks.specs.Refusing.{refusal_of, is_hole, asks, typed, asking, sound, outside, AskedAsks, Settled}

-- the reply to a refusal is that to its case
pub refusing_case : (x y : Why) (r : Reply) → x ≡ y → refusing y ≡ r → refusing x ≡ r
refusing_case x y r e q = ap refusing e ∙ q

module _ (ws : List ℕ) where
  pub room_is : (k : ℕ) → k ≡ min (length ws / 4) 4096 → records ws ≡ k
  unfolding records
  room_is k e = sym e

module _ (ws : List ℕ) (n : ℕ) where
  -- what is judged gives 6 and 7
  judged-typed : typed ws n ≡ refusal_of (judged ws n)
  unfolding typed judged
  judged-typed = go (ill_typed ws n) (eqb (no_pattern ws n) NONE) refl refl
    where
      go : (f : Option ℕ) (b : Bool) → ill_typed ws n ≡ f → eqb (no_pattern ws n) NONE ≡ b → typed ws n ≡ refusal_of (judged ws n)
      go (Some r) b e q = rw (e, typed, judged)
      go None true e q = rw (e, q, typed, judged)
      go None false e q = rw (e, q, typed, judged)

  -- a record asked for
  pub hole_within : (h : ℕ) (w : Record) (b : Bool) → h < n → IsRecord ws h w → eqb w.tag 4 ≡ b → is_hole ws n h ≡ b
  unfolding is_hole both has
  hole_within h w b lt e q = rw (lt-ltb _ _ lt, ← e.tag_is) q

  pub hole_past : (h : ℕ) → n ≤ h → is_hole ws n h ≡ ltb h n
  unfolding is_hole both
  hole_past h le = rw (le-ltb _ _ le)

-- what is asked for
module _ (ws st es : List ℕ) (n : ℕ) (p : AskedAsks ws st es n) (asked : Option ℕ) where
  pub asks-solving : asked ≡ None → asks asked ws n ≡ true
  unfolding asks
  asks-solving e = rw e

  pub asks_hole : (h : ℕ) (b : Bool) → asked ≡ Some h → is_hole ws n h ≡ b → not b ≡ false → asks asked ws n ≡ true
  unfolding asks
  asks_hole h b e i t = rw (e, i, not-false b t)

  pub asking_none : (h : ℕ) (b : Bool) → asked ≡ Some h → is_hole ws n h ≡ b → not b ≡ true → asking (asks asked ws n) ws n ≡ refused NoHole
  unfolding asks asking
  asking_none h b e i t = rw (e, i, not-true b t)

  pub asking_typed : (x : Result Unit Why) → Judges ws es x → asks asked ws n ≡ true → asking (asks asked ws n) ws n ≡ refusal_of x
  unfolding asking
  asking_typed x e q = rw (q, e.says n p.noted) (judged-typed ws n)

-- what the pass over the records found
module _ (ws es : List ℕ) (n : ℕ) (x : Result ℕ Broken) (e : BrokenSays ws es n x) where
  broken-refused : (b : Bool) (p : Broken) (why : Why) → x ≡ Err p → why ≡ BrokenAt p.0 → Settled ws es n b (Err why)
  unfolding sound
  broken-refused b p why z w =
      let f : broken ws n ≡ Some p.0 = sym e.found ∙ ap found_of z in
      record {
        says = rw (f, sound, w);
        noted = λ j w. absurd (let q : ◌≡◌ {A = ℕ} 0 1 = cc in omega arith);
        few = λ j w. absurd (let q : ◌≡◌ {A = ℕ} 0 1 = cc in omega arith);
      }

  pub broken_at : (b : Bool) (p : Broken) (r : Result ℕ Why) → x ≡ Err p → IsErr r × IsErrAnd r (λ why. why ≡ BrokenAt p.0) → Settled ws es n b r
  broken_at b p (Err why) z w = broken-refused b p why z w.1
  broken_at b p (Ok k) z w = absurd (false_true w.0)

  module _ (k : ℕ) (z : x ≡ Ok k) where
    none : broken ws n ≡ None
    none = sym e.found ∙ ap found_of z

    settled : (b : Bool) (r : Result ℕ Why) → asking b ws n ≡ refusal_of r → ((j : ℕ) → r ≡ Ok j → j ≡ k) → Settled ws es n b r
    unfolding sound
    settled b r s c = record {
      says = rw (none, sound) s;
      noted = λ j w. rw (c j w) (e.noted k z).noted;
      few = λ j w. rw (c j w) (e.noted k z).few;
    }

    pub none_broken : (b : Bool) (r : Result Unit Why) → asking b ws n ≡ refusal_of r → (u : Unit) → r ≡ Ok u → Settled ws es n b (Ok k)
    none_broken b r s u t = settled b (Ok k) (s ∙ rw t) (λ j w. cc)

    pub asked_refused : (b : Bool) (r : Result Unit Why) → asking b ws n ≡ refusal_of r → (why : Why) → r ≡ Err why
        → (r₁ : Result ℕ Why) → IsErr r₁ × IsErrAnd r₁ (λ w. w ≡ why) → Settled ws es n b r₁
    asked_refused b r s why t (Err w) e = settled b (Err w) (s ∙ rw (t, e.1)) (λ j z. absurd (let q : ◌≡◌ {A = ℕ} 0 1 = cc in omega arith))
    asked_refused b r s why t (Ok j) e = absurd (false_true e.0)

    module _ (ms la be es₀ : List ℕ) (p : LentAsks ws ms la be es₀ n) (l : length es ≡ length es₀) where
      pub noted_held : k ≤ length es
      noted_held = let f = (e.noted k z).few in let h = p.equations in omega arith

      -- the marks of the last types are as many as the records at most: room for the binders of each term
      pub asked-asks : (la₁ : List ℕ) → length la₁ ≡ length la → AskedAsks ws la₁ (take k es) n
      asked-asks la₁ m =
          let room = p.blank.room.last in
          let legal = broken_legal ws n (p.few, p.inside) none in
          let noted = (e.noted k z).noted in
          record { legal = legal; noted = noted; judge = record { top = n; legal = legal; room = omega arith; noted = noted } }

-- whether 4 is answered
module _ (ws ss : List ℕ) (n R : ℕ) (room : records ws ≡ R) where
  pub above_room : R < n → ltb R n ≡ outside ws ss n
  unfolding outside either
  above_room lt = let z : records ws < n = omega arith in rw (lt-ltb _ _ lt, lt-ltb _ _ z)

  pub within_room : n ≤ R → (b : Bool) → ltb (length ss) R ≡ b → b ≡ outside ws ss n
  unfolding outside either
  within_room le b e = let z : n ≤ records ws = omega arith in rw (le-ltb _ _ z, room) (sym e)
