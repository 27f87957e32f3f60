-- Answers 4 to 7 are what solving asks before the machine, where there are words enough for solutions.
use Rattle.std.specs.Prelude.{Option, ℕ, Some, None, Result, Ok, Err}
use Prim.Native.Nat.{ℕ, ◌*◌, ◌≤◌}
use mathlib.Core.Path.{◌≡◌, refl, sym, ◌∙◌}
use mathlib.Core.Bool.{Bool, true, false}
use mathlib.Core.List.{List}
use native.Mathlib.Omega.{arith}
use borrow.Author.Tests.{le-ltb}
use mir.Syntax.{w32}
use mir.Val.{Fits}
use lib.ListN.{length}
use lib.Dec.{eqb, ltb}
use Rattle.rules.specs.declared.Refused.{Refused}
use Rattle.rules.specs.declared.Refused.TheVariants.{NoRoom}
use Rattle.rules.specs.declared.Reply.{Reply}
use Rattle.rules.specs.Lists.{either}
use Rattle.rules.specs.Words.{NONE}
use Rattle.rules.specs.Answers.{reply, refusing, records}
use Rattle.rules.specs.Records.{broken}
use Rattle.rules.specs.Typing.{ill_typed}
use Rattle.rules.specs.Pattern.{no_pattern}
use Rattle.rules.specs.Solve.{refusal}
use Rattle.checks.specs.Refusing.{refusal_of, outside, asks, sound, Settled}
use Rattle.checks.specs.RefusingLaws.{outside_refused, inside_sound, in_table}
use Rattle.checks.specs.Order.{saying, checked}

-- it is the reply to what solving asks before the machine
pub refusal-checked : (ws ss : List ℕ) (n : ℕ) → records ws ≤ length ss → checked ws n ≡ saying (refusal true ws ss n)
unfolding refusal checked either saying
refusal-checked ws ss n h = go (ltb (records ws) n) refl (broken ws n) refl (ill_typed ws n) refl (eqb (no_pattern ws n) NONE) refl
  where
    go : (a : Bool) → ltb (records ws) n ≡ a → (b : Option ℕ) → broken ws n ≡ b → (c : Option ℕ) → ill_typed ws n ≡ c → (d : Bool) → eqb (no_pattern ws n) NONE ≡ d
        → checked ws n ≡ saying (refusal true ws ss n)
    go true e b f c g d i = rw (e, refusal, checked)
    go false e (Some r) f c g d i = rw (e, le-ltb _ _ h, refusal, checked, f)
    go false e None f (Some r) g d i = rw (e, le-ltb _ _ h, refusal, checked, f, g)
    go false e None f None g true i = rw (e, le-ltb _ _ h, refusal, checked, f, g, i)
    go false e None f None g false i = rw (e, le-ltb _ _ h, refusal, checked, f, g, i)

-- a table has as many words as it has records
module _ (ws : List ℕ) (n : ℕ) where
  solving-checked : checked ws n ≡ saying (refusal true ws ws n)
  unfolding records
  solving-checked = refusal-checked ws ws n (omega arith)

  pub outside-checked : (b : Bool) (r : Reply) → b ≡ outside ws ws n → b ≡ true → refusing NoRoom ≡ r → checked ws n ≡ r
  unfolding saying
  outside-checked b r o e q = solving-checked ∙ rw (outside_refused ws ws n true (sym o ∙ e)) q

  pub inside_table : (b : Bool) → b ≡ outside ws ws n → b ≡ false → (n ≤ 4096) × (4 * n ≤ length ws)
  inside_table b o e = in_table ws ws n (sym o ∙ e)

  pub inside_fits : (b : Bool) → b ≡ outside ws ws n → b ≡ false → Fits w32 n
  inside_fits b o e = let few = (inside_table b o e).0 in record { fits = omega arith }

  pub inside_checked : (b : Bool) (r : Reply) → b ≡ outside ws ws n → b ≡ false → saying (sound true ws n) ≡ r → checked ws n ≡ r
  inside_checked b r o e q = solving-checked ∙ rw (inside_sound ws ws n (sym o ∙ e) true (sound true ws n) refl) q

-- solving is always asked
pub solving-sound : (ws es : List ℕ) (n : ℕ) (x : Result ℕ Refused) (r : Reply) → Settled ws es n (asks None ws n) x → saying (refusal_of x) ≡ r → saying (sound true ws n) ≡ r
unfolding asks
solving-sound ws es n x r s q = rw s.says q

pub says_admitted : (x : Result ℕ Refused) (k : ℕ) (r : Reply) → x ≡ Ok k → reply 0 0 0 ≡ r → saying (refusal_of x) ≡ r
unfolding saying
says_admitted x k r e q = rw e q

pub says_refused : (x : Result ℕ Refused) (why : Refused) (r : Reply) → x ≡ Err why → refusing why ≡ r → saying (refusal_of x) ≡ r
unfolding saying
says_refused x why r e q = rw e q
