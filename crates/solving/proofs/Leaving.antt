-- What is refused writes nothing; what is not is admitted.
use Rattle.std.specs.Prelude.{Result, Ok, Err}
use Prim.Native.Nat.{ℕ, ◌≤◌}
use mathlib.Core.Path.{◌≡◌, refl, sym, ap, ◌∙◌}
use mathlib.Core.List.{List}
use mathlib.Core.Bool.{Bool, true, false}
use native.Mathlib.Omega.{arith}
use lib.ListN.{take, replicate}
use mir.Syntax.{w32}
use mir.Val.{Fits}
use Rattle.rules.specs.declared.Reply.{Reply}
use Rattle.rules.specs.declared.Refused.{Refused as Why}
use Rattle.rules.specs.declared.Refused.TheVariants.{NoRoom}
use Rattle.rules.specs.Answers.{refusing, records}
use Rattle.rules.specs.Solve.{admitted, refusal, Behind, leaves}
use Rattle.invariants.specs.Admit.{Admitted, refusal_says}
use Rattle.promise.specs.Admitting.{admitted_is}
use Rattle.records.specs.declared.Notes.{Notes}
use Rattle.records.specs.Rows.{BrokenAsks}
use Rattle.records.specs.ZerosLaws.{zeros_ask}
use Rattle.checks.specs.Refusing.{refusal_of, outside, Settled}
use Rattle.checks.specs.RefusingLaws.{outside_refused, inside_sound, in_table}
use Rattle.machine.specs.Leaving.{Admits, LeftBehind}
use Rattle.solving.specs.Checking.{Inside}

pub blank-serve : (k : ℕ) (x : Notes k) → x.last ≡ replicate k 0 → (ws ss : List ℕ) (n : ℕ) → Inside k ws ss n → BrokenAsks ws x n
blank-serve k x e ws ss n h = let z = in_table ws ss n h.within in zeros_ask k x e ws n h.few z.0 z.1

-- 4
module _ (b : Bool) (ws ss qs : List ℕ) (n : ℕ) where
  pub left-outside : (o : Bool) (r : Reply) → o ≡ outside ws ss n → o ≡ true → refusing NoRoom ≡ r → LeftBehind (refusal b ws ss n) ws ss qs n ws ss qs r
  unfolding leaves
  left-outside o r e t q = rw (outside_refused ws ss n b (sym e ∙ t), q)

module _ (ws ss : List ℕ) (n : ℕ) (o : Bool) (e : o ≡ outside ws ss n) (f : o ≡ false) where
  pub inside_fits : Fits w32 n
  inside_fits = let z = (in_table ws ss n (sym e ∙ f)).0 in record { fits = omega arith }

  pub inside_most : Inside 4096 ws ss n
  inside_most = record { small = omega arith; few = (in_table ws ss n (sym e ∙ f)).0; within = sym e ∙ f }

  pub inside_few : (k : ℕ) → n ≤ k → k ≤ 4096 → Inside k ws ss n
  inside_few k le small = record { small = small; few = le; within = sym e ∙ f }

-- where 5, 10, 6 and 7 are decided: what is left behind, whichever way they were
module _ (N : ℕ) (b : Bool) (ws ss es : List ℕ) (n : ℕ) (x : Result ℕ Why) (h : Inside N ws ss n) (s : Settled ws es n b x) where
  says : refusal b ws ss n ≡ refusal_of x
  says = inside_sound ws ss n h.within b (refusal_of x) s.says

  pub left_refused : (qs : List ℕ) (why : Why) (r : Reply) → x ≡ Err why → refusing why ≡ r → LeftBehind (refusal b ws ss n) ws ss qs n ws ss qs r
  unfolding leaves
  left_refused qs why r z q = rw (says, z, q)

  pub settled_admits : (R k : ℕ) → records ws ≡ R → x ≡ Ok k → Admits R n ws ss (take k es)
  settled_admits R k r z =
      let a : Admitted b ws ss n = rw (says, z) at (refusal_says b ws ss n) in
      let t : refusal true ws ss n ≡ admitted = ap (λ (x : Bool). refusal x ws ss n) (sym a.is) ∙ says ∙ ap refusal_of z in
      record {
        input = record { is = refl; in_table = a.in_table; held = a.held; sound = a.sound };
        typed = admitted_is ws ss n t;
        room = r;
        noted = s.noted k z;
      }

  pub left_solved : (qs : List ℕ) (k : ℕ) (l : Behind) → x ≡ Ok k → leaves admitted ws ss qs n ≡ l → leaves (refusal b ws ss n) ws ss qs n ≡ l
  left_solved qs k l z e = rw (says, z) e
