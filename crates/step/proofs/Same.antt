-- Step 4: the same unsolved hole twice.
use Prim.Native.Nat.{ℕ, ◌+◌, ◌*◌, ◌<◌}
use mathlib.Core.Path.{◌≡◌, sym, ◌∙◌}
use mathlib.Core.List.{List}
use mathlib.Core.Bool.{Bool, true, false}
use native.Mathlib.Omega.{arith}
use lib.ListN.{length, length-map}
use lib.Dec.{eqb}
use Rattle.std.specs.Prelude.{Result, Ok, Err}
use Rattle.rules.specs.declared.Failure.{Failure}
use Rattle.narrow.specs.declared.Narrowed.{Narrowed}
use Rattle.table.specs.declared.Record.{Record}
use Rattle.table.specs.Reading.{IsRecord}
use Rattle.places.specs.declared.Map.{Map}
use Rattle.rules.specs.Words.{field_a, arguments, variables}
use Rattle.rules.specs.Walk.{narrow}
use Rattle.rules.specs.Machine.{agreeing, same_hole}
use Rattle.rules.specs.Store.{◌>>=◌}
use Rattle.store.specs.Said.{store, shown, Does²}
use Rattle.places.specs.Maps.{map_of, side}
use Rattle.places.specs.Agree.{Comparing, Agrees}
use Rattle.narrow.specs.Narrowing.{rooted, Narrowing}
use Rattle.narrow.specs.NarrowingLaws.{narrows}
use Rattle.rewrite.specs.PartsLaws.{term_read, counts_of}
use Rattle.step.specs.Same.{Occurrences, Agreed, SameReady, SameDone}

module _ {ws : List ℕ} {l r : ℕ} (x y : Record) (e : IsRecord ws l x) (e₁ : IsRecord ws r y) where
  pub compares : Occurrences ws l r → Comparing ws x.b y.b
  compares h = rw (e.b_is, e₁.b_is) (record { left = h.left; right = h.right.list; alike = h.many })

  pub agreed : (m : Map) → Agrees ws x.b y.b m → Agreed ws l r m
  unfolding variables arguments
  agreed m a = record { run = rw (← e.b_is, ← e₁.b_is) a.run; len = rw (← e.b_is) a.len }

module _ {R n : ℕ} {ws ss : List ℕ} {used l r : ℕ} where
  pub same_read : SameReady R n ws ss used l r → 4 * l + 3 < length ws
  same_read h = term_read R n h.home ws ss used 0 l h.fine h.left

  pub same_occurs : SameReady R n ws ss used l r → Occurrences ws l r
  same_occurs h =
      let a = h.nine_left in
      let b = h.nine_right in
      record {
        inside_left = term_read R n h.home ws ss used 0 l h.fine h.left;
        inside_right = term_read R n h.home ws ss used 0 r h.fine h.right;
        left = counts_of R n h.home ws ss used 0 l h.fine h.left (omega arith);
        right = counts_of R n h.home ws ss used 0 r h.fine h.right (omega arith);
        many = h.many;
      }

  pub same_narrows : (x : Record) (kept : Map) → IsRecord ws l x → SameReady R n ws ss used l r → Agreed ws l r kept → Narrowing ws ss n used R x.a kept
  same_narrows x kept e h a = narrows R n h.home ws ss used 0 l h.fine h.left x e h.nine_left kept (h.arity ∙ sym a.len)

module _ (R n : ℕ) (ws ss : List ℕ) (used l r : ℕ) (kept : Map) (a : Agreed ws l r kept) (b : Bool) (p : b ≡ eqb (length (map_of false kept)) kept.len) where
  tested : eqb (length (agreeing 0 (variables ws l) (variables ws r))) (length (variables ws l)) ≡ b
  unfolding variables arguments
  tested = rw (← a.run) (simp length-map (rw (← a.len) (sym p)))

  pub same_all : b ≡ true → SameDone R l r ws ss used ws ss (Ok used)
  unfolding same_hole
  same_all q = record { said = λ v. rw (tested ∙ q, same_hole) }

  module _ (x : Record) (ws₁ ss₁ : List ℕ) (y : Result Narrowed Failure) (e : IsRecord ws l x) (q : b ≡ false) (d : Does² n (narrow R x.a (side true (map_of false kept))) ws ss used ws₁ ss₁ (rooted y)) where
    narrowed : narrow R (field_a ws l) (agreeing 0 (variables ws l) (variables ws r)) (store ws ss used) ≡ shown ws₁ ss₁ (rooted y)
    unfolding side
    narrowed = rw (← a.run, ← e.a_is) d.run

    pub same_fails : (f : Failure) → y ≡ Err f → SameDone R l r ws ss used ws₁ ss₁ (Err f)
    unfolding same_hole ◌>>=◌
    same_fails f z = record { said = λ v. rw (tested ∙ q, same_hole, narrowed, z) }

    pub same_some : (w : Narrowed) → y ≡ Ok w → SameDone R l r ws ss used ws₁ ss₁ (Ok w.used)
    unfolding same_hole ◌>>=◌
    same_some w z = record { said = λ v. rw (tested ∙ q, same_hole, narrowed, z) }
