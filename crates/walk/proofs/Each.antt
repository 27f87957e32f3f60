-- What the walk of an argument list asks, argument by argument.
use Rattle.std.specs.Prelude.{Option}
use Prim.Native.Nat.{ℕ, suc, ◌+◌, ◌*◌, ◌<◌}
use mathlib.Core.Path.{◌≡◌}
use mathlib.Core.List.{List}
use native.Mathlib.Omega.{arith}
use lib.ListN.{length}
use Rattle.table.specs.declared.Record.{Record}
use Rattle.table.specs.Reading.{IsRecord}
use Rattle.table.specs.declared.Hole.{Hole}
use Rattle.places.specs.declared.Map.{Map}
use Rattle.rules.specs.Words.{NONE}
use Rattle.rules.specs.Store.{Store}
use Rattle.laws.specs.Lists.{size}
use Rattle.invariants.specs.Rise.{reach}
use Rattle.rewrite.specs.TermsLaws.{list_read, list_cell}
use Rattle.rewrite.specs.EachLaws.{Splits, Turn as Loop, turn_read as read, turn_head as head, turn_lower as lower}
use Rattle.walk.specs.Walks.{map_at, writer}
use Rattle.walk.specs.Ready.{ReadyTerm, ReadyList}
use Rattle.walk.proofs.First.{first_ready}
use Rattle.walk.proofs.After.{after_same, after_ready}

module _ (R n : ℕ) (u : Option Hole) (m : Map) (F d : ℕ) where
  abbrev Term : Store → ℕ → Type 0
  Term s r = ReadyTerm R n u m s.words s.solutions s.used F d r

  abbrev All : Store → ℕ → Type 0
  All s l = ReadyList R n u m s.words s.solutions s.used F d l

  pub splits : Splits (writer R u) (λ s. s.words) Term All R R n F (map_at F m) d
  splits =
      record {
        room = λ s l h. h.at.fine.room;
        since = λ s l h. h.at.fine.since;
        few = λ s l h. h.at.few;
        read = λ s l h. list_read h.at;
        cell = λ s l h. list_cell h.at;
        first = λ s l h ne w e c. first_ready h ne w e;
        rest = λ s l h ne w e c s₁ y g lw. (after_ready h ne w e s₁.words s₁.solutions s₁.used y g, after_same h ne w e s₁.words s₁.solutions s₁.used y g);
      }

-- after some arguments: what they were written as, and what is left
abbrev pub Turn : ℕ → ℕ → Option Hole → Map → List ℕ → List ℕ → ℕ → ℕ → ℕ → ℕ → List ℕ → List ℕ → List ℕ → ℕ → ℕ → Type 0
Turn R n u m ws₀ ss₀ used₀ F d l₀ ws ss noted used l = Loop (writer R u) (λ s. s.words) (Term R n u m F d) (All R n u m F d) R R n F (map_at F m) d ws₀ ss₀ used₀ l₀ ws ss noted used l

module _ {R n : ℕ} {u : Option Hole} {m : Map} {ws₀ ss₀ : List ℕ} {used₀ F d l₀ : ℕ} {ws ss noted : List ℕ} {used l : ℕ} (h : Turn R n u m ws₀ ss₀ used₀ F d l₀ ws ss noted used l) (ne : l ≡ NONE → ⊥) where
  pub turn_read : 4 * l + 3 < length ws
  turn_read = read h ne

  pub turn_falls : (w : Record) → IsRecord ws l w → (t : ℕ) → 3 * reach R F (size l₀) ≡ t → 3 * reach R F (suc w.a) + 2 < t
  turn_falls w e t z = let a = lower h ne w e in omega arith

  pub turn_head : (w : Record) → IsRecord ws l w → ReadyTerm R n u m ws ss used F d w.a
  turn_head w e = head h ne w e
