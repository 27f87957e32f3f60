-- One more record is noted if it has the tag.
use Prim.Native.Nat.{ℕ, ◌+◌}
use mathlib.Core.Path.{◌≡◌}
use mathlib.Core.List.{List}
use native.Mathlib.Omega.{arith}
use borrow.Author.Tests.{ne_eqb, eq-eqb}
use lib.ListN.{set}
use Rattle.rules.specs.Words.{has}
use Rattle.laws.specs.Noted.{noted_other, noted_one}
use Rattle.table.specs.declared.Record.{Record}
use Rattle.table.specs.Reading.{IsRecord}
use Rattle.records.specs.Noting.{Noted, NoteAsks}

module _ (t : ℕ) (ws es : List ℕ) (k r : ℕ) (p : NoteAsks t ws es k r) (x : Record) (i : IsRecord ws r x) where
  pub note_other : (x.tag ≡ t → ⊥) → Noted t ws es k (r + 1)
  unfolding has
  note_other z = noted_other (λ e. has ws e t) es k r p.lower (rw (← i.tag_is, ne_eqb _ _ z))

  pub note_one : x.tag ≡ t → Noted t ws (set es k r) (k + 1) (r + 1)
  unfolding has
  note_one z =
      let f = p.lower.few in
      let h = p.room in
      noted_one (λ e. has ws e t) es k r p.lower (rw (← i.tag_is) (eq-eqb _ _ z)) (omega arith)
