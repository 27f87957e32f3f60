-- The loop over the lines: the next line fits behind those that are gathered.
use Prim.Native.Nat.{ℕ, ◌+◌, ◌-◌, ◌≤◌}
use mathlib.Core.Path.{◌≡◌, ◌∙◌}
use mathlib.Core.List.{List}
use native.Mathlib.Omega.{arith}
use native.Mathlib.Nat.{le_refl}
use lib.ListN.{length}
use borrow.Rule.Slice.PartMut.{mid_of, mid_len}
use Rattle.lines.specs.declared.Begun.{Begun}
use Rattle.lines.specs.Lines.{Lines}
use Rattle.lines.specs.Making.{Makes, Made}
use Rattle.tanczotka.specs.Gathering.{Gathers, half}

module _ (x : Begun) (ws ss hs os text : List ℕ) (end : ℕ) (g : Gathers x ws ss hs os text end) where
  pub next_asks : (i : ℕ) → i ≤ x.holes → Makes (mid_of end (length text - end) text) i x ws ss hs os
  next_asks i h =
      let m = mid_len end (length text) text (le_refl _) in
      let l = g.long in
      let e = g.filled in
      record { file = g.file; lines = g.lines; some = h; output = g.output; room = omega arith }

  pub next_few : (i : ℕ) → i ≤ x.holes → i ≤ 4096
  next_few i h = let f = g.lines.few in let k = g.few in omega arith

  pub next_ends : (i : ℕ) (text₁ : List ℕ) (r : ℕ) → Made i x ws ss hs text₁ r → end + r ≤ 131072
  next_ends i text₁ r m = let s = m.short in let e = g.filled in omega arith

  pub next_gathers : (os₁ text₁ : List ℕ) (k : ℕ) → length os₁ ≡ length os → length text₁ ≡ length text → k ≤ half → Gathers x ws ss hs os₁ text₁ k
  next_gathers os₁ text₁ k lo lt w = record { file = g.file; lines = g.lines; few = g.few; output = lo ∙ g.output; long = lt ∙ g.long; filled = w }

-- what was begun, with nothing gathered
pub print_gathers : (bs ws ss hs : List ℕ) (x : Begun) (os text : List ℕ) → Lines bs ws ss hs x → length hs ≡ 4096 → length os ≡ 16384 → length text ≡ 131072 → Gathers x ws ss hs os text 0
print_gathers bs ws ss hs x os text l h o t = record { file = bs; lines = l; few = h; output = o; long = t; filled = omega arith }
