use Prim.Native.Nat.{ℕ, ◌≤◌}
use borrow.Author.Rules.{rules}
use mathlib.Core.Path.{◌≡◌}
use mathlib.Core.List.{List}
use native.Mathlib.Omega.{arith}
use lib.ListN.{length, take, drop}
use Rattle.std.proofs.lemmas.List.{take_all}
use Rattle.queue.proofs.Equations.{entered_first, entering_read, entered_full, entering_room, entered_one, entered_end}
use Rattle.queue.proofs.Ring.enter_equations.Goals as goal

pub returns-then-cap-equations : goal.returns-then-cap-equations
returns-then-cap-equations c = search entered_full

-- a part that begins at the start and leaves out none is the list
whole : (xs : List ℕ) (a n : ℕ) → a ≡ 0 → length xs ≤ n → take n (drop a xs) ≡ xs
whole xs a n z h = rw z (take_all n xs h)

pub loop-equation-init : goal.loop-equation-init
loop-equation-init c = entered_first _ _ _ _ (search rules) _ _ (search rules) (search rules) (search rules) (grind (arith, whole))

pub read-rec-requires : goal.read-rec-requires
read-rec-requires c = search entering_read

pub join-ring-requires : goal.join-ring-requires
join-ring-requires c = search entering_room

pub loop-equation-preserved : goal.loop-equation-preserved
loop-equation-preserved c = search entered_one

pub returns : goal.returns
returns c = search entered_end
