use Prim.Native.Nat.{ℕ, ◌≤◌}
use mathlib.Core.Path.{◌≡◌}
use mathlib.Core.List.{List}
use native.Mathlib.Omega.{arith}
use lib.ListN.{length, take, drop}
use Rattle.std.proofs.lemmas.List.{take_all}
use Rattle.typing.proofs.Equations.{gone_none, equation_asks, equation_fails, gone_more, all_fine, some_offend}
use Rattle.typing.proofs.judge.Goals as goal

-- a part that begins at the start and leaves out none is the list
whole : (xs : List ℕ) (a n : ℕ) → a ≡ 0 → length xs ≤ n → take n (drop a xs) ≡ xs
whole xs a n z h = rw z (take_all n xs h)

pub loop-e-init : goal.loop-e-init
loop-e-init c = gone_none _ _ _ _ c.requires (grind (arith, whole))

pub offends-requires : goal.offends-requires
offends-requires c = search equation_asks

pub returns-then-offends : goal.returns-then-offends
returns-then-offends c = search equation_fails

pub loop-e-preserved : goal.loop-e-preserved
loop-e-preserved c = search gone_more

pub returns-then-low : goal.returns-then-low
returns-then-low c = search some_offend

pub returns : goal.returns
returns c = search all_fine
