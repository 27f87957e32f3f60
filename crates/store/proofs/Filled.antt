-- A part of the words that was filled, and the whole.
use Prim.Native.Nat.{ℕ, ◌+◌, ◌-◌, ◌≤◌}
use mathlib.Core.Path.{◌≡◌}
use mathlib.Core.List.{List}
use native.Mathlib.Omega.{arith}
use lib.ListN.{length, replicate, take, drop, length-take, length-drop}
use lib.Seq.{drop-drop}
use borrow.Rule.Slice.PartMut.{put_mid}
use Rattle.rules.specs.Solve.{filled}

pub part_filled : (i k x : ℕ) (ws part : List ℕ) → i + k ≤ length ws → replicate (length (take ((i + k) - i) (drop i ws))) x ≡ part → filled i k x ws ≡ put_mid i ((i + k) - i) ws part
unfolding filled
part_filled i k x ws part h p =
    let m : (i + k) - i ≡ k = omega arith in
    let l : length (take ((i + k) - i) (drop i ws)) ≡ k = simp (length-take, length-drop) (omega arith) in
    rw (← p, l, m, drop-drop)
