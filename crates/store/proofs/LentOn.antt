-- A write in a part that is lent on is a write in the whole.
use Prim.Native.Nat.{ℕ, suc, ◌+◌, ◌-◌, ◌*◌, ◌<◌, ◌≤◌}
use mathlib.Core.Path.{◌≡◌, sym, ap, ◌∙◌}
use mathlib.Core.List.{List, [], ◌∷◌, ◌++◌}
use native.Mathlib.Omega.{arith}
use lib.ListN.{length, set, take, length-set}
use lib.Seq.{length-take-le, set-append_left}
use borrow.Rule.Slice.PartMut.{put_mid, mid_of, post_of, put_same}
use Rattle.rules.specs.Store.{put}

set_right : (xs ys : List ℕ) (j v : ℕ) → set (xs ++ ys) (length xs + j) v ≡ xs ++ set ys j v
set_right [] ys j v = let e : 0 + j ≡ j = omega arith in rw e
set_right (x ∷ xs) ys j v = let e : suc (length xs) + j ≡ suc (length xs + j) = omega arith in rw e (ap (λ (l : List ℕ). x ∷ l) (set_right xs ys j v))

put-set : (a k : ℕ) (xs ys : List ℕ) (j v : ℕ) → a ≤ length xs → j < length ys → put_mid a k xs (set ys j v) ≡ set (put_mid a k xs ys) (a + j) v
put-set a k xs ys j v h g =
    let e : length (take a xs) ≡ a = length-take-le a xs h in
    let r = set_right (take a xs) (ys ++ post_of a k xs) j v in
    let l = set-append_left ys (post_of a k xs) j v g in
    ap (λ (z : List ℕ). take a xs ++ z) (sym l) ∙ sym r ∙ ap (λ (i : ℕ). set (take a xs ++ (ys ++ post_of a k xs)) (i + j) v) e

-- four words in a part that starts at record n are a record of the whole
pub part-put : (n k : ℕ) (xs : List ℕ) (u t x y : ℕ) → n ≤ u → 4 * n ≤ length xs → 4 * (u - n) + 3 < length (mid_of (4 * n) k xs)
    → put_mid (4 * n) k xs (put (mid_of (4 * n) k xs) (u - n) t x y) ≡ put xs u t x y
unfolding put
part-put n k xs u t x y le h g =
    let j = 4 * (u - n) in
    let M = mid_of (4 * n) k xs in
    let g₁ : 4 * (u - n) + 2 < length (set (set M j t) (j + 1) x) = simp length-set (omega arith) in
    let g₂ : 4 * (u - n) + 3 < length (set (set (set M j t) (j + 1) x) (j + 2) y) = simp length-set (omega arith) in
    let g₀ : 4 * (u - n) + 1 < length (set M j t) = simp length-set (omega arith) in
    let g₃ : 4 * (u - n) < length M = omega arith in
    let e₀ : 4 * n + 4 * (u - n) ≡ 4 * u = omega arith in
    let e₁ : 4 * n + (4 * (u - n) + 1) ≡ 4 * u + 1 = omega arith in
    let e₂ : 4 * n + (4 * (u - n) + 2) ≡ 4 * u + 2 = omega arith in
    let e₃ : 4 * n + (4 * (u - n) + 3) ≡ 4 * u + 3 = omega arith in
    rw (put-set (4 * n) k xs _ _ 0 h g₂, put-set (4 * n) k xs _ _ y h g₁, put-set (4 * n) k xs _ _ x h g₀, put-set (4 * n) k xs _ _ t h g₃, put_same (4 * n) k xs, e₀, e₁, e₂, e₃)
