-- What a part whose words were set makes of the whole.
use Rattle.std.specs.Prelude.{ℕ, zero, suc, ◌+◌, ◌-◌, ◌<◌, ◌≤◌, ◌≡◌, List, ◌++◌, length, get_or, replicate, take, drop}
use Rattle.std.proofs.Common.{sym, ap, ◌∙◌, append_assoc, arith, le_refl, drop-drop, drop-cons}
use Rattle.std.proofs.lemmas.List.{length-replicate, replicate-append-replicate}
use borrow.Rule.Slice.PartMut.{put_mid, take_put, drop_put}
use Rattle.rules.specs.Solve.{filled}

-- what was put in the part does not matter when it is filled
pub filled_put : (i k x : ℕ) (ws part : List ℕ) → i + k ≤ length ws → length part ≡ k → filled i k x (put_mid i k ws part) ≡ filled i k x ws
unfolding filled
filled_put i k x ws part h l =
    let m : (i + k) - i ≡ k = omega arith in
    let d : drop (i + k) (put_mid i ((i + k) - i) ws part) ≡ drop (i + k) ws = drop_put i (i + k) ws part (omega arith) h (l ∙ sym m) in
    let d₁ : drop (i + k) (put_mid i k ws part) ≡ drop (i + k) ws = rw m at d in
    rw (take_put i k ws part (omega arith), d₁)

filled_is_put : (i k x : ℕ) (ws : List ℕ) → filled i k x ws ≡ put_mid i k ws (replicate k x)
unfolding filled
filled_is_put i k x ws = rw drop-drop

pub filled_again : (i k x : ℕ) (ws : List ℕ) → i + k ≤ length ws → filled i k x (filled i k x ws) ≡ filled i k x ws
filled_again i k x ws h = ap (λ (l : List ℕ). filled i k x l) (filled_is_put i k x ws) ∙ filled_put i k x ws (replicate k x) h (length-replicate k x)

-- words that are x already may be filled too
filled-one : (i k x d : ℕ) (ws : List ℕ) → i + k < length ws → get_or ws (i + k) d ≡ x → filled i k x ws ≡ filled i (k + 1) x ws
unfolding filled
filled-one i k x d ws h e =
    let z : suc (i + k) ≡ i + (k + 1) = omega arith in
    let a : drop (i + k) ws ≡ replicate 1 x ++ drop (i + (k + 1)) ws = rw (e, z) at (drop-cons ws (i + k) d h) in
    rw a (ap (λ (r : List ℕ). take i ws ++ r) (sym (append_assoc (replicate k x) (replicate 1 x) _) ∙ ap (λ (r : List ℕ). r ++ drop (i + (k + 1)) ws) (replicate-append-replicate k 1 x)))

pub filled_wider : (m i k x d : ℕ) (ws : List ℕ) → i + k + m ≤ length ws → ((j : ℕ) → i + k ≤ j → j < i + k + m → get_or ws j d ≡ x) → filled i k x ws ≡ filled i (k + m) x ws
filled_wider zero i k x d ws h e = let z : k + zero ≡ k = omega arith in rw z
filled_wider (suc m) i k x d ws h e =
    let z : k + 1 + m ≡ k + suc m = omega arith in
    filled-one i k x d ws (omega arith) (e (i + k) (le_refl _) (omega arith)) ∙ (rw z at (filled_wider m i (k + 1) x d ws (omega arith) (λ j lo hi. e j (omega arith) (omega arith))))
