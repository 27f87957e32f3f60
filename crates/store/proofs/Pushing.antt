-- A record appended.
use Prim.Native.Nat.{ℕ, ◌+◌, ◌-◌, ◌*◌, ◌<◌, ◌≤◌}
use mathlib.Core.Path.{◌≡◌, sym, ap, ◌∙◌}
use mathlib.Core.List.{List}
use native.Mathlib.Omega.{arith}
use native.Mathlib.Nat.{le_refl}
use lib.ListN.{length}
use borrow.Author.Tests.{lt-ltb, le-ltb}
use borrow.Rule.Slice.PartMut.{put_mid, mid_of, mid_len}
use Rattle.std.specs.Prelude.{Err}
use Rattle.rules.specs.declared.Failure.TheVariants.{TableFull}
use Rattle.rules.specs.Store.{fail, put, push}
use Rattle.store.specs.SaidLaws.{since_root, since_failed}
use Rattle.store.specs.Said.{wrote, Does}
use Rattle.store.proofs.LentOn.{part-put}

module _ (R n t a b : ℕ) (ws : List ℕ) (u : ℕ) where
  pub push_full : R ≤ u → Does n (push R t a b) ws u ws (Err TableFull)
  unfolding push fail
  push_full h = record { run = λ ss. rw (le-ltb _ _ h, push); grown = since_failed _ _ }

  pub push_room : (ws₁ : List ℕ) → u < R → n ≤ u → put ws u t a b ≡ ws₁ → Does n (push R t a b) ws u ws₁ (wrote u (u + 1))
  unfolding push
  push_room ws₁ h g e = record { run = λ ss. rw (lt-ltb _ _ h, push, e); grown = since_root _ _ (omega arith) }

  -- the record is written through the part that starts at record n
  pub push-part : (ys : List ℕ) → u < R → (4 * R ≤ length ws) × (n ≤ u) → put (mid_of (4 * n) (length ws - 4 * n) ws) (u - n) t a b ≡ ys
      → Does n (push R t a b) ws u (put_mid (4 * n) (length ws - 4 * n) ws ys) (wrote u (u + 1))
  push-part ys h g e =
      let g₀ = g.0 in
      let g₁ = g.1 in
      let l : length (mid_of (4 * n) (length ws - 4 * n) ws) ≡ length ws - 4 * n = mid_len (4 * n) (length ws) ws (le_refl _) in
      push_room _ h g₁ (sym (part-put n (length ws - 4 * n) ws u t a b g₁ (omega arith) (omega arith)) ∙ ap (λ (z : List ℕ). put_mid (4 * n) (length ws - 4 * n) ws z) e)
