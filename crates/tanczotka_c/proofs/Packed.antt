-- The words left behind and the packed reply are the definition's.
use Prim.Native.Nat.{ℕ, ◌+◌, ◌*◌}
use mathlib.Core.Path.{◌≡◌, refl}
use mathlib.Core.List.{List}
use Rattle.rules.specs.declared.Reply.{Reply}
use Rattle.rules.specs.Solve.{solve}
use Rattle.rules.specs.Show.{show}
use Rattle.rules.specs.File.{read}
use Rattle.rules.specs.FileWrite.{write}
use Rattle.tanczotka_c.specs.Packed.{packed, left_by_solve, left_by_show, left_by_read, left_by_write}

pub packs : (r : Reply) → packed r ≡ r.answer + 65536 * r.place + 4294967296 * r.used
unfolding packed
packs r = refl

module _ (ws ss qs : List ℕ) (n : ℕ) where
  pub solve_packs : (ws₁ ss₁ qs₁ : List ℕ) (r : Reply) (k : ℕ) → solve ws ss qs n ≡ record { table = ws₁; solutions = ss₁; queue = qs₁; said = r } → packed r ≡ k → left_by_solve (solve ws ss qs n) ≡ (ws₁, ss₁, qs₁, k)
  unfolding left_by_solve
  solve_packs ws₁ ss₁ qs₁ r k e p = rw (e, p)

  module _ (os : List ℕ) (h : ℕ) where
    pub show_packs : (ws₁ ss₁ qs₁ os₁ : List ℕ) (r : Reply) (k : ℕ) → show ws ss qs os n h ≡ record { behind = record { table = ws₁; solutions = ss₁; queue = qs₁; said = r }; output = os₁ } → packed r ≡ k
        → left_by_show (show ws ss qs os n h) ≡ (ws₁, ss₁, qs₁, os₁, k)
    unfolding left_by_show
    show_packs ws₁ ss₁ qs₁ os₁ r k e p = rw (e, p)

module _ (bs ws : List ℕ) where
  pub read_packs : (ws₁ : List ℕ) (r : Reply) (k : ℕ) → read bs ws ≡ record { table = ws₁; said = r } → packed r ≡ k → left_by_read (read bs ws) ≡ (ws₁, k)
  unfolding left_by_read
  read_packs ws₁ r k e p = rw (e, p)

module _ (ws : List ℕ) (n : ℕ) (bs : List ℕ) where
  pub write_packs : (bs₁ : List ℕ) (r : Reply) (k : ℕ) → write ws n bs ≡ record { file = bs₁; said = r } → packed r ≡ k → left_by_write (write ws n bs) ≡ (bs₁, k)
  unfolding left_by_write
  write_packs bs₁ r k e p = rw (e, p)
