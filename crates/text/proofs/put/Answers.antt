-- A byte inside the buffer is stored, one past its end is dropped.
use Rattle.std.specs.Prelude.{ℕ, ◌≡◌, List}
use Rattle.std.proofs.Common.{arith}
use Rattle.text.specs.WrittenLaws.{written_byte, written_past}
use Rattle.text.proofs.put.Goals as goal
use Rattle.text.proofs.put.Goals.{then-at-out, else-at-out}

-- the end may be said in other words
end_at : (x : List ℕ × ℕ) (o : List ℕ) (m n : ℕ) → x ≡ (o, m) → n ≡ m → x ≡ (o, n)
end_at x o m n e h = rw h e

pub returns : goal.returns
returns c =
    elim c.if-at-out.branch [
      | then-at-out w ↦ rw w.out-is (end_at _ _ _ _ (written_byte _ _ _) (omega arith))
      | else-at-out w ↦ rw w.out-is (end_at _ _ _ _ (written_past _ _ _ (omega arith)) (omega arith))
    ]
