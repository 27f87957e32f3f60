-- A list that can be read: its first cell, its rest.
use Rattle.std.specs.Prelude.{ℕ, ◌+◌, ◌*◌, ◌<◌, ◌≡◌, List, length}
use Rattle.std.proofs.Common.{arith}
use Rattle.table.specs.declared.Record.{Record}
use Rattle.table.specs.Reading.{IsRecord}
use Rattle.rules.specs.Words.{NONE}
use Rattle.laws.specs.Lists.{Listed, listed_rest}

-- what reading a cell and its rest asks
module _ (ws : List ℕ) (l : ℕ) where
  pub to_cell : (l ≡ NONE → ⊥) → Listed ws l → 4 * l + 3 < length ws
  to_cell n h = let q = (h.here n).0 in let i = h.inside in omega arith

  pub to_rest : (w : Record) → (l ≡ NONE → ⊥) → IsRecord ws l w → Listed ws l → Listed ws w.b
  to_rest w n e h = rw e.b_is (listed_rest ws l n h)
