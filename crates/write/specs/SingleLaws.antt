-- Two replies, with the file left behind, that the promise of writing allows are equal.
use Rattle.std.specs.Prelude.{ℕ, ◌≡◌, List}
use Rattle.std.proofs.Common.{sym, ◌∙◌}
use Rattle.rules.specs.FileWrite.{Wrote, write}

pub write_single : (ws : List ℕ) (n : ℕ) (bs : List ℕ) (x y : Wrote) → write ws n bs ≡ x → write ws n bs ≡ y → x ≡ y
write_single ws n bs x y p q = sym p ∙ q
