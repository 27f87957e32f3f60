-- Two replies, with the table left behind, that the promise of reading allows are equal.
use Rattle.std.specs.Prelude.{ℕ, ◌≡◌, List}
use Rattle.std.proofs.Common.{sym, ◌∙◌}
use Rattle.rules.specs.File.{Read, read}

pub read_single : (bs ws : List ℕ) (x y : Read) → read bs ws ≡ x → read bs ws ≡ y → x ≡ y
read_single bs ws x y p q = sym p ∙ q
