-- Two replies, with all the words left behind, that the promise of solving or of showing allows are equal.
use Rattle.std.specs.Prelude.{ℕ, ◌≡◌, List}
use Rattle.std.proofs.Common.{sym, ◌∙◌}
use Rattle.rules.specs.Solve.{Behind, solve}
use Rattle.rules.specs.Show.{Shown, show}

pub solve_single : (ws ss qs : List ℕ) (n : ℕ) (b c : Behind) → solve ws ss qs n ≡ b → solve ws ss qs n ≡ c → b ≡ c
solve_single ws ss qs n b c p q = sym p ∙ q

pub show_single : (ws ss qs os : List ℕ) (n h : ℕ) (x y : Shown) → show ws ss qs os n h ≡ x → show ws ss qs os n h ≡ y → x ≡ y
show_single ws ss qs os n h x y p q = sym p ∙ q
