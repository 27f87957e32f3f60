-- Types in chains: those with the same b, each with the one before it.
use Rattle.std.specs.Prelude.{ℕ, zero, suc, ◌+◌, ◌*◌, ◌<◌, ◌≤◌, ◌≡◌, Bool, true, false, List, length, get_or, eqb}
use Rattle.rules.specs.Lists.{both}
use Rattle.rules.specs.Words.{tag, field_a, field_b, is_type}
use Rattle.rules.specs.Records.{new_type}
use Rattle.table.specs.declared.Record.{Record}

-- record j has the tag and the a of x
unfoldable pub equals : List ℕ → ℕ → Record → Bool
equals ws j x = both (eqb (tag ws j) x.tag) (eqb (field_a ws j) x.a)

-- one more than the number of the latest type below r whose b is b; 0 where there is none
unfoldable pub latest : List ℕ → ℕ → ℕ → ℕ
latest ws b zero = 0
latest ws b (suc r) = elim (both (is_type ws r) (eqb (field_b ws r) b)) [ true ↦ suc r | false ↦ latest ws b r ]

-- the chains of the types below r; all types of a chain have its b
pub record Chains (la be ws : List ℕ) (r : ℕ) : Type 0 where
  pub last : (b : ℕ) → b < length la → get_or la b 0 ≡ latest ws b r
  pub before : (j : ℕ) → j < r → is_type ws j ≡ true → get_or be j 0 ≡ latest ws (field_b ws j) j

-- record r is a type, and the chains below it are known
pub record ChainAsks (ws la be : List ℕ) (r : ℕ) : Type 0 where
  pub inside : 4 * r + 3 < length ws
  pub few : r < 4096
  pub type : is_type ws r ≡ true
  pub key : field_b ws r ≤ r
  pub room_last : r < length la
  pub room_before : r < length be
  pub known : Chains la be ws r

-- the answer for record r, and the chains up to it
pub record ChainSays (ws la be : List ℕ) (r : ℕ) (b : Bool) : Type 0 where
  pub answer : b ≡ new_type ws r
  pub next : b ≡ true → Chains la be ws (r + 1)
