-- A table whose terms can be printed: their bodies and arguments are lower terms.
use Rattle.std.specs.Prelude.{ℕ, ◌*◌, ◌-◌, ◌<◌, ◌≤◌, ◌≡◌, true, List, length}
use Rattle.rules.specs.declared.Reply.{Reply}
use Rattle.rules.specs.Words.{NONE, tag, field_a, field_b, LA, CE, is_term}
use Rattle.laws.specs.Lists.{Cell}

-- l is NONE, or a cell below n whose element is a term
abbrev pub Below : List ℕ → ℕ → ℕ → Type 0
Below ws n l = (l ≡ NONE → ⊥) → (l < n) × (tag ws l ≡ CE) × (is_term ws (field_a ws l) ≡ true)

-- the first records: a lambda's body is a lower term, the other terms' arguments are lists of lower terms
pub record Printable (ws : List ℕ) (top : ℕ) : Type 0 where
  pub inside : 4 * top ≤ length ws
  pub few : top ≤ 4096
  pub body : (r : ℕ) → r < top → tag ws r ≡ LA → (field_a ws r < r) × (is_term ws (field_a ws r) ≡ true)
  pub list : (r : ℕ) → r < top → is_term ws r ≡ true → (tag ws r ≡ LA → ⊥) → Below ws r (field_b ws r)
  pub cell : (c : ℕ) → c < top → tag ws c ≡ CE → Cell ws c
  pub rest : (c : ℕ) → c < top → tag ws c ≡ CE → is_term ws (field_a ws c) ≡ true → Below ws c (field_b ws c)

-- record r is a term that can be printed
pub record Term (ws : List ℕ) (r : ℕ) : Type 0 where
  pub top : ℕ
  pub good : Printable ws top
  pub here : r < top
  pub term : is_term ws r ≡ true

-- l is a list of terms that can be printed
pub record Terms (ws : List ℕ) (l : ℕ) : Type 0 where
  pub top : ℕ
  pub good : Printable ws top
  pub here : Below ws top l

-- for answer 0, the last output record is a term that can be printed
pub record Answered (said : Reply) (os : List ℕ) : Type 0 where
  pub some : said.answer ≡ 0 → 0 < said.used
  pub term : said.answer ≡ 0 → Term os (said.used - 1)
