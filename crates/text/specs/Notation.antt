-- The parts of the printed notation, as far as a function of its own writes each. Definitions only.
use Rattle.std.specs.Prelude.{ℕ, zero, suc, ◌-◌, true, false, List, [], ◌∷◌, ◌++◌, map, eqb}
use Rattle.rules.specs.declared.Reply.{Reply}
use Rattle.rules.specs.Lists.{enough}
use Rattle.rules.specs.Words.{NONE, CA, VA, elements}
use Rattle.rules.specs.Text.{Bytes, decimal, commas, printed}

-- `c` (99), `v` (118) or `h` (104), by tag
unfoldable pub letter : ℕ → ℕ
letter k = elim (eqb k CA) [ true ↦ 99 | false ↦ elim (eqb k VA) [ true ↦ 118 | false ↦ 104 ] ]

-- a letter with its number
unfoldable pub head_text : ℕ → ℕ → Bytes
head_text k a = letter k ∷ decimal a

-- texts parted by commas, with a byte in front of the first
unfoldable pub led : ℕ → List Bytes → Bytes
led m [] = []
led m (t ∷ ts) = m ∷ (t ++ commas ts)

-- the texts of a list's elements, parted by commas, with a byte in front of the first
unfoldable pub list_text : ℕ → List ℕ → ℕ → Bytes
list_text m ws l = led m (map (λ x. printed enough ws x) (elements ws l))

-- the closing bracket (41), of a list that is not empty
unfoldable pub closing : ℕ → Bytes
closing l = elim (eqb l NONE) [ true ↦ [] | false ↦ 41 ∷ [] ]

-- a number in decimal and a byte after it
unfoldable pub number_text : ℕ → ℕ → Bytes
number_text x b = decimal x ++ (b ∷ [])

-- `h` (104), its number, ` = ` (32, 61, 32)
unfoldable pub start_text : ℕ → Bytes
start_text h = 104 ∷ (decimal h ++ (32 ∷ 61 ∷ 32 ∷ []))

-- what stands behind ` = ` after such a reply and with such output words
unfoldable pub answer_text : Reply → List ℕ → Bytes
answer_text said os = elim said.answer [ zero ↦ printed enough os (said.used - 1) | suc k ↦ 63 ∷ [] ]

-- a hole's line after such a reply and with such output words
unfoldable pub line_text : ℕ → Reply → List ℕ → Bytes
line_text h said os = start_text h ++ (answer_text said os ++ (10 ∷ []))
