-- A table is a list of words. A record is four of them, tag, a, b, c, and records are numbered from 0.
use Rattle.std.specs.Prelude.{ℕ, zero, suc, ◌+◌, ◌*◌, Bool, true, false, List, [], ◌∷◌, map, get_or, eqb, leb}
use Rattle.rules.specs.Lists.{both, enough}

-- no record
abbrev pub NONE : ℕ
NONE = 4294967295

-- the four words of record r
abbrev pub tag : List ℕ → ℕ → ℕ
tag ws r = get_or ws (4 * r) 0

abbrev pub field_a : List ℕ → ℕ → ℕ
field_a ws r = get_or ws (4 * r + 1) 0

abbrev pub field_b : List ℕ → ℕ → ℕ
field_b ws r = get_or ws (4 * r + 2) 0

abbrev pub field_c : List ℕ → ℕ → ℕ
field_c ws r = get_or ws (4 * r + 3) 0

-- the ten tags
abbrev pub BT : ℕ
BT = 1

abbrev pub AR : ℕ
AR = 2

abbrev pub KO : ℕ
KO = 3

abbrev pub HO : ℕ
HO = 4

abbrev pub CE : ℕ
CE = 5

abbrev pub LA : ℕ
LA = 6

abbrev pub CA : ℕ
CA = 7

abbrev pub VA : ℕ
VA = 8

abbrev pub HA : ℕ
HA = 9

abbrev pub EQ : ℕ
EQ = 10

-- record r has tag k
unfoldable pub has : List ℕ → ℕ → ℕ → Bool
has ws r k = eqb (tag ws r) k

-- a type is tag 1 or 2
unfoldable pub is_type : List ℕ → ℕ → Bool
is_type ws r = both (leb 1 (tag ws r)) (leb (tag ws r) 2)

-- a term is tag 6 to 9
unfoldable pub is_term : List ℕ → ℕ → Bool
is_term ws r = both (leb 6 (tag ws r)) (leb (tag ws r) 9)

-- the four forms of a term
pub data Form : Type 0 where
  lambda constant variable hole : Form

-- the form of a term, whose tag is 6, 7, 8 or 9
unfoldable pub form : List ℕ → ℕ → Form
form ws r = elim (has ws r LA) [ true ↦ lambda | false ↦ elim (has ws r CA) [ true ↦ constant | false ↦ elim (has ws r VA) [ true ↦ variable | false ↦ hole ] ] ]

-- the elements of a list; fuel bounds the cells, each of which has a lower number than the one before
unfoldable pub cells : ℕ → List ℕ → ℕ → List ℕ
cells zero ws l = []
cells (suc k) ws l = elim (eqb l NONE) [ true ↦ [] | false ↦ field_a ws l ∷ cells k ws (field_b ws l) ]

-- the elements of a list
unfoldable pub elements : List ℕ → ℕ → List ℕ
elements ws l = cells enough ws l

-- the arguments of an applied constant, variable or hole
unfoldable pub arguments : List ℕ → ℕ → List ℕ
arguments ws r = elements ws (field_b ws r)

-- a bare variable: tag 8, no arguments; only these count as variables among a hole's arguments
unfoldable pub bare : List ℕ → ℕ → Bool
bare ws r = both (has ws r VA) (eqb (field_b ws r) NONE)

-- the variables that a hole occurrence's arguments name
unfoldable pub variables : List ℕ → ℕ → List ℕ
variables ws r = map (λ x. field_a ws x) (arguments ws r)
