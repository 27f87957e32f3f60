-- The marks by name, as code names them: from which to which the marks of each kind are, and what is added to the mark of a record that is referred to.
use Rattle.std.specs.Prelude.{ℕ, ◌+◌}
use Rattle.rules.specs.Words.{BT, AR, KO, HO, LA, HA}

-- a type
abbrev pub TYPE_LOW : ℕ
TYPE_LOW = BT

abbrev pub TYPE_HIGH : ℕ
TYPE_HIGH = AR

abbrev pub BASE_TYPE : ℕ
BASE_TYPE = BT

abbrev pub CONSTANT : ℕ
CONSTANT = KO

abbrev pub HOLE : ℕ
HOLE = HO

-- a term
abbrev pub TERM_LOW : ℕ
TERM_LOW = LA

abbrev pub TERM_HIGH : ℕ
TERM_HIGH = HA

-- a list has at most so many cells
abbrev pub MOST_CELLS : ℕ
MOST_CELLS = 16

-- what the cells of a list of types are counted from
abbrev pub LIST_OF_TYPES : ℕ
LIST_OF_TYPES = 16

-- what the cells of a list of terms are counted from
abbrev pub LIST_OF_TERMS : ℕ
LIST_OF_TERMS = 32

-- a list of types
abbrev pub TYPES_LOW : ℕ
TYPES_LOW = LIST_OF_TYPES + 1

abbrev pub TYPES_HIGH : ℕ
TYPES_HIGH = LIST_OF_TYPES + MOST_CELLS

-- a list of terms
abbrev pub TERMS_LOW : ℕ
TERMS_LOW = LIST_OF_TERMS + 1

abbrev pub TERMS_HIGH : ℕ
TERMS_HIGH = LIST_OF_TERMS + MOST_CELLS

-- more, once it is referred to
abbrev pub REFERRED : ℕ
REFERRED = 128
