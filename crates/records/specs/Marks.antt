-- What the marks of records mean: of what kind a record is, how long its list is, and whether it is referred to.
use Rattle.std.specs.Prelude.{ℕ, zero, suc, ◌+◌, ◌<◌, ◌≤◌, ◌≡◌, Bool, true, false, not, List, [], ◌∷◌, ◌++◌, length, get_or, set, eqb, ltb, leb}
use Rattle.rules.specs.Lists.{both, either, among}
use Rattle.rules.specs.Words.{NONE, CE, HA, tag, field_a, has, is_type, cells}
use Rattle.rules.specs.Records.{shaped, listed, uses, first_use}
use Rattle.records.specs.declared.Field.{Field}
use Rattle.records.specs.declared.Field.TheVariants.{Nil, Any, Small, OfType, OfBase, OfConstant, OfHole, OfTerm, Types, Terms, Element, Rest}
use Rattle.records.specs.Kinds.{Above, refers_to}
use Rattle.records.specs.Ranges.{TYPE_LOW, TYPE_HIGH, BASE_TYPE, CONSTANT, HOLE, TERM_LOW, TERM_HIGH, MOST_CELLS, LIST_OF_TYPES, LIST_OF_TERMS, TYPES_LOW, TYPES_HIGH, TERMS_LOW, TERMS_HIGH, REFERRED}

-- The marks of a table

-- records of tag CE to HA are referred to at most once
unfoldable pub counts : List ℕ → ℕ → Bool
counts ws x = both (leb CE (tag ws x)) (leb (tag ws x) HA)

-- what the cells of a list of types, or else of terms, are counted from
unfoldable pub counted_from : Bool → ℕ
counted_from types = elim types [ true ↦ LIST_OF_TYPES | false ↦ LIST_OF_TERMS ]

-- how many cells the list that begins at x has; a list that is too long counts one too many
abbrev pub cell_count : List ℕ → ℕ → ℕ
cell_count ws x = length (cells (suc MOST_CELLS) ws x)

-- a record's mark while nothing refers to it: its tag, and for a cell the number of cells of the list that begins there
unfoldable pub kind : List ℕ → ℕ → ℕ
kind ws x = elim (has ws x CE) [ true ↦ counted_from (is_type ws (field_a ws x)) + cell_count ws x | false ↦ tag ws x ]

-- a record's mark where those of u are referred to: REFERRED more if it is one of them
unfoldable pub mark : List ℕ → List ℕ → ℕ → ℕ
mark ws u x = elim (both (counts ws x) (among u x)) [ true ↦ kind ws x + REFERRED | false ↦ kind ws x ]

-- the records below r are marked, where those of u are referred to, which are below r too
pub record Marked (ws ms u : List ℕ) (r : ℕ) : Type 0 where
  pub room : r ≤ length ms
  pub marked : (x : ℕ) → x < r → get_or ms x 0 ≡ mark ws u x
  pub low : (x : ℕ) → r ≤ x → among u x ≡ false

-- What is referred to

-- the records of tag CE to HA that the records below r refer to
unfoldable pub used : List ℕ → ℕ → List ℕ
used ws zero = []
used ws (suc r) = uses ws r ++ used ws r

-- none of xs is among u, and none comes twice
unfoldable pub fresh : List ℕ → List ℕ → Bool
fresh u [] = true
fresh u (x ∷ xs) = both (not (among u x)) (fresh (x ∷ u) xs)

-- what one field refers to, if that counts
unfoldable pub one : Bool → ℕ → List ℕ
one counted x = elim counted [ true ↦ x ∷ [] | false ↦ [] ]

abbrev pub reference-of : List ℕ → Field → ℕ → List ℕ
reference-of ws f x = one (both (refers_to f x) (counts ws x)) x

-- A field by the marks

-- from low to high
unfoldable pub within : ℕ → ℕ → ℕ → Bool
within low high k = both (leb low k) (leb k high)

-- the mark of record x if it is below r; otherwise 0, which is no mark
unfoldable pub lower_mark : List ℕ → ℕ → ℕ → ℕ
lower_mark ms r x = elim (ltb x r) [ true ↦ get_or ms x 0 | false ↦ 0 ]

abbrev pub lies : List ℕ → ℕ → ℕ → ℕ → ℕ → Bool
lies ms r low high x = within low high (lower_mark ms r x)

-- a field of record r may hold x, as the marks say
unfoldable pub holds : List ℕ → ℕ → Field → ℕ → Bool
holds ms r Nil x = eqb x 0
holds ms r Any x = true
holds ms r Small x = ltb x 4096
holds ms r OfType x = lies ms r TYPE_LOW TYPE_HIGH x
holds ms r OfBase x = lies ms r BASE_TYPE BASE_TYPE x
holds ms r OfConstant x = lies ms r CONSTANT CONSTANT x
holds ms r OfHole x = lies ms r HOLE HOLE x
holds ms r OfTerm x = lies ms r TERM_LOW TERM_HIGH x
holds ms r Types x = either (eqb x NONE) (lies ms r TYPES_LOW TYPES_HIGH x)
holds ms r Terms x = either (eqb x NONE) (lies ms r TERMS_LOW TERMS_HIGH x)
holds ms r Element x = either (lies ms r TYPE_LOW TYPE_HIGH x) (lies ms r TERM_LOW TERM_HIGH x)
holds ms r Rest x = either (eqb x NONE) (lies ms r TYPES_LOW TERMS_HIGH x)

-- and what it refers to counts
unfoldable pub once : List ℕ → ℕ → Field → ℕ → Bool
once ms r Nil x = false
once ms r Any x = false
once ms r Small x = false
once ms r OfType x = false
once ms r OfBase x = false
once ms r OfConstant x = false
once ms r OfHole x = false
once ms r OfTerm x = true
once ms r Types x = not (eqb x NONE)
once ms r Terms x = not (eqb x NONE)
once ms r Element x = not (lies ms r TYPE_LOW TYPE_HIGH x)
once ms r Rest x = not (eqb x NONE)

-- the marks where record x is referred to, if it counts
unfoldable pub referred : Bool → List ℕ → ℕ → List ℕ
referred counted ms x = elim counted [ true ↦ set ms x (get_or ms x 0 + REFERRED) | false ↦ ms ]

-- each record below r has a mark, and a mark from low to high is that of a record that nothing refers to
pub record ReferredAsks (ms : List ℕ) (r low high : ℕ) : Type 0 where
  pub room : r ≤ length ms
  pub some : 0 < low
  pub free : high < REFERRED

-- the answer for a reference to record x, which is marked
pub record ReferredSays (ms ms₁ : List ℕ) (r low high x : ℕ) (b : Bool) : Type 0 where
  pub answer : b ≡ lies ms r low high x
  pub next : b ≡ true → ms₁ ≡ referred true ms x

-- the same for a list; NONE is no record
pub record FirstCellSays (ms ms₁ : List ℕ) (r low high x : ℕ) (b : Bool) : Type 0 where
  pub answer : b ≡ either (eqb x NONE) (lies ms r low high x)
  pub next : b ≡ true → ms₁ ≡ referred (not (eqb x NONE)) ms x

-- the answer for a field that holds x, and the marks with it
pub record FieldSays (ms ms₁ : List ℕ) (r : ℕ) (f : Field) (x : ℕ) (b : Bool) : Type 0 where
  pub answer : b ≡ holds ms r f x
  pub next : b ≡ true → ms₁ ≡ referred (once ms r f x) ms x

-- Lists

-- record r has a mark, and a list counted from s leaves room for its cells
pub record LengthAsks (ms : List ℕ) (r s : ℕ) : Type 0 where
  pub room : r < length ms
  pub low : s ≤ LIST_OF_TERMS

-- the mark of a cell whose rest is x, marked m: one more than the rest's, or the first from s on
unfoldable pub length_mark : ℕ → ℕ → ℕ → ℕ
length_mark s x m = elim (eqb x NONE) [ true ↦ s + 1 | false ↦ m + 1 ]

-- the answer for a list counted from s: it is empty but for the cell, or the rest is counted from s too and has less than 16 cells
pub record LengthSays (ms ms₁ : List ℕ) (r s x m : ℕ) (b : Bool) : Type 0 where
  pub answer : b ≡ either (eqb x NONE) (both (ltb s m) (ltb m (s + MOST_CELLS)))
  pub next : b ≡ true → ms₁ ≡ set ms r (length_mark s x m)

-- record r is a cell, and what the lower records refer to is marked
pub record CellAsks (ws ms : List ℕ) (r : ℕ) : Type 0 where
  pub above : Above ws r
  pub cell : tag ws r ≡ CE
  pub room : r < length ms
  pub known : Marked ws ms (used ws r) r

-- the answer for record r: its fields, and its list; and the marks up to it
pub record CellSays (ws ms : List ℕ) (r : ℕ) (b : Bool) : Type 0 where
  pub answer : b ≡ both (both (shaped ws r) (first_use ws r)) (listed ws r)
  pub next : b ≡ true → Marked ws ms (used ws (r + 1)) (r + 1)
