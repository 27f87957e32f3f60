-- The kinds of fields as code names them, and where their references go.
use Rattle.std.specs.Prelude.{ℕ, ◌+◌, ◌*◌, ◌<◌, Bool, true, false, not, List, length, eqb}
use Rattle.rules.specs.Words.{NONE}
use Rattle.rules.specs.Records.{nil, any-number, small, type, base, constant, hole, term, types, terms, element, rest}
use Rattle.rules.specs.Records as rule
use Rattle.laws.specs.Sound.{Sound}
use Rattle.records.specs.declared.Field.{Field}
use Rattle.records.specs.declared.Field.TheVariants.{Nil, Any, Small, OfType, OfBase, OfConstant, OfHole, OfTerm, Types, Terms, Element, Rest}

-- record r lies in the table, and all lower records keep the rules
pub record Above (ws : List ℕ) (r : ℕ) : Type 0 where
  pub inside : 4 * r + 3 < length ws
  pub few : r < 4096
  pub lower : Sound ws r

-- the rules' name of each kind
unfoldable pub field : Field → rule.Field
field Nil = nil
field Any = any-number
field Small = small
field OfType = type
field OfBase = base
field OfConstant = constant
field OfHole = hole
field OfTerm = term
field Types = types
field Terms = terms
field Element = element
field Rest = rest

-- such a field refers to a record where it holds x; NONE is no record
unfoldable pub refers_to : Field → ℕ → Bool
refers_to Nil x = false
refers_to Any x = false
refers_to Small x = false
refers_to OfType x = true
refers_to OfBase x = true
refers_to OfConstant x = true
refers_to OfHole x = true
refers_to OfTerm x = true
refers_to Types x = not (eqb x NONE)
refers_to Terms x = not (eqb x NONE)
refers_to Element x = true
refers_to Rest x = not (eqb x NONE)
