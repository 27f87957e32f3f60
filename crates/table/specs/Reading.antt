-- A record as code reads it: its four words.
use Rattle.std.specs.Prelude.{ℕ, ◌≡◌, List}
use Rattle.table.specs.declared.Record.{Record}
use Rattle.rules.specs.Words.{NONE, tag, field_a, field_b, field_c}

-- x is record r of the table
pub record IsRecord (ws : List ℕ) (r : ℕ) (x : Record) : Type 0 where
  pub tag_is : x.tag ≡ tag ws r
  pub a_is : x.a ≡ field_a ws r
  pub b_is : x.b ≡ field_b ws r
  pub c_is : x.c ≡ field_c ws r

-- from cell l, whose element is x, the list goes on at m
pub record Follows (ws : List ℕ) (l x m : ℕ) : Type 0 where
  pub some : l ≡ NONE → ⊥
  pub element : x ≡ field_a ws l
  pub rest : m ≡ field_b ws l
