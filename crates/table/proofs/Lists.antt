-- A list cell by cell, as its iterator goes.
use Rattle.std.specs.Prelude.{ℕ, ◌+◌, ◌*◌, ◌<◌, ◌≡◌, List, ◌∷◌, length, get_or}
use Rattle.std.proofs.Common.{arith, sym, ap, ◌∙◌}
use Rattle.std.proofs.Math.Decide.{ℕ_discrete}
use Rattle.rules.specs.Words.{NONE, field_a, elements}
use Rattle.laws.specs.Lists.{Listed, listed_rest, elements_none, elements_cell}
use Rattle.table.specs.declared.Record.{Record}
use Rattle.table.specs.Reading.{IsRecord, Follows}

module _ (ws : List ℕ) (l : ℕ) (n : l ≡ NONE → ⊥) (p : Listed ws l) where
  pub cell_inside : 4 * l + 3 < length ws
  cell_inside = let q = (p.here n).0 in let i = p.inside in omega arith

  module _ (c : Record) (e : IsRecord ws l c) where
    pub rest_listed : Listed ws c.b
    rest_listed = rw e.b_is (listed_rest ws l n p)

    pub first_read : elements ws l ≡ c.a ∷ elements ws c.b
    first_read = rw (e.a_is, e.b_is) (elements_cell ws l n p)

    pub follows : Follows ws l c.a c.b
    follows = record { some = n; element = e.a_is; rest = e.b_is }

    pub fewer_left : length (elements ws c.b) < length (elements ws l)
    fewer_left = rw first_read (omega arith)

-- what a list gives is a record of the table
pub element_inside : (ws vs : List ℕ) (l x : ℕ) (xs : List ℕ) → vs ≡ ws → Listed vs l → elements vs l ≡ x ∷ xs → 4 * x + 3 < length ws
element_inside ws vs l x xs k p e = go (ℕ_discrete l NONE)
  where
    go : Dec (l ≡ NONE) → 4 * x + 3 < length ws
    go (yes n) = let long = rw (elements_none vs l n) at (ap length e) in absurd (omega arith)
    go (no n) =
        let q = p.here n in
        let lt = q.0 in
        let a = (p.good l lt q.1).elem in
        let i = rw k at p.inside in
        let h : field_a vs l ≡ x = ap (λ ys. get_or ys 0 0) (sym (elements_cell vs l n p) ∙ e) in
        omega arith
