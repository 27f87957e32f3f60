-- What is known of a term is known of its parts.
use Rattle.std.specs.Prelude.{ℕ, suc, ◌+◌, ◌*◌, ◌<◌, ◌≤◌, ◌≡◌, List, ◌∷◌, length}
use Rattle.std.proofs.Common.{sym, ◌∙◌, arith}
use Rattle.std.proofs.Math.Decide.{ℕ_discrete}
use Rattle.table.specs.declared.Record.{Record}
use Rattle.table.specs.Reading.{IsRecord}
use Rattle.rules.specs.Words.{NONE, field_b, elements, LA, CA, VA, HA}
use Rattle.laws.specs.Lists.{size}
use Rattle.invariants.specs.Floor.{Sub, Args}
use Rattle.invariants.specs.Grow.{sub_less, args_less}
use Rattle.promise.specs.TermKnown.{ListKnown}
use Rattle.promise.proofs.TermKnown.{known_body, known_constant, known_variable, known-first, known_second}
use Rattle.store.specs.Said.{store}
use Rattle.rewrite.specs.PartsLaws.{term_read, body_at, args_at, size_args, few_at, cell_read, lower_at, list_is, both_at}
use Rattle.rewrite.specs.Terms.{TermAt, ListAt}

-- list l is a cell, whose record is w: an element and a rest, both lower
pub record IsCell (ws : List ℕ) (l : ℕ) (w : Record) : Type 0 where
  pub list : elements ws l ≡ w.a ∷ elements ws w.b
  pub lower : (suc w.a < size l) × (size w.b < size l)

module _ {R n : ℕ} {home : ℕ → ℕ} {ws ss : List ℕ} {used F c d : ℕ} where
  module _ {r : ℕ} (h : TermAt R n home ws ss used F c d r) where
    pub at_read : 4 * r + 3 < length ws
    at_read = term_read R n home ws ss used F r h.fine h.is

    pub at_low : r < 4096
    at_low = let b = h.is.below in let w = h.fine.within in let f = h.fine.few in omega arith

    module _ (w : Record) (e : IsRecord ws r w) where
      -- the body of a lambda
      module _ (t : w.tag ≡ LA) where
        body : Sub ws home F r w.a
        body = body_at R n home ws ss used F r h.fine h.is w e t

        pub at_less : w.a < r
        at_less = body.below

        pub at_body : TermAt R n home ws ss used F c (d + 1) w.a
        at_body =
            let b = body.below in
            let i = h.is.below in
            record { fine = h.fine; is = sub_less ws home F F r used w.a body (omega arith) (omega arith); known = rw e.a_is (known_body h.known (sym e.tag_is ∙ t)) }

      -- a rigid head
      pub at_variable : w.tag ≡ VA → w.a < d + c
      at_variable t = rw e.a_is (known_variable h.known (sym e.tag_is ∙ t)).0

      module _ (a : w.tag ≡ LA → ⊥) (b : w.tag ≡ HA → ⊥) where
        pub at_size : size w.b ≤ r
        at_size = size_args R n home ws ss used F r h.fine h.is w e a

        knows : ListKnown R (store ws ss used) c d w.b
        knows = rw e.b_is (go (ℕ_discrete w.tag CA))
          where
            go : Dec (w.tag ≡ CA) → ListKnown R (store ws ss used) c d (field_b ws r)
            go (yes t) = known_constant h.known (sym e.tag_is ∙ t)
            go (no t) = let lo = h.is.term.low in let hi = h.is.term.high in let z = e.tag_is in (known_variable h.known (omega arith)).1

        pub at_args : ListAt R n home ws ss used F c d w.b
        at_args =
            let i = h.is.below in
            record {
              fine = h.fine;
              is = args_less ws home F F r used w.b (args_at R n home ws ss used F r h.fine h.is w e a) (omega arith) (omega arith);
              few = few_at R n home ws ss used F r h.fine h.is w e a;
              known = knows;
            }

  module _ {l : ℕ} (h : ListAt R n home ws ss used F c d l) (ne : l ≡ NONE → ⊥) where
    pub list_read : 4 * l + 3 < length ws
    list_read = cell_read R n home ws ss used F l h.fine h.is ne

    module _ (w : Record) (e : IsRecord ws l w) where
      pub list_cell : IsCell ws l w
      list_cell = record { list = list_is R n home ws ss used F l h.fine h.is ne w e; lower = lower_at R n home ws ss used F l h.fine h.is ne w e }

      pub list_rest : Args ws home F used w.b
      list_rest = (both_at R n home ws ss used F l h.fine h.is ne w e).1

      pub list_first : TermAt R n home ws ss used F c d w.a
      list_first = record { fine = h.fine; is = (both_at R n home ws ss used F l h.fine h.is ne w e).0; known = rw e.a_is (known-first ne h.known) }

      rest_few : length (elements ws w.b) ≤ 16
      rest_few = let k : length (w.a ∷ elements ws w.b) ≤ 16 = rw list_cell.list at h.few in omega arith

      pub list_second : ListAt R n home ws ss used F c d w.b
      list_second = record { fine = h.fine; is = list_rest; few = rest_few; known = rw e.b_is (known_second ne h.known) }
