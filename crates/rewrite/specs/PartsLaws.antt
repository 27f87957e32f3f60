-- A term, or a list of terms, of a fine store: what its record, as read, says of its parts.
use Rattle.std.specs.Prelude.{ℕ, suc, ◌+◌, ◌*◌, ◌<◌, ◌≤◌, ◌≡◌, List, ◌∷◌, length}
use Rattle.std.proofs.Common.{sym, ◌∙◌, arith}
use Rattle.table.specs.declared.Record.{Record}
use Rattle.table.specs.Reading.{IsRecord}
use Rattle.rules.specs.Words.{NONE, tag, field_b, elements, arguments, variables, LA, HA}
use Rattle.laws.specs.Lists.{Cell, Listed, size, size_real, size_below, elements_cell}
use Rattle.invariants.specs.Floor.{Sub, All, Args, Fine, limit}
use Rattle.invariants.specs.Grow.{all_map, listed_of, args_less}
use Rattle.invariants.specs.Copy.{occurrence_low}
use Rattle.places.specs.Lists.{Counts, vars_of}
use Rattle.store.specs.Said.{store}

module _ (R n : ℕ) (home : ℕ → ℕ) (ws ss : List ℕ) (used b r : ℕ) (f : Fine R n home (store ws ss used)) (is : Sub ws home b used r) where
  pub term_read : 4 * r + 3 < length ws
  term_read = let a = is.below in let c = f.within in let e = f.room in omega arith

  -- the arguments of an applied head can be read
  pub counts_of : 7 ≤ tag ws r → Counts ws (field_b ws r)
  counts_of lo =
      let a = (f.good r is.below).app lo is.term.high in
      let lt = is.below in
      record {
        list = listed_of R n home (store ws ss used) (field_b ws r) f (λ q. let c = (a.here q).0 in (omega arith, (a.here q).1));
        few = (f.good r is.below).few lo is.term.high;
      }

  module _ (w : Record) (e : IsRecord ws r w) where
    -- the body of a lambda
    pub body_at : w.tag ≡ LA → Sub ws home b r w.a
    body_at t =
        let l = (f.good r is.below).lam (sym e.tag_is ∙ t) in
        let u = l.up in
        let v = is.up in
        rw e.a_is (record { below = l.below; term = l.term; up = omega arith })

    -- the arguments of an applied head
    pub args_at : (w.tag ≡ LA → ⊥) → Args ws home b r w.b
    args_at k =
        let t = e.tag_is in
        let lo = is.term.low in
        let z : 7 ≤ tag ws r = omega arith in
        let u = is.up in
        rw e.b_is (args_less ws home (home r) b r r (field_b ws r) ((f.good r is.below).app z is.term.high) u (omega arith))

    pub size_args : (w.tag ≡ LA → ⊥) → size w.b ≤ r
    size_args k = let a = args_at k in size_below w.b r (λ q. (a.here q).0)

    pub few_at : (w.tag ≡ LA → ⊥) → length (elements ws w.b) ≤ 16
    few_at k = let t = e.tag_is in let lo = is.term.low in rw e.b_is ((f.good r is.below).few (omega arith) is.term.high)

    -- an occurrence's arguments can be read
    pub counts_at : tag ws r ≡ HA → Counts ws w.b
    counts_at nine = rw e.b_is (counts_of (omega arith))

    -- an occurrence's hole
    pub hole_held : tag ws r ≡ HA → w.a < length ss
    hole_held nine =
        let a = ((f.good r is.below).occ nine).below in
        let z = e.a_is in
        let lt = is.below in
        let wi = f.within in
        let he = f.held in
        omega arith

    -- an occurrence's arguments name variables, and NONE is none
    pub names_at : tag ws r ≡ HA → All (λ v. v < NONE) (vars_of ws w.b)
    unfolding variables arguments
    names_at nine =
        let lt = is.below in
        let wi = f.within in
        let fe = f.few in
        rw e.b_is (all_map (λ v. v ≤ limit r) (λ v. v < NONE) (λ v q. omega arith) (variables ws r) (occurrence_low R n home (store ws ss used) r f lt nine))

module _ (R n : ℕ) (home : ℕ → ℕ) (ws ss : List ℕ) (used b l : ℕ) (f : Fine R n home (store ws ss used)) (is : Args ws home b used l) where
  list_at : Listed ws l
  list_at = listed_of R n home (store ws ss used) l f is.here

  module _ (ne : l ≡ NONE → ⊥) where
    pub cell_read : 4 * l + 3 < length ws
    cell_read = let a = (is.here ne).0 in let c = f.within in let e = f.room in omega arith

    cell_at : Cell ws l
    cell_at = let a = is.here ne in (f.good l a.0).cell a.1

    module _ (w : Record) (e : IsRecord ws l w) where
      -- the first element and the rest are lower
      pub lower_at : (suc w.a < size l) × (size w.b < size l)
      lower_at =
          let c = cell_at in
          let x = c.elem in
          let a = e.a_is in
          let r : size (field_b ws l) ≤ l = size_below (field_b ws l) l (λ q. (c.rest q).0) in
          let s = size_real l ne in
          (omega arith, rw e.b_is (omega arith))

      pub list_is : elements ws l ≡ w.a ∷ elements ws w.b
      list_is = rw (e.a_is, e.b_is) (elements_cell ws l ne list_at)

      -- the first element, and the rest
      pub both_at : Sub ws home b used w.a × Args ws home b used w.b
      both_at =
          let al : All (Sub ws home b used) (w.a ∷ elements ws w.b) = rw list_is at is.all in
          let c = cell_at.rest in
          let i = (is.here ne).0 in
          (al.0, record { here = rw e.b_is (λ q. let d = (c q).0 in (omega arith, (c q).1)); all = al.1 })
