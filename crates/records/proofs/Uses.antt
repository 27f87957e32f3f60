-- References are the first: what is marked is what the lower records refer to.
use Prim.Native.Nat.{ℕ, ◌+◌, ◌<◌, ◌≤◌}
use mathlib.Core.Path.{◌≡◌, refl, sym, ap, ◌∙◌}
use mathlib.Core.Bool.{Bool, true, false, not}
use mathlib.Core.List.{List, [], ◌∷◌, ◌++◌}
use native.Mathlib.Omega.{arith}
use native.Mathlib.Decide.{ℕ_discrete}
use native.Mathlib.Numerals.{add-one}
use borrow.Author.Tests.{not-true, ltb-true, leb-true, eqb-true, eq-eqb, ne_eqb, lt-leb, le-leb}
use lib.ListN.{length, get_or, set, length-set}
use lib.Seq.{get_or-set_same, get_or-set_other}
use lib.Dec.{eqb, ltb}
use Rattle.rules.specs.Lists.{both, either, any, among, those}
use Rattle.rules.specs.Words.{NONE, AR, CE, LA, HA, tag, field_a, field_b, field_c, has, is_type, is_term}
use Rattle.rules.specs.Records.{rest, shape, list_of, fits, first_cell, reference, uses}
use Rattle.laws.specs.Tests.{false_true, both_true, both_no}
use Rattle.records.specs.declared.Field.{Field}
use Rattle.records.specs.declared.Field.TheVariants.{Nil, Any, Small, OfType, OfBase, OfConstant, OfHole, OfTerm, Types, Terms, Element, Rest}
use Rattle.records.specs.Kinds.{field, refers_to}
use Rattle.records.specs.Ranges.{REFERRED}
use Rattle.records.specs.Marks.{counts, kind, mark, Marked, used, fresh, one, reference-of, referred}
use Rattle.records.proofs.Joined.{among-append}
use Rattle.laws.specs.Noted.{those-append}

-- Records of tag CE to HA

module _ (ws : List ℕ) (x : ℕ) where
  uncounted : tag ws x < CE → counts ws x ≡ false
  unfolding counts both
  uncounted h = rw (lt-leb CE (tag ws x) h)

  counted : CE ≤ tag ws x → tag ws x ≤ HA → counts ws x ≡ true
  unfolding counts both
  counted a b = rw (le-leb CE (tag ws x) a, le-leb (tag ws x) HA b)

  pub type_counts : is_type ws x ≡ true → counts ws x ≡ false
  unfolding is_type
  type_counts e = let h = leb-true (tag ws x) AR (both_true _ _ e).1 in uncounted (omega arith)

  pub tag-counts : (t : ℕ) → t < CE → has ws x t ≡ true → counts ws x ≡ false
  unfolding has
  tag-counts t h e = let q = eqb-true (tag ws x) t e in uncounted (omega arith)

  pub term_counts : is_term ws x ≡ true → counts ws x ≡ true
  unfolding is_term
  term_counts e =
      let a = leb-true LA (tag ws x) (both_true _ _ e).0 in
      let b = leb-true (tag ws x) HA (both_true _ _ e).1 in
      counted (omega arith) (omega arith)

  pub cell_counts : tag ws x ≡ CE → counts ws x ≡ true
  cell_counts e = counted (omega arith) (omega arith)

-- What one field refers to

among-here : (u : List ℕ) (x y : ℕ) → y ≡ x → among (x ∷ u) y ≡ true
unfolding among any either
among-here u x y e = rw (eq-eqb x y (sym e))

among_other : (u : List ℕ) (x y : ℕ) → (y ≡ x → ⊥) → among (x ∷ u) y ≡ among u y
unfolding among any either
among_other u x y n = rw (ne_eqb x y (λ e. n (sym e)))

cell_is : (ws : List ℕ) (x : ℕ) → those (counts ws) (first_cell x) ≡ one (both (not (eqb x NONE)) (counts ws x)) x
unfolding those first_cell one both
cell_is ws x = go (eqb x NONE) refl
  where
    go : (b : Bool) → eqb x NONE ≡ b → those (counts ws) (first_cell x) ≡ one (both (not (eqb x NONE)) (counts ws x)) x
    go true q = rw (q, first_cell)
    go false q = rw (q, first_cell)

pub one_is : (ws : List ℕ) (f : Field) (x : ℕ) → those (counts ws) (reference (field f) x) ≡ reference-of ws f x
unfolding those reference field refers_to one both
one_is ws Nil x = refl
one_is ws Any x = refl
one_is ws Small x = refl
one_is ws OfType x = refl
one_is ws OfBase x = refl
one_is ws OfConstant x = refl
one_is ws OfHole x = refl
one_is ws OfTerm x = refl
one_is ws Types x = cell_is ws x
one_is ws Terms x = cell_is ws x
one_is ws Element x = refl
one_is ws Rest x = cell_is ws x

-- a cell refers to its rest
module _ (ws : List ℕ) (x : ℕ) (z : x ≡ NONE → ⊥) (c : tag ws x ≡ CE) where
  cell_one : those (counts ws) (first_cell x) ≡ x ∷ []
  unfolding one both
  cell_one = cell_is ws x ∙ rw (ne_eqb _ _ z, cell_counts ws x c)

  cell_among : (ps qs : List ℕ) → among (those (counts ws) (ps ++ (first_cell x ++ qs))) x ≡ true
  cell_among ps qs =
      rw (
        those-append (counts ws) ps (first_cell x ++ qs),
        those-append (counts ws) (first_cell x) qs,
        cell_one,
        among-append (those (counts ws) ps) ((x ∷ []) ++ those (counts ws) qs) x,
        among-here (those (counts ws) qs) x x refl,
      )
      (last (among (those (counts ws) ps) x))
    where
      last : (b : Bool) → either b true ≡ true
      last true = unfold either in refl
      last false = unfold either in refl

pub rest_used : (ws : List ℕ) (r : ℕ) → (shape ws r).1 ≡ rest → (field_b ws r ≡ NONE → ⊥) → tag ws (field_b ws r) ≡ CE → among (used ws (r + 1)) (field_b ws r) ≡ true
unfolding used uses reference counts either
rest_used ws r e z c = rw (add-one r, among-append (uses ws r) (used ws r) (field_b ws r), here)
  where
    here : among (uses ws r) (field_b ws r) ≡ true
    here = rw e (cell_among ws (field_b ws r) z c (reference (shape ws r).0 (field_a ws r)) (reference (shape ws r).2 (field_c ws r)))

module _ (ws : List ℕ) (r x : ℕ) where
  first_lower : (b : Bool) → both (ltb x r) b ≡ true → x < r
  first_lower b e = ltb-true x r (both_true _ _ e).0

  cell_lower : (b : Bool) → either (eqb x NONE) (both (ltb x r) b) ≡ true → not (eqb x NONE) ≡ true → x < r
  unfolding either
  cell_lower b e t = first_lower b (rw (not-true (eqb x NONE) t) at e)

  pub lower : (f : Field) → fits ws r (field f) x ≡ true → refers_to f x ≡ true → x < r
  unfolding fits field refers_to list_of
  lower Nil e t = absurd (false_true t)
  lower Any e t = absurd (false_true t)
  lower Small e t = absurd (false_true t)
  lower OfType e t = first_lower _ e
  lower OfBase e t = first_lower _ e
  lower OfConstant e t = first_lower _ e
  lower OfHole e t = first_lower _ e
  lower OfTerm e t = first_lower _ e
  lower Types e t = cell_lower _ e t
  lower Terms e t = cell_lower _ e t
  lower Element e t = first_lower _ e
  lower Rest e t = cell_lower _ e t

-- Marks

module _ (ws u : List ℕ) (x : ℕ) where
  pub mark-used : both (counts ws x) (among u x) ≡ true → mark ws u x ≡ kind ws x + REFERRED
  unfolding mark
  mark-used e = rw (e, mark)

  pub mark_unused : both (counts ws x) (among u x) ≡ false → mark ws u x ≡ kind ws x
  unfolding mark
  mark_unused e = rw (e, mark)

pub mark-least : (ws u : List ℕ) (x : ℕ) → kind ws x ≤ mark ws u x
mark-least ws u x = go (both (counts ws x) (among u x)) refl
  where
    go : (b : Bool) → both (counts ws x) (among u x) ≡ b → kind ws x ≤ mark ws u x
    go true q = let m = mark-used ws u x q in omega arith
    go false q = let m = mark_unused ws u x q in omega arith

mark_same : (ws u v : List ℕ) (x : ℕ) → among u x ≡ among v x → mark ws u x ≡ mark ws v x
unfolding mark
mark_same ws u v x e = rw (e, mark)

pub marked_start : (ws ms : List ℕ) → Marked ws ms [] 0
unfolding among any
marked_start ws ms = record { room = omega arith; marked = λ x h. absurd (omega arith); low = λ x h. refl }

pub marked_same : (ws ms u v : List ℕ) (r : ℕ) → ((x : ℕ) → among u x ≡ among v x) → Marked ws ms u r → Marked ws ms v r
marked_same ws ms u v r h p = record { room = p.room; marked = λ x n. p.marked x n ∙ mark_same ws u v x (h x); low = λ x n. sym (h x) ∙ p.low x n }

-- the mark of r itself
module _ (ws ms u : List ℕ) (r : ℕ) (p : Marked ws ms u r) where
  pub marked-own : (v : ℕ) → Marked ws (set ms r v) u r
  marked-own v = record {
    room = simp length-set p.room;
    marked = λ x h. get_or-set_other ms r x v 0 (λ e. omega arith) ∙ p.marked x h;
    low = p.low;
  }

  pub marked_next : r < length ms → get_or ms r 0 ≡ kind ws r → Marked ws ms u (r + 1)
  marked_next l e = record { room = omega arith; marked = λ x h. go x (ℕ_discrete x r) h; low = λ x h. p.low x (omega arith) }
    where
      go : (x : ℕ) → Dec (x ≡ r) → x < r + 1 → get_or ms x 0 ≡ mark ws u x
      go x (yes q) h = ap (λ i. get_or ms i 0) q ∙ e ∙ ap (kind ws) (sym q) ∙ sym (mark_unused ws u x (rw (p.low x (omega arith)) (both_no (counts ws x))))
      go x (no q) h = p.marked x (omega arith)

-- a record that counts is referred to
marked_new : (ws ms u : List ℕ) (r x : ℕ) → x < r → counts ws x ≡ true → among u x ≡ false → Marked ws ms u r → Marked ws (set ms x (get_or ms x 0 + REFERRED)) (x ∷ u) r
unfolding both
marked_new ws ms u r x h c n p = record {
  room = simp length-set p.room;
  marked = λ y l. go y (ℕ_discrete y x) l;
  low = λ y l. among_other u x y (λ e. omega arith) ∙ p.low y l;
}
  where
    own : get_or ms x 0 ≡ kind ws x
    own = p.marked x h ∙ mark_unused ws u x (rw (c, n))

    go : (y : ℕ) → Dec (y ≡ x) → y < r → get_or (set ms x (get_or ms x 0 + REFERRED)) y 0 ≡ mark ws (x ∷ u) y
    go y (yes e) l =
        let m = p.room in
        rw e (get_or-set_same ms x (get_or ms x 0 + REFERRED) 0 (omega arith) ∙ rw own (sym (mark-used ws (x ∷ u) x (rw (c, among-here u x x refl)))))
    go y (no e) l = get_or-set_other ms x y (get_or ms x 0 + REFERRED) 0 e ∙ p.marked y l ∙ sym (mark_same ws (x ∷ u) u y (among_other u x y e))

-- the marks where x is referred to, if it counts
pub marked-referred : (ws ms u : List ℕ) (r x : ℕ) (d : Bool) → (d ≡ true → (x < r) × (counts ws x ≡ true)) → fresh u (one d x) ≡ true
    → Marked ws ms u r → Marked ws (referred d ms x) (one d x ++ u) r
unfolding referred one fresh
marked-referred ws ms u r x false h f p = p
marked-referred ws ms u r x true h f p = let q = h refl in marked_new ws ms u r x q.0 q.1 (not-true _ (both_true _ _ f).0) p
