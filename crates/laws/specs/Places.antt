-- A type, a term, a list of a legal table: what a reader asks of a record number, and what it gives for the record's fields.
use Rattle.std.specs.Prelude.{ℕ, suc, ◌+◌, ◌*◌, ◌<◌, ◌≡◌, List, ◌∷◌, Bool, true, length}
use Rattle.std.proofs.Common.{arith, eqb-true}
use Rattle.std.proofs.Math.Decide.{ℕ_discrete}
use Rattle.rules.specs.Words.{NONE, AR, HO, CE, LA, CA, HA, EQ, tag, field_a, field_b, field_c, has, is_type, is_term, elements}
use Rattle.laws.specs.Sound.{arrow_fields, constant_field, lambda_field, constant_head, hole_head, hole_context, equation_fields, follows_type, follows_term, constant_list, variable_list, hole_list, cell_element}
use Rattle.laws.specs.Lists.{size, size_none, size_real, Listed}
use Rattle.laws.specs.Members.{Legal, Begins, begins, rest_begins, listed_in}
use Rattle.laws.specs.Forms.{Term, is_lambda, is_constant, is_variable, is_hole_lem, term_of}
use Rattle.laws.specs.Unrolled.{elements_unrolled}

-- a record of a legal table that passes
pub record Placed (ok : ℕ → Bool) (ws : List ℕ) (r : ℕ) : Type 0 where
  pub top : ℕ
  pub legal : Legal ws top
  pub low : r < top
  pub kind : ok r ≡ true

-- r is a type
abbrev pub TypeAt : List ℕ → ℕ → Type 0
TypeAt ws r = Placed (is_type ws) ws r

-- r is a term
abbrev pub TermAt : List ℕ → ℕ → Type 0
TermAt ws r = Placed (is_term ws) ws r

-- l is NONE, or the first cell of a list whose elements pass
pub record ListAt (ok : ℕ → Bool) (ws : List ℕ) (l : ℕ) : Type 0 where
  pub top : ℕ
  pub legal : Legal ws top
  pub first : Begins ok ws top l

-- a list can be read
pub list_read : (ok : ℕ → Bool) (ws : List ℕ) (l : ℕ) → ListAt ok ws l → Listed ws l
list_read ok ws l p = listed_in ws p.top ok p.top l p.legal (omega arith) p.first

pub placed_inside : (ok : ℕ → Bool) (ws : List ℕ) (r : ℕ) → Placed ok ws r → 4 * r + 3 < length ws
placed_inside ok ws r p = let i = p.legal.inside in let l = p.low in omega arith

pub placed_few : (ok : ℕ → Bool) (ws : List ℕ) (r : ℕ) → Placed ok ws r → r < 4096
placed_few ok ws r p = let i = p.legal.few in let l = p.low in omega arith

module _ (ws : List ℕ) (r : ℕ) (p : TypeAt ws r) (e : tag ws r ≡ AR) where
  pub domain_at : TypeAt ws (field_a ws r)
  domain_at =
      let f = arrow_fields ws p.top p.legal.sound r p.low e in
      let lo = f.0.0 in
      let l = p.low in
      record { top = p.top; legal = p.legal; low = omega arith; kind = f.0.1 }

  pub result_at : TypeAt ws (field_b ws r)
  result_at =
      let f = arrow_fields ws p.top p.legal.sound r p.low e in
      let lo = f.1.0 in
      let l = p.low in
      record { top = p.top; legal = p.legal; low = omega arith; kind = f.1.1 }

  pub result_low : field_b ws r < r
  result_low = (arrow_fields ws p.top p.legal.sound r p.low e).1.0

module _ (ws : List ℕ) (r : ℕ) (p : TermAt ws r) where
  pub body_at : tag ws r ≡ LA → (field_a ws r < r) × TermAt ws (field_a ws r)
  body_at e =
      let f = lambda_field ws p.top p.legal.sound r p.low e in
      let lo = f.0 in
      let l = p.low in
      (lo, record { top = p.top; legal = p.legal; low = omega arith; kind = f.1 })

  list_begins : (tag ws r ≡ LA → ⊥) → Begins (is_term ws) ws r (field_b ws r)
  list_begins z = go (term_of ws r p.kind)
    where
      go : Term ws r → Begins (is_term ws) ws r (field_b ws r)
      go (is_lambda t) = absurd (z t)
      go (is_constant t) = begins ws p.top p.legal.sound (is_term ws) r p.low _ (constant_list ws p.top p.legal.sound r p.low t)
      go (is_variable t) = begins ws p.top p.legal.sound (is_term ws) r p.low _ (variable_list ws p.top p.legal.sound r p.low t)
      go (is_hole_lem t) = begins ws p.top p.legal.sound (is_term ws) r p.low _ (hole_list ws p.top p.legal.sound r p.low t)

  pub arguments_at : (tag ws r ≡ LA → ⊥) → (size (field_b ws r) < r + 1) × ListAt (is_term ws) ws (field_b ws r)
  arguments_at z = (go (ℕ_discrete (field_b ws r) NONE), record { top = p.top; legal = p.legal; first = λ x. let q = list_begins z x in let lo = q.0 in let l = p.low in (omega arith, q.1, q.2) })
    where
      go : Dec (field_b ws r ≡ NONE) → size (field_b ws r) < r + 1
      go (yes x) = let s = size_none _ x in omega arith
      go (no x) = let s = size_real _ x in let lo = (list_begins z x).0 in omega arith

  pub constant_at : tag ws r ≡ CA → TypeAt ws (field_a ws (field_a ws r))
  unfolding has
  constant_at e =
      let h = constant_head ws p.top p.legal.sound r p.low e in
      let lo = h.0 in
      let l = p.low in
      let f = constant_field ws p.top p.legal.sound (field_a ws r) (omega arith) (eqb-true _ _ h.1) in
      let lo₁ = f.0 in
      record { top = p.top; legal = p.legal; low = omega arith; kind = f.1 }

  pub constant_inside : tag ws r ≡ CA → 4 * field_a ws r + 3 < length ws
  constant_inside e =
      let h = constant_head ws p.top p.legal.sound r p.low e in
      let lo = h.0 in
      let l = p.low in
      let i = p.legal.inside in
      omega arith

  pub hole_at : tag ws r ≡ HA → Placed (λ x. has ws x HO) ws (field_a ws r)
  hole_at e =
      let h = hole_head ws p.top p.legal.sound r p.low e in
      let lo = h.0 in
      let l = p.low in
      record { top = p.top; legal = p.legal; low = omega arith; kind = h.1 }

-- a hole's context is a list of types
pub context_at : (ws : List ℕ) (h : ℕ) → Placed (λ x. has ws x HO) ws h → ListAt (is_type ws) ws (field_a ws h)
unfolding has
context_at ws h p =
    let s = begins ws p.top p.legal.sound (is_type ws) h p.low _ (hole_context ws p.top p.legal.sound h p.low (eqb-true _ _ p.kind)) in
    record { top = p.top; legal = p.legal; first = λ x. let q = s x in let lo = q.0 in let l = p.low in (omega arith, q.1, q.2) }

-- an equation's sides are terms, and its type is one
pub record Sides (ws : List ℕ) (e : ℕ) : Type 0 where
  pub left : TermAt ws (field_a ws e)
  pub right : TermAt ws (field_b ws e)
  pub type : TypeAt ws (field_c ws e)

pub sides_at : (ws : List ℕ) (n e : ℕ) → Legal ws n → e < n → tag ws e ≡ EQ → Sides ws e
sides_at ws n e g h q =
    let f = equation_fields ws n g.sound e h q in
    let a = f.0.0 in
    let b = f.1.0 in
    let c = f.2.0 in
    record {
      left = record { top = n; legal = g; low = omega arith; kind = f.0.1 };
      right = record { top = n; legal = g; low = omega arith; kind = f.1.1 };
      type = record { top = n; legal = g; low = omega arith; kind = f.2.1 };
    }

-- what a cell of a list gives
pub record CellAt (ok : ℕ → Bool) (ws : List ℕ) (l : ℕ) : Type 0 where
  pub inside : 4 * l + 3 < length ws
  pub few : l < 4096
  pub lower : field_a ws l < l
  pub element : Placed ok ws (field_a ws l)
  pub falls : size (field_b ws l) < size l
  pub rest : ListAt ok ws (field_b ws l)
  pub reads : elements ws l ≡ field_a ws l ∷ elements ws (field_b ws l)

module _ (ws : List ℕ) (l : ℕ) where
  cell_at : (ok : ℕ → Bool) (p : ListAt ok ws l) → ((n : ℕ) (g : Legal ws n) → l < n → tag ws l ≡ CE → ok (field_a ws l) ≡ true → Begins ok ws l (field_b ws l))
      → (l ≡ NONE → ⊥) → CellAt ok ws l
  cell_at ok p on z =
      let q = p.first z in
      let lt = q.0 in
      let i = p.legal.inside in
      let f = p.legal.few in
      let a = cell_element ws p.top p.legal.sound l lt q.1 in
      let b = on p.top p.legal lt q.1 q.2 in
      let s = size_real l z in
      record {
        inside = omega arith;
        few = omega arith;
        lower = a;
        element = record { top = p.top; legal = p.legal; low = omega arith; kind = q.2 };
        falls = go (ℕ_discrete (field_b ws l) NONE) b s;
        rest = record { top = p.top; legal = p.legal; first = λ w. let m = b w in let lo = m.0 in (omega arith, m.1, m.2) };
        reads = elements_unrolled ws p.top p.legal ok p.top l (omega arith) p.first z;
      }
    where
      go : Dec (field_b ws l ≡ NONE) → Begins ok ws l (field_b ws l) → size l ≡ suc l → size (field_b ws l) < size l
      go (yes x) b s = let t = size_none _ x in omega arith
      go (no x) b s = let t = size_real _ x in let lo = (b x).0 in omega arith

  pub term_cell : ListAt (is_term ws) ws l → (l ≡ NONE → ⊥) → CellAt (is_term ws) ws l
  term_cell p z = cell_at (is_term ws) p (λ n g h e k. rest_begins ws n g.sound (is_term ws) (follows_term ws n g.sound) l h e k) z

  pub type_cell : ListAt (is_type ws) ws l → (l ≡ NONE → ⊥) → CellAt (is_type ws) ws l
  type_cell p z = cell_at (is_type ws) p (λ n g h e k. rest_begins ws n g.sound (is_type ws) (follows_type ws n g.sound) l h e k) z
