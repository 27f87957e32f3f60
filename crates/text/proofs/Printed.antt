-- A term's text part by part, whatever the fuel.
use Prim.Native.Nat.{ℕ, zero, suc, ◌<◌, ◌≤◌}
use mathlib.Core.Path.{◌≡◌, refl, sym, ap, ◌∙◌}
use mathlib.Core.List.{List, [], ◌∷◌, ◌++◌, map, append_assoc}
use native.Mathlib.Omega.{arith}
use native.Mathlib.Decide.{ℕ_discrete}
use borrow.Author.Tests.{eq-eqb, ne_eqb}
use Rattle.rules.specs.Lists.{enough}
use Rattle.rules.specs.Words.{NONE, tag, field_a, field_b, LA, CA, VA, has, form, cells, elements, arguments}
use Rattle.rules.specs.Text.{Bytes, commas, brackets, print_term, printed}
use Rattle.laws.specs.Lists.{cells_none, cells-more, elements_none, elements_cell}
use Rattle.text.specs.Notation.{letter, head_text, led, list_text, closing}
use Rattle.text.specs.Printable.{Term, Terms}
use Rattle.text.proofs.Printable.{terms_listed, terms_rest, terms_first, term_body, term_list}

pub letter_constant : (k : ℕ) → k ≡ CA → 99 ≡ letter k
unfolding letter
letter_constant k e = rw (e, letter)

pub letter_variable : (k : ℕ) → k ≡ VA → 118 ≡ letter k
unfolding letter
letter_variable k e = rw (e, e, letter)

pub letter_hole : (k : ℕ) → (k ≡ CA → ⊥) → (k ≡ VA → ⊥) → 104 ≡ letter k
unfolding letter
letter_hole k n m = rw (ne_eqb _ _ n, ne_eqb _ _ m, letter)

module _ (print : ℕ → Bytes) (ws : List ℕ) (r : ℕ) where
  print_lambda : tag ws r ≡ LA → print_term print ws r ≡ 92 ∷ print (field_a ws r)
  unfolding print_term form has
  print_lambda e = rw (eq-eqb _ _ e, print_term, form, has)

  print_applied : (tag ws r ≡ LA → ⊥) → print_term print ws r ≡ head_text (tag ws r) (field_a ws r) ++ brackets (map print (arguments ws r))
  unfolding print_term form has head_text letter
  print_applied n = go (ℕ_discrete (tag ws r) CA) (ℕ_discrete (tag ws r) VA)
    where
      go : Dec (tag ws r ≡ CA) → Dec (tag ws r ≡ VA) → print_term print ws r ≡ head_text (tag ws r) (field_a ws r) ++ brackets (map print (arguments ws r))
      go (yes c) v = rw (ne_eqb _ _ n, eq-eqb _ _ c, print_term, form, has, head_text, letter)
      go (no c) (yes v) = rw (ne_eqb _ _ n, ne_eqb _ _ c, eq-eqb _ _ v, print_term, form, has, head_text, letter)
      go (no c) (no v) = rw (ne_eqb _ _ n, ne_eqb _ _ c, ne_eqb _ _ v, print_term, form, has, head_text, letter)

commas-led : (ts : List Bytes) → commas ts ≡ led 44 ts
unfolding commas led
commas-led [] = refl
commas-led (t ∷ ts) = refl

brackets-led : (t : Bytes) (ts : List Bytes) → brackets (t ∷ ts) ≡ led 40 (t ∷ ts) ++ (41 ∷ [])
unfolding brackets led
brackets-led t ts = ap (λ (u : Bytes). 40 ∷ u) (sym (append_assoc t (commas ts) (41 ∷ [])))

module _ (ws : List ℕ) (l : ℕ) where
  pub list_none : (m : ℕ) → l ≡ NONE → list_text m ws l ≡ []
  unfolding list_text led
  list_none m e = rw (elements_none ws l e)

  pub list_cell : (m : ℕ) → (l ≡ NONE → ⊥) → Terms ws l → list_text m ws l ≡ m ∷ (printed enough ws (field_a ws l) ++ list_text 44 ws (field_b ws l))
  unfolding list_text led
  list_cell m n h = rw (elements_cell ws l n (terms_listed ws l h), commas-led)

  list_closed : Terms ws l → brackets (map (λ x. printed enough ws x) (elements ws l)) ≡ list_text 40 ws l ++ closing l
  unfolding list_text led closing brackets
  list_closed h = go (ℕ_discrete l NONE)
    where
      go : Dec (l ≡ NONE) → brackets (map (λ x. printed enough ws x) (elements ws l)) ≡ list_text 40 ws l ++ closing l
      go (yes e) = rw (elements_none ws l e, eq-eqb _ _ e, closing)
      go (no n) = rw (elements_cell ws l n (terms_listed ws l h), ne_eqb _ _ n, closing) (brackets-led (printed enough ws (field_a ws l)) (map (λ x. printed enough ws x) (elements ws (field_b ws l))))

-- two ways to print that agree on lower terms
module _ (f g : ℕ → Bytes) (ws : List ℕ) (bound : ℕ) (same : (x : ℕ) → x < bound → Term ws x → f x ≡ g x) where
  cells_same : (k l : ℕ) → ((l ≡ NONE → ⊥) → l < bound) → Terms ws l → map f (cells k ws l) ≡ map g (cells k ws l)
  unfolding cells
  cells_same zero l low h = refl
  cells_same (suc k) l low h = go (ℕ_discrete l NONE) (cells_same k (field_b ws l))
    where
      go : Dec (l ≡ NONE) → (((field_b ws l ≡ NONE → ⊥) → field_b ws l < bound) → Terms ws (field_b ws l) → map f (cells k ws (field_b ws l)) ≡ map g (cells k ws (field_b ws l)))
          → map f (cells (suc k) ws l) ≡ map g (cells (suc k) ws l)
      go (yes e) ih = rw (cells_none (suc k) ws l e)
      go (no n) ih =
          let q = h.here n in
          let real = low n in
          let inside = q.0 in
          let c = h.good.cell l inside q.1 in
          let first = c.elem in
          rw (cells-more k ws l n, same (field_a ws l) (omega arith) (terms_first ws l h n), ih (λ m. let lower = (c.rest m).0 in omega arith) (terms_rest ws l h n))

  print_same : (r : ℕ) → r ≤ bound → Term ws r → print_term f ws r ≡ print_term g ws r
  unfolding arguments elements
  print_same r low h = go (ℕ_discrete (tag ws r) LA)
    where
      go : Dec (tag ws r ≡ LA) → print_term f ws r ≡ print_term g ws r
      go (yes e) =
          let lower = (h.good.body r h.here e).0 in
          rw (print_lambda f ws r e, print_lambda g ws r e, same (field_a ws r) (omega arith) (term_body ws r h e))
      go (no n) =
          let lower : (field_b ws r ≡ NONE → ⊥) → field_b ws r < bound = λ m. let b = (h.good.list r h.here h.term n m).0 in omega arith in
          rw (print_applied f ws r n, print_applied g ws r n, cells_same enough (field_b ws r) lower (term_list ws r h n))

-- fuel above a term's number does not matter
printed_same : (j k : ℕ) (ws : List ℕ) (r : ℕ) → r < j → r < k → Term ws r → printed j ws r ≡ printed k ws r
unfolding printed
printed_same zero k ws r a b h = absurd (omega arith)
printed_same (suc j) zero ws r a b h = absurd (omega arith)
printed_same (suc j) (suc k) ws r a b h =
    print_same (λ x. printed j ws x) (λ x. printed k ws x) ws r (λ x l t. printed_same j k ws x (omega arith) (omega arith) t) r (omega arith) h

printed_next : (f : ℕ) (ws : List ℕ) (r : ℕ) → r < f → Term ws r → printed (suc f) ws r ≡ print_term (λ x. printed (suc f) ws x) ws r
unfolding printed
printed_next f ws r l h =
    print_same (λ x. printed f ws x) (λ x. printed (suc f) ws x) ws r (λ x k t. printed_same f (suc f) ws x (omega arith) (omega arith) t) r (omega arith) h

module _ (ws : List ℕ) (r : ℕ) (h : Term ws r) where
  -- the text of a term, without fuel
  pub printed_term : printed enough ws r ≡ print_term (λ x. printed enough ws x) ws r
  printed_term = let here = h.here in let few = h.good.few in printed_next 18446744073709551615 ws r (omega arith) h

  pub printed_lambda : tag ws r ≡ LA → printed enough ws r ≡ 92 ∷ printed enough ws (field_a ws r)
  printed_lambda e = printed_term ∙ print_lambda (λ x. printed enough ws x) ws r e

  pub printed-applied : (tag ws r ≡ LA → ⊥)
      → printed enough ws r ≡ head_text (tag ws r) (field_a ws r) ++ (list_text 40 ws (field_b ws r) ++ closing (field_b ws r))
  unfolding arguments
  printed-applied n =
      printed_term
      ∙ print_applied (λ x. printed enough ws x) ws r n
      ∙ ap (λ (t : Bytes). head_text (tag ws r) (field_a ws r) ++ t) (list_closed ws (field_b ws r) (term_list ws r h n))
