-- An argument list, turn by turn: what is left of it and of what it is held to, after the first arguments have passed.
use Rattle.std.specs.Prelude.{Some, None}
use Prim.Native.Nat.{ℕ, ◌+◌, ◌*◌, ◌-◌, ◌<◌, ◌≤◌, min}
use mathlib.Core.Path.{◌≡◌, refl, sym, ◌∙◌}
use mathlib.Core.List.{List, [], ◌∷◌}
use mathlib.Core.Bool.{Bool, true, false, not}
use native.Mathlib.Omega.{arith}
use native.Mathlib.Decide.{ℕ_discrete}
use borrow.Author.Tests.{eq-eqb, ne_eqb, not-true, not-false}
use lib.ListN.{length}
use lib.Dec.{eqb}
use Rattle.table.specs.declared.Record.{Record}
use Rattle.table.specs.Reading.{IsRecord, Follows}
use Rattle.rules.specs.Lists.{both, each, enough}
use Rattle.rules.specs.Words.{NONE, AR, tag, is_type, is_term}
use Rattle.rules.specs.Typing.{domains, fills, checks}
use Rattle.rules.specs.Pattern.{offence}
use Rattle.laws.specs.Tests.{false_true, both_no}
use Rattle.laws.specs.Lists.{size, size_real, elements_none}
use Rattle.laws.specs.Places.{TypeAt, ListAt, CellAt, placed_inside, domain_at, result_at, term_cell, type_cell}
use Rattle.heads.specs.Stack.{binders}
use Rattle.heads.specs.Heads.{named}
use Rattle.heads.specs.HeadsLaws.{domains_arrow, asks_arrow, named-fills, other_fills, named-bare}
use Rattle.terms.specs.Asks.{among_terms, takes, filled, TermAsks, ArgsAsk, ListAsks, Told, Leaves}
use Rattle.terms.proofs.Occurrences.{among_end, among_cell, bare-offence}

-- the first arguments have passed; so says of a list and of what it is held to whether it passes
pub record Passed (Held : ℕ → Type 0) (so : ℕ → ℕ → Bool) (ws st₀ : List ℕ) (low₀ d l x : ℕ) (st : List ℕ) (low list rest : ℕ) : Type 0 where
  pub asks : ArgsAsk Held ws st₀ low₀ d l x
  pub same_length : length st ≡ length st₀
  pub keeps : binders st d ≡ binders st₀ d
  pub left : ListAt (is_term ws) ws list
  pub held : Held rest
  pub less : size list ≤ size l
  pub same : so l x ≡ so list rest
  pub lowest : min low₀ (among_terms ws l) ≡ min low (among_terms ws list)
  pub few : low ≤ NONE

module _ {Held : ℕ → Type 0} {so : ℕ → ℕ → Bool} {ws st₀ : List ℕ} {low₀ d l x : ℕ} where
  pub passed_none : ArgsAsk Held ws st₀ low₀ d l x → Passed Held so ws st₀ low₀ d l x st₀ low₀ l x
  passed_none a = record { asks = a; same_length = refl; keeps = refl; left = a.list; held = a.held; less = omega arith; same = refl; lowest = refl; few = a.few }

  module _ {st : List ℕ} {low list rest : ℕ} (p : Passed Held so ws st₀ low₀ d l x st low list rest) where
    pub refuses : (st₁ : List ℕ) (low₁ : ℕ) → binders st₁ d ≡ binders st d → so list rest ≡ false → Told d (so l x) (among_terms ws l) st₀ low₀ st₁ low₁ false
    refuses st₁ low₁ k e = record { says = sym (p.same ∙ e); keeps = k ∙ p.keeps; lowest = λ t. absurd (false_true t) }

    pub ends : (b : Bool) → list ≡ NONE → b ≡ so list rest → Told d (so l x) (among_terms ws l) st₀ low₀ st low b
    ends b n e =
        let none = among_end ws list n in
        let q = p.lowest in
        let few = p.few in
        record { says = e ∙ sym p.same; keeps = p.keeps; lowest = λ t. omega arith }

    pub stack_holds : d ≤ length st
    stack_holds = let room = p.asks.room in let long = p.same_length in omega arith

    module _ {at next : ℕ} (f : Follows ws list at next) where
      cell : CellAt (is_term ws) ws list
      cell = term_cell ws list p.left f.some

      pub rest_less : size next < size list
      rest_less = rw f.rest cell.falls

      pub element_less : (k : ℕ) → 2 * size l ≡ k → 2 * at + 2 < k
      element_less k h =
          let lo = cell.lower in
          let s = size_real list f.some in
          let le = p.less in
          let a = f.element in
          omega arith

      pub element_asks : (t : ℕ) → TypeAt ws t → TermAsks ws st low d at t
      element_asks t ty =
          let lo = cell.lower in
          let s = size_real list f.some in
          let le = p.less in
          let room = p.asks.room in
          let long = p.same_length in
          let a = f.element in
          record { term = rw f.element cell.element; type = ty; bound = rw p.keeps p.asks.bound; room = omega arith; few = p.few }

      pub one_cell : among_terms ws list ≡ min (offence enough ws at) (among_terms ws next)
      one_cell = rw (f.element, f.rest) (among_cell ws list p.left f.some)

      passed_on : (y : ℕ) (st₁ : List ℕ) (low₁ : ℕ) → Held y → so list rest ≡ so next y → length st₁ ≡ length st
          → binders st₁ d ≡ binders st d → low₁ ≡ min low (offence enough ws at)
          → Passed Held so ws st₀ low₀ d l x st₁ low₁ next y
      passed_on y st₁ low₁ h s n k o =
          let fall = rest_less in
          let le = p.less in
          let few = p.few in
          let q = p.lowest in
          let one = one_cell in
          record {
            asks = p.asks;
            same_length = n ∙ p.same_length;
            keeps = k ∙ p.keeps;
            left = rw f.rest cell.rest;
            held = h;
            less = omega arith;
            same = p.same ∙ s;
            lowest = omega arith;
            few = omega arith;
          }

-- Held to a head's type

both_yes : (a : Bool) → both a true ≡ a
unfolding both
both_yes true = refl
both_yes false = refl

each_none : (ok : ℕ → ℕ → Bool) (ys : List ℕ) → each ok [] ys ≡ eqb (length ys) 0
unfolding each
each_none ok [] = refl
each_none ok (y ∷ ys) = sym (ne_eqb (length (y ∷ ys)) 0 (λ q. omega arith))

each_more : (ok : ℕ → ℕ → Bool) (x : ℕ) (xs ys : List ℕ) → length ys ≡ 0 → each ok (x ∷ xs) ys ≡ false
unfolding each
each_more ok x xs [] e = refl
each_more ok x xs (y ∷ ys) e = absurd (omega arith)

-- no list at all is taken where no argument is asked
pub takes_none : (ws ctx : List ℕ) (l head : ℕ) → l ≡ NONE → takes ws ctx l head ≡ eqb (length (domains enough ws head)) 0
unfolding takes
takes_none ws ctx l head n = rw (elements_none ws l n, each_none)

-- where none is asked no other list is
pub takes-more : (ws ctx : List ℕ) (l head : ℕ) → ListAt (is_term ws) ws l → (l ≡ NONE → ⊥) → length (domains enough ws head) ≡ 0 → takes ws ctx l head ≡ false
unfolding takes
takes-more ws ctx l head p z e = rw (term_cell ws l p z).reads (each_more _ _ _ _ e)

-- the first arguments have passed, and a cell and an arrow are left; so many arguments are still asked
pub record Counting (ws st₀ : List ℕ) (low₀ d l head : ℕ) (st : List ℕ) (low list rest left : ℕ) : Type 0 where
  pub passed : Passed (TypeAt ws) (takes ws (binders st₀ d)) ws st₀ low₀ d l head st low list rest
  pub some : list ≡ NONE → ⊥
  pub counted : left ≡ length (domains enough ws rest)
  pub more : left ≡ 0 → ⊥

pub counting_first : (ws st : List ℕ) (low d l head count : ℕ) → ListAsks ws st low d l head count → Counting ws st low d l head st low l head count
counting_first ws st low d l head count a = record { passed = passed_none a.asks; some = a.some; counted = a.counted; more = a.more }

module _ {ws st₀ : List ℕ} {low₀ d l head : ℕ} {st : List ℕ} {low list rest left : ℕ} (p : Counting ws st₀ low₀ d l head st low list rest left) where
  pub head_inside : 4 * rest + 3 < length ws
  head_inside = placed_inside _ ws rest p.passed.held

  pub list_inside : 4 * list + 3 < length ws
  list_inside = (term_cell ws list p.passed.left p.some).inside

  pub left_some : 1 ≤ left
  left_some = let z = p.more in omega arith

  arrow : tag ws rest ≡ AR
  arrow = asks_arrow p.passed.held (λ e. p.more (p.counted ∙ e))

  stops : (st₁ : List ℕ) (low₁ : ℕ) → binders st₁ d ≡ binders st d → takes ws (binders st₀ d) list rest ≡ false → Leaves ws st₀ low₀ d l head st₁ low₁ None
  unfolding Leaves
  stops st₁ low₁ k e = (p.passed.same ∙ e, k ∙ p.passed.keeps)

  module _ {t cell : Record} (i : IsRecord ws rest t) (e : IsRecord ws list cell) where
    pub domain_type : TypeAt ws t.a
    domain_type = rw i.a_is (domain_at ws rest p.passed.held arrow)

    result_type : TypeAt ws t.b
    result_type = rw i.b_is (result_at ws rest p.passed.held arrow)

    on : Follows ws list cell.a cell.b
    on = record { some = p.some; element = e.a_is; rest = e.b_is }

    -- one argument less is asked of the rest
    fewer : left - 1 ≡ length (domains enough ws t.b)
    fewer = let c = rw (domains_arrow p.passed.held arrow, ← i.b_is) at p.counted in omega arith

    turn : takes ws (binders st₀ d) list rest ≡ both (checks enough ws (binders st₀ d) cell.a t.a) (takes ws (binders st₀ d) cell.b t.b)
    unfolding takes each
    turn = rw ((term_cell ws list p.passed.left p.some).reads, domains_arrow p.passed.held arrow, e.a_is, e.b_is, i.a_is, i.b_is)

    rest_list : ListAt (is_term ws) ws cell.b
    rest_list = rw e.b_is (term_cell ws list p.passed.left p.some).rest

    pub too_many : left - 1 ≡ 0 → (cell.b ≡ NONE → ⊥) → Leaves ws st₀ low₀ d l head st low None
    too_many z n = stops st low refl (turn ∙ rw (takes-more ws (binders st₀ d) cell.b t.b rest_list n (sym fewer ∙ z)) (both_no _))

    pub too_short : (left - 1 ≡ 0 → ⊥) → cell.b ≡ NONE → Leaves ws st₀ low₀ d l head st low None
    too_short z n = stops st low refl (turn ∙ rw (takes_none ws (binders st₀ d) cell.b t.b n, ← fewer, ne_eqb _ _ z) (both_no _))

    pub last_remains : left - 1 ≡ 0 → cell.b ≡ NONE → Leaves ws st₀ low₀ d l head st low (Some (record { last = cell.a; ty = t.a }))
    unfolding Leaves
    last_remains z n =
        let none = among_end ws cell.b n in
        let less = element_less p.passed on _ refl in
        let few = p.passed.few in
        let lowest = p.passed.lowest in
        let one = one_cell p.passed on in
        record {
          asks = element_asks p.passed on t.a domain_type;
          lower = omega arith;
          keeps = p.passed.keeps;
          same = p.passed.same ∙ turn ∙ rw (takes_none ws (binders st₀ d) cell.b t.b n, ← fewer, eq-eqb _ _ z, both_yes, p.passed.keeps);
          lowest = omega arith;
        }

    pub argument_asks : TermAsks ws st low d cell.a t.a
    argument_asks = element_asks p.passed on t.a domain_type

    pub argument_less : (k : ℕ) → 2 * size l ≡ k → 2 * cell.a + 2 < k
    argument_less k h = element_less p.passed on k h

    pub cells_less : size cell.b < size list
    cells_less = rest_less p.passed on

    module _ {st₁ : List ℕ} {low₁ : ℕ} {b : Bool} (h : Told d (checks enough ws (binders st d) cell.a t.a) (offence enough ws cell.a) st low st₁ low₁ b) where
      pub argument_fails : not b ≡ true → Leaves ws st₀ low₀ d l head st₁ low₁ None
      unfolding both
      argument_fails f = stops st₁ low₁ h.keeps (turn ∙ rw (← p.passed.keeps, ← h.says, not-true b f))

      pub argument_checks : length st₁ ≡ length st → (left - 1 ≡ 0 → ⊥) → (cell.b ≡ NONE → ⊥) → not b ≡ false
          → Counting ws st₀ low₀ d l head st₁ low₁ cell.b t.b (left - 1)
      unfolding both
      argument_checks n z m f = record {
        passed = passed_on p.passed on t.b st₁ low₁ result_type
            (turn ∙ rw (← p.passed.keeps, ← h.says, not-false b f)) n h.keeps (h.lowest (not-false _ f));
        some = m;
        counted = fewer;
        more = z;
      }

-- Held to a context

-- the first arguments fill the first types of the context
abbrev pub Filling : List ℕ → List ℕ → ℕ → ℕ → ℕ → ℕ → List ℕ → ℕ → ℕ → ℕ → Type 0
Filling ws st₀ low₀ d l context st low list rest = Passed (ListAt (is_type ws) ws) (filled ws (binders st₀ d)) ws st₀ low₀ d l context st low list rest

module _ {ws st₀ : List ℕ} {low₀ d l context : ℕ} {st : List ℕ} {low list rest : ℕ} (p : Filling ws st₀ low₀ d l context st low list rest) where
  pub context_ends : list ≡ NONE → Told d (filled ws (binders st₀ d) l context) (among_terms ws l) st₀ low₀ st low (eqb rest NONE)
  unfolding filled each
  context_ends n = ends p _ n (go (ℕ_discrete rest NONE))
    where
      go : Dec (rest ≡ NONE) → eqb rest NONE ≡ filled ws (binders st₀ d) list rest
      go (yes e) = rw (elements_none ws list n, elements_none ws rest e, eq-eqb _ _ e)
      go (no e) = rw (elements_none ws list n, (type_cell ws rest p.held e).reads, ne_eqb _ _ e)

  module _ {vs : List ℕ} (k : vs ≡ ws) {at next : ℕ} (f : Follows vs list at next) where
    on-cell : Follows ws list at next
    on-cell = rw k at f

    pub fills_inside : 4 * at + 3 < length ws
    fills_inside = rw on-cell.element (placed_inside _ ws _ (term_cell ws list p.left on-cell.some).element)

    pub filling_less : (k : ℕ) → 2 * size l ≡ k → 2 * at + 2 < k
    filling_less = element_less p on-cell

    pub context_short : rest ≡ NONE → Told d (filled ws (binders st₀ d) l context) (among_terms ws l) st₀ low₀ st low false
    unfolding filled each
    context_short n =
        refuses p st low refl
        (rw ((term_cell ws list p.left on-cell.some).reads, elements_none ws rest n))

    module _ {us : List ℕ} (j : us ≡ ws) {ty more : ℕ} (t : Follows us rest ty more) where
      of-type : Follows ws rest ty more
      of-type = rw j at t

      type : CellAt (is_type ws) ws rest
      type = type_cell ws rest p.held of-type.some

      pub fills_ask : TermAsks ws st low d at ty
      fills_ask = element_asks p on-cell ty (rw of-type.element type.element)

      filling : filled ws (binders st₀ d) list rest ≡ both (fills (checks enough ws) ws (binders st d) at ty) (filled ws (binders st₀ d) next more)
      unfolding filled each
      filling = rw ((term_cell ws list p.left on-cell.some).reads, type.reads, on-cell.element, on-cell.rest, of-type.element, of-type.rest, p.keeps)

      module _ {m : Bool} (g : m ≡ named ws (binders st d) at ty) where
        pub bare-fills : not m ≡ false → Filling ws st₀ low₀ d l context st low next more
        unfolding both
        bare-fills f =
            let so : named ws (binders st d) at ty ≡ true = sym g ∙ not-false _ f in
            let none = bare-offence ws at fills_ask.term (named-bare _ _ _ _ so) in
            let few = p.few in
            passed_on p on-cell more st low
            (rw of-type.rest type.rest)
            (filling ∙ rw (named-fills ws (binders st d) at ty so)) refl refl (omega arith)

        module _ (o : not m ≡ true) {st₁ : List ℕ} {low₁ : ℕ} {b : Bool} (h : Told d (checks enough ws (binders st d) at ty) (offence enough ws at) st low st₁ low₁ b) where
          held_to : fills (checks enough ws) ws (binders st d) at ty ≡ b
          held_to = other_fills ws (binders st d) at ty (sym g ∙ not-true _ o) ∙ sym h.says

          pub filling-fails : not b ≡ true → Told d (filled ws (binders st₀ d) l context) (among_terms ws l) st₀ low₀ st₁ low₁ false
          unfolding both
          filling-fails f =
              refuses p st₁ low₁ h.keeps
              (filling ∙ rw (held_to, not-true b f))

          pub filling-checks : length st₁ ≡ length st → not b ≡ false → Filling ws st₀ low₀ d l context st₁ low₁ next more
          unfolding both
          filling-checks n f =
              passed_on p on-cell more st₁ low₁
              (rw of-type.rest type.rest)
              (filling ∙ rw (held_to, not-false b f)) n h.keeps (h.lowest (not-false _ f))
