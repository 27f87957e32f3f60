-- A term, turn by turn: what is left to check, under a lambda or in a last argument, and what its head asks.
use Rattle.std.specs.Prelude.{Option, ℕ, Some, None}
use Prim.Native.Nat.{ℕ, ◌+◌, ◌*◌, ◌<◌, ◌≤◌, min}
use mathlib.Core.Path.{◌≡◌, refl, sym, ◌∙◌}
use mathlib.Core.List.{List}
use mathlib.Core.Bool.{Bool, true, false}
use mathlib.Core.Logic.{◌⊎◌, inl, inr}
use native.Mathlib.Omega.{arith}
use native.Mathlib.Decide.{ℕ_discrete}
use borrow.Author.Tests.{eq-eqb, ne_eqb, lt-ltb, le-ltb}
use lib.ListN.{length}
use lib.Dec.{eqb}
use Rattle.table.specs.declared.Record.{Record}
use Rattle.table.specs.Reading.{IsRecord}
use Rattle.rules.specs.Lists.{both, enough}
use Rattle.rules.specs.Words.{NONE, LA, CA, VA, HA, tag, field_a, field_b, has, is_type, is_term, arguments}
use Rattle.rules.specs.Typing.{final_type, applied, check_term, checks}
use Rattle.rules.specs.Pattern.{offence}
use Rattle.laws.specs.Tests.{false_true}
use Rattle.laws.specs.Lists.{size}
use Rattle.laws.specs.Members.{more, every_at}
use Rattle.laws.specs.Forms.{is_lambda, is_constant, is_variable, is_hole_lem, term_of, check_lambda, check_constant, check_variable, check_hole}
use Rattle.laws.specs.Unrolled.{checks_unrolled}
use Rattle.laws.specs.Places.{TypeAt, ListAt, placed_inside, domain_at, result_at, body_at, arguments_at, constant_at, constant_inside, hole_at, context_at}
use Rattle.heads.specs.declared.Final.{Final}
use Rattle.heads.specs.Stack.{binders, type_of}
use Rattle.heads.specs.Heads.{head_type, IsFinal, Bound, Binds}
use Rattle.heads.specs.HeadsLaws.{binders_pop, head_variable, head_constant, type_found, type_missing}
use Rattle.patterns.specs.Occurrences.{occurrence}
use Rattle.terms.specs.declared.LastArgument.{LastArgument}
use Rattle.terms.specs.Asks.{among_terms, takes, filled, TermAsks, ArgsAsk, ListAsks, Told, Remains, Leaves}
use Rattle.terms.proofs.Arguments.{takes_none, takes-more}
use Rattle.terms.proofs.Occurrences.{among_end, lambda_offence, constant_offence, variable_offence, hole_offence}

-- the term in hand: its check is the check asked, the first d₀ binders stay where the first d do, and the lowest offending occurrence of the
-- whole is that of what is passed and of what is within
pub record InHand (ws st₀ : List ℕ) (low₀ d₀ r ty : ℕ) (st : List ℕ) (low d at term : ℕ) : Type 0 where
  pub asks : TermAsks ws st low d term at
  pub same_length : length st ≡ length st₀
  pub lower : term ≤ r
  pub keeps : (e : List ℕ) → binders e d ≡ binders st d → binders e d₀ ≡ binders st₀ d₀
  pub same : checks enough ws (binders st₀ d₀) r ty ≡ checks enough ws (binders st d) term at
  pub lowest : min low₀ (offence enough ws r) ≡ min low (offence enough ws term)

pub hand_first : (ws st : List ℕ) (low d r ty : ℕ) → TermAsks ws st low d r ty → InHand ws st low d r ty st low d ty r
hand_first ws st low d r ty a = record { asks = a; same_length = refl; lower = omega arith; keeps = λ e q. q; same = refl; lowest = refl }

module _ {ws st₀ : List ℕ} {low₀ d₀ r ty : ℕ} {st : List ℕ} {low d at term : ℕ} (p : InHand ws st₀ low₀ d₀ r ty st low d at term) where
  -- what the check of the whole answers
  abbrev Tells : List ℕ → ℕ → Bool → Type 0
  Tells st₁ low₁ b = Told d₀ (checks enough ws (binders st₀ d₀) r ty) (offence enough ws r) st₀ low₀ st₁ low₁ b

  -- what the term in hand is checked for
  abbrev here : Bool
  here = check_term (checks enough ws) ws (binders st d) term at

  -- the term in hand has a rigid head, x, of type h
  pub record Headed (x : Record) (h : ℕ) : Type 0 where
    pub type : TypeAt ws h
    pub asks : ArgsAsk (TypeAt ws) ws st low d x.b h
    pub less : size x.b < term + 1
    pub check : here ≡ both (eqb (final_type enough ws h) at) (takes ws (binders st d) x.b h)
    pub offends : offence enough ws term ≡ among_terms ws x.b

  one : checks enough ws (binders st₀ d₀) r ty ≡ here
  one = let t = p.asks.term in p.same ∙ checks_unrolled ws t.top t.legal (binders st d) term at t.low t.kind

  refuses : here ≡ false → Tells st low false
  refuses e = record { says = sym (one ∙ e); keeps = p.keeps st refl; lowest = λ t. absurd (false_true t) }

  pub answered : (b : Bool) (low₁ : ℕ) (st₁ : List ℕ) → Told d (checks enough ws (binders st d) term at) (offence enough ws term) st low st₁ low₁ b → Tells st₁ low₁ b
  answered b low₁ st₁ h =
      record { says = h.says ∙ sym p.same; keeps = p.keeps st₁ h.keeps; lowest = λ t. let q = h.lowest t in let l = p.lowest in omega arith }

  answers : (so b : Bool) (off low₁ : ℕ) (st₁ : List ℕ) → here ≡ so → offence enough ws term ≡ off → Told d so off st low st₁ low₁ b → Tells st₁ low₁ b
  answers so b off low₁ st₁ e o h = answered b low₁ st₁ (rw (sym p.same ∙ one ∙ e, o) h)

  -- a lower term, whose check is that of the term in hand, is the next in hand
  goes_on : (st₁ : List ℕ) (low₁ d₁ at₁ term₁ : ℕ) → TermAsks ws st₁ low₁ d₁ term₁ at₁ → length st₁ ≡ length st → term₁ < term
      → ((e : List ℕ) → binders e d₁ ≡ binders st₁ d₁ → binders e d ≡ binders st d)
      → here ≡ checks enough ws (binders st₁ d₁) term₁ at₁
      → min low (offence enough ws term) ≡ min low₁ (offence enough ws term₁)
      → InHand ws st₀ low₀ d₀ r ty st₁ low₁ d₁ at₁ term₁
  goes_on st₁ low₁ d₁ at₁ term₁ a n less k s o =
      let lower = p.lower in
      record { asks = a; same_length = n ∙ p.same_length; lower = omega arith; keeps = λ e q. p.keeps e (k e q); same = one ∙ s; lowest = p.lowest ∙ o }

  pub term_inside : 4 * term + 3 < length ws
  term_inside = placed_inside _ ws term p.asks.term

  pub room_left : d < length st
  room_left = let room = p.asks.room in omega arith

  pub stack_holds : d ≤ length st
  stack_holds = let room = room_left in omega arith

  pub hole_less : (k : ℕ) → 2 * r + 2 ≡ k → 2 * term + 1 < k
  hole_less k h = let low = p.lower in omega arith

  module _ {x : Record} (j : IsRecord ws term x) where
    pub tagged : (k : ℕ) → x.tag ≡ k → tag ws term ≡ k
    tagged k e = sym j.tag_is ∙ e

    -- A lambda

    module _ (e : x.tag ≡ LA) where
      pub body_less : x.a < term
      body_less = rw j.a_is (body_at ws term p.asks.term (tagged LA e)).0

      module _ (st₁ : List ℕ) (f : Option ℕ) (v : Binds ws st d at st₁ f) where
        pub no_arrow : f ≡ None → Tells st₁ low false
        unfolding both has Binds
        no_arrow n =
            let w : Binds ws st d at st₁ None = rw n at v in
            rw w.1 (refuses (check_lambda (checks enough ws) ws (binders st d) term at (tagged LA e) ∙ rw (ne_eqb _ _ w.0)))

        module _ (body : ℕ) (n : f ≡ Some body) where
          bound : Bound ws st d at st₁ body
          unfolding Binds
          bound = rw n at v

          pub body_next : length st₁ ≡ length st → InHand ws st₀ low₀ d₀ r ty st₁ low (d + 1) body x.a
          unfolding both has
          body_next long =
              let less = body_less in
              let room = p.asks.room in
              goes_on st₁ low (d + 1) body x.a
              (record {
                term = rw j.a_is (body_at ws term p.asks.term (tagged LA e)).1;
                type = rw bound.body_is (result_at ws at p.asks.type bound.arrow);
                bound = rw bound.pushed (more (domain_at ws at p.asks.type bound.arrow) p.asks.bound);
                room = omega arith;
                few = p.asks.few;
              })
              long less (λ s q. binders_pop s st d _ (q ∙ bound.pushed))
              (check_lambda (checks enough ws) ws (binders st d) term at (tagged LA e) ∙ rw (bound.arrow, bound.pushed, j.a_is, bound.body_is))
              (rw (lambda_offence ws term p.asks.term (tagged LA e), j.a_is))

    -- An applied hole, constant or variable: its arguments

    module _ (z : x.tag ≡ LA → ⊥) where
      listed : (size (field_b ws term) < term + 1) × ListAt (is_term ws) ws (field_b ws term)
      listed = arguments_at ws term p.asks.term (λ e. z (j.tag_is ∙ e))

      arguments_list : ListAt (is_term ws) ws x.b
      arguments_list = rw j.b_is listed.1

      list_less : size x.b < term + 1
      list_less = rw j.b_is listed.0

      arguments_ask : (Held : ℕ → Type 0) (h now : ℕ) → Held h → now ≤ low → ArgsAsk Held ws st now d x.b h
      arguments_ask Held h now q le =
          let few = p.asks.few in
          let s = list_less in
          let room = p.asks.room in
          record { list = arguments_list; held = q; bound = p.asks.bound; room = omega arith; few = omega arith }

    -- A hole occurrence

    module _ (e : tag ws term ≡ HA) where
      no_lambda : x.tag ≡ LA → ⊥
      no_lambda l = let t = j.tag_is in omega arith

      pub hole_inside : 4 * x.a + 3 < length ws
      hole_inside = rw j.a_is (placed_inside _ ws _ (hole_at ws term p.asks.term e))

      pub hole_list : ListAt (is_term ws) ws x.b
      hole_list = arguments_list no_lambda

      pub fills_less : (k : ℕ) → 2 * term + 1 ≡ k → 2 * size x.b < k
      fills_less k h = let s = list_less no_lambda in omega arith

      module _ (u : Record) (i : IsRecord ws x.a u) where
        pub other_type : (u.b ≡ at → ⊥) → Tells st low false
        unfolding both
        other_type n = refuses (check_hole (checks enough ws) ws (binders st d) term at e ∙ rw (← j.a_is, ← i.b_is, ne_eqb _ _ n))

        pub hole_asks : (now o : ℕ) → now ≡ min low o → ArgsAsk (ListAt (is_type ws) ws) ws st now d x.b u.a
        hole_asks now o q = arguments_ask no_lambda (ListAt (is_type ws) ws) u.a now (rw (i.a_is, j.a_is) (context_at ws _ (hole_at ws term p.asks.term e))) (omega arith)

        pub hole_told : (now low₁ : ℕ) (st₁ : List ℕ) (b : Bool) → u.b ≡ at → now ≡ min low (occurrence ws term x.b)
            → Told d (filled ws (binders st d) x.b u.a) (among_terms ws x.b) st now st₁ low₁ b
            → Tells st₁ low₁ b
        unfolding filled arguments both
        hole_told now low₁ st₁ b n o h =
            answers (filled ws (binders st d) x.b u.a) b (min (occurrence ws term x.b) (among_terms ws x.b)) low₁ st₁
            (check_hole (checks enough ws) ws (binders st d) term at e ∙ rw (← j.a_is, ← i.b_is, eq-eqb _ _ n, ← j.b_is, ← i.a_is))
            (hole_offence ws term p.asks.term e ∙ rw (← j.b_is))
            record { says = h.says; keeps = h.keeps; lowest = λ t. let q = h.lowest t in omega arith }

    -- An applied constant or variable

    module _ (z : x.tag ≡ LA → ⊥) (y : x.tag ≡ HA → ⊥) where
      -- a rigid head is a variable or a constant
      rigid : (tag ws term ≡ VA) ⊎ (tag ws term ≡ CA)
      rigid = elim (term_of ws term p.asks.term.kind) [ is_lambda e ↦ absurd (z (j.tag_is ∙ e)) | is_constant e ↦ inr e | is_variable e ↦ inl e | is_hole_lem e ↦ absurd (y (j.tag_is ∙ e)) ]

      variable_type : tag ws term ≡ VA → type_of (binders st d) x.a ≡ head_type ws (binders st d) x
      variable_type e = head_variable ws (binders st d) x _ (j.tag_is ∙ e) refl

      constant_type : tag ws term ≡ CA → Some (field_a ws x.a) ≡ head_type ws (binders st d) x
      constant_type e = head_constant ws (binders st d) x _ (λ v. let k = j.tag_is in omega arith) refl

      pub head_inside : (x.tag ≡ VA → ⊥) → 4 * x.a + 3 < length ws
      head_inside v = elim rigid [ inl e ↦ absurd (v (j.tag_is ∙ e)) | inr e ↦ rw j.a_is (constant_inside ws term p.asks.term e) ]

      rigid_offence : offence enough ws term ≡ among_terms ws x.b
      rigid_offence = rw j.b_is (elim rigid [ inl e ↦ variable_offence ws term p.asks.term e | inr e ↦ constant_offence ws term p.asks.term e ])

      module _ {f : Option ℕ} (q : f ≡ head_type ws (binders st d) x) where
        pub head-free : f ≡ None → Tells st low false
        unfolding both
        head-free n = go rigid
          where
            go : (tag ws term ≡ VA) ⊎ (tag ws term ≡ CA) → Tells st low false
            go (inl e) = refuses (check_variable (checks enough ws) ws (binders st d) term at e ∙ rw (← j.a_is, le-ltb _ _ (type_missing (binders st d) x.a (variable_type e ∙ sym q ∙ n))))
            go (inr e) = let w : ◌≡◌ {A = ℕ} 0 1 = cc (constant_type e) in absurd (omega arith)

        module _ {h : ℕ} (n : f ≡ Some h) where
          pub headed : Headed x h
          unfolding applied takes arguments both
          headed = go rigid
            where
              made : TypeAt ws h → here ≡ both (eqb (final_type enough ws h) at) (takes ws (binders st d) x.b h) → Headed x h
              made t c = record { type = t; asks = arguments_ask z (TypeAt ws) h low t (omega arith); less = list_less z; check = c; offends = rigid_offence }

              go : (tag ws term ≡ VA) ⊎ (tag ws term ≡ CA) → Headed x h
              go (inl e) =
                  let found = type_found (binders st d) x.a h (variable_type e ∙ sym q ∙ n) in
                  made
                  (rw found.1 at (every_at (TypeAt ws) (binders st d) x.a found.0 p.asks.bound))
                  (check_variable (checks enough ws) ws (binders st d) term at e ∙ rw (← j.a_is, lt-ltb _ _ found.0, found.1, ← j.b_is))
              go (inr e) =
                  let is : field_a ws x.a ≡ h = cc (constant_type e) in
                  made
                  (rw (← is, j.a_is) (constant_at ws term p.asks.term e))
                  (check_constant (checks enough ws) ws (binders st d) term at e ∙ rw (← j.a_is, is, ← j.b_is))

-- What a rigid head's final type decides

module _ {ws st₀ : List ℕ} {low₀ d₀ r ty : ℕ} {st : List ℕ} {low d at term : ℕ} {p : InHand ws st₀ low₀ d₀ r ty st low d at term} {x : Record} {h : ℕ} (g : Headed p x h) where
  -- its final type is the type asked of the term in hand, and it asks an argument; k is the measure of the check
  pub record Asking (k : ℕ) (f : Final) : Type 0 where
    pub final : IsFinal ws h f
    pub base : f.base ≡ at
    pub some : f.count ≡ 0 → ⊥
    pub measure : 2 * r + 2 ≡ k

  module _ {f : Final} (i : IsFinal ws h f) where
    pub other_base : (f.base ≡ at → ⊥) → Tells p st low false
    unfolding both
    other_base z = refuses p (g.check ∙ rw (← i.base_is, ne_eqb _ _ z))

    module _ (b : f.base ≡ at) where
      taking : here p ≡ takes ws (binders st d) x.b h
      unfolding both
      taking = g.check ∙ rw (← i.base_is, eq-eqb _ _ b)

      pub none_asked : f.count ≡ 0 → Tells p st low (eqb x.b NONE)
      none_asked z = go (ℕ_discrete x.b NONE)
        where
          few : low ≤ NONE
          few = p.asks.few

          go : Dec (x.b ≡ NONE) → Tells p st low (eqb x.b NONE)
          go (yes e) =
              let none = among_end ws x.b e in
              rw (eq-eqb _ _ e)
              (answers p true true (among_terms ws x.b) low st (taking ∙ rw (takes_none ws (binders st d) x.b h e, ← i.count_is, eq-eqb _ _ z)) g.offends
              (record { says = refl; keeps = refl; lowest = λ t. omega arith }))
          go (no e) = rw (ne_eqb _ _ e) (refuses p (taking ∙ takes-more ws (binders st d) x.b h g.asks.list e (sym i.count_is ∙ z)))

module _ {ws st₀ : List ℕ} {low₀ d₀ r ty : ℕ} {st : List ℕ} {low d at term : ℕ} {p : InHand ws st₀ low₀ d₀ r ty st low d at term}
    {x : Record} {h : ℕ} {g : Headed p x h} {k : ℕ} {f : Final} (a : Asking g k f) where
  takes_list : here p ≡ takes ws (binders st d) x.b h
  takes_list = taking g a.final a.base

  pub none_given : x.b ≡ NONE → Tells p st low false
  none_given e = refuses p (takes_list ∙ rw (takes_none ws (binders st d) x.b h e, ← a.final.count_is, ne_eqb _ _ a.some))

  pub stack_long : length st ≡ length st₀
  stack_long = p.same_length

  pub list_asks : (x.b ≡ NONE → ⊥) → ListAsks ws st low d x.b h f.count
  list_asks e = record { asks = g.asks; some = e; counted = a.final.count_is; more = a.some }

  pub arguments_less : 2 * size x.b < k
  arguments_less = let s = g.less in let low = p.lower in let m = a.measure in omega arith

  module _ (st₁ : List ℕ) (low₁ : ℕ) (o : Option LastArgument) (v : Leaves ws st low d x.b h st₁ low₁ o) where
    pub list_fails : o ≡ None → Tells p st₁ low₁ false
    unfolding Leaves
    list_fails e =
        let w : Leaves ws st low d x.b h st₁ low₁ None = rw e at v in
        record { says = sym (one p ∙ takes_list ∙ w.0); keeps = p.keeps st₁ w.1; lowest = λ t. absurd (false_true t) }

    module _ {q : LastArgument} (e : o ≡ Some q) where
      left : Remains ws st low d x.b h st₁ low₁ q.last q.ty
      unfolding Leaves
      left = rw e at v

      pub last_less : q.last < term
      last_less = let s = g.less in let l = left.lower in omega arith

      pub last_next : length st₁ ≡ length st → InHand ws st₀ low₀ d₀ r ty st₁ low₁ d q.ty q.last
      last_next k =
          goes_on p st₁ low₁ d q.ty q.last left.asks k last_less (λ s w. w ∙ left.keeps) (takes_list ∙ left.same) (rw g.offends left.lowest)
