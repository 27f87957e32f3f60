-- The equations, one after another: what each adds, and what is ahead.
use Rattle.std.specs.Prelude.{Some, None, Ok, Err}
use Prim.Native.Nat.{ℕ, ◌+◌, ◌*◌, ◌<◌, ◌≤◌, min}
use mathlib.Core.Path.{◌≡◌, refl, sym, ap, ◌∙◌}
use mathlib.Core.List.{List, [], ◌∷◌, map}
use mathlib.Core.Bool.{Bool, true, false, not}
use native.Mathlib.Omega.{arith}
use native.Mathlib.Numerals.{add-one}
use borrow.Author.Tests.{ne_eqb, eqb-true, not-false, not-true}
use lib.ListN.{length, get_or, drop, drop_of_length-le}
use lib.Seq.{drop-cons}
use Rattle.table.specs.declared.Record.{Record}
use Rattle.table.specs.Reading.{IsRecord}
use Rattle.rules.specs.Lists.{both, those, below, least, enough}
use Rattle.rules.specs.Words.{NONE, EQ, field_a, field_b, has}
use Rattle.rules.specs.Typing.{checks, typed, ill_typed}
use Rattle.rules.specs.Pattern.{offence, no_pattern}
use Rattle.laws.specs.Tests.{false_true}
use Rattle.laws.specs.Sound.{equation_fields}
use Rattle.laws.specs.Members.{none, every_at}
use Rattle.laws.specs.Places.{TermAt, Sides, sides_at}
use Rattle.heads.specs.Stack.{binders}
use Rattle.rules.specs.declared.Refused.TheVariants.{IllTyped, NoPattern}
use Rattle.terms.specs.Asks.{TermAsks, Told}
use Rattle.typing.specs.Asks.{sides, EquationAsks, JudgeAsks, Offends}
use Rattle.typing.specs.Judging.{judged, Judges}
use Rattle.typing.proofs.Noted.{first_of, first_on, first_stop, lowest-those, those_every}

-- One equation

module _ (ws st : List ℕ) (low e : ℕ) (p : EquationAsks ws st low e) where
  pub equation_inside : 4 * e + 3 < length ws
  equation_inside = let i = p.legal.inside in let l = p.within in omega arith

  both-sides : Sides ws e
  both-sides = sides_at ws p.top e p.legal p.within p.is

  module _ (x : Record) (i : IsRecord ws e x) where
    side-asks : (st₁ : List ℕ) (low₁ a : ℕ) → length st₁ ≡ length st → low₁ ≤ low → TermAt ws a → a < e → TermAsks ws st₁ low₁ 0 a x.c
    unfolding binders
    side-asks st₁ low₁ a n le t lo =
        let l = p.within in
        let r = p.room in
        let few = p.few in
        record { term = t; type = rw i.c_is both-sides.type; bound = none; room = omega arith; few = omega arith }

    pub left-asks : TermAsks ws st low 0 x.a x.c
    left-asks = rw i.a_is (side-asks st low (field_a ws e) refl (omega arith) both-sides.left (equation_fields ws p.top p.legal.sound e p.within p.is).0.0)

    module _ (st₁ : List ℕ) (low₁ : ℕ) (b : Bool) (h : Told 0 (checks enough ws (binders st 0) x.a x.c) (offence enough ws x.a) st low st₁ low₁ b) where
      pub right_asks : not b ≡ false → length st₁ ≡ length st → TermAsks ws st₁ low₁ 0 x.b x.c
      right_asks t n =
          let q = h.lowest (not-false _ t) in
          rw i.b_is (side-asks st₁ low₁ (field_b ws e) n (omega arith) both-sides.right (equation_fields ws p.top p.legal.sound e p.within p.is).1.0)

      pub left-fails : not b ≡ true → Offends ws e low low₁ (not b)
      unfolding typed both binders
      left-fails t = record { says = rw (← i.a_is, ← i.b_is, ← i.c_is, ← h.says, not-true _ t); lowest = λ f. absurd (false_true (sym f ∙ t)) }

      pub right_says : (st₂ : List ℕ) (low₂ : ℕ) (y : Bool) → not b ≡ false
          → Told 0 (checks enough ws (binders st₁ 0) x.b x.c) (offence enough ws x.b) st₁ low₁ st₂ low₂ y
          → Offends ws e low low₂ (not y)
      unfolding typed both binders sides
      right_says st₂ low₂ y t g =
          let q = h.lowest (not-false _ t) in
          record {
            says = rw (← i.a_is, ← i.b_is, ← i.c_is, ← h.says, not-false _ t, ← g.says);
            lowest = λ f. let o = g.lowest (not-false _ f) in rw (← i.a_is, ← i.b_is) (omega arith);
          }

-- The equations still ahead

-- equation e has a side that does not check
abbrev fails : List ℕ → ℕ → Bool
fails ws e = not (typed ws e)

-- the lowest offending occurrence in the sides of these equations, or NONE
unfoldable pub still : List ℕ → List ℕ → ℕ
still ws es = least NONE (map (sides ws) es)

least_low : (b : ℕ) (xs : List ℕ) → least b xs ≤ b
unfolding least
least_low b [] = omega arith
least_low b (x ∷ xs) = let ih = least_low b xs in omega arith

still_low : (ws es : List ℕ) → still ws es ≤ NONE
unfolding still
still_low ws es = least_low NONE _

-- the first i of those that are gone over are passed, and these are all the equations
pub record Gone (ws st₀ es xs st : List ℕ) (low i : ℕ) : Type 0 where
  pub asks : JudgeAsks ws st₀ es
  pub all : xs ≡ es
  pub same_length : length st ≡ length st₀
  pub ill : first_of (fails ws) es ≡ first_of (fails ws) (drop i xs)
  pub off : still ws es ≡ min low (still ws (drop i xs))
  pub few : low ≤ NONE

pub gone_none : (ws st es xs : List ℕ) → JudgeAsks ws st es → xs ≡ es → Gone ws st es xs st NONE 0
gone_none ws st es xs a e = let l = still_low ws es in rw e (record { asks = a; all = refl; same_length = refl; ill = refl; off = omega arith; few = omega arith })

-- what is found in the list is judged
module _ (ws es : List ℕ) where
  ill_noted : (n : ℕ) → es ≡ those (λ e. has ws e EQ) (below n) → ill_typed ws n ≡ first_of (fails ws) es
  unfolding ill_typed
  ill_noted n q = rw q (lowest-those (λ e. has ws e EQ) (fails ws) n)

  off_noted : (n : ℕ) → es ≡ those (λ e. has ws e EQ) (below n) → no_pattern ws n ≡ still ws es
  unfolding no_pattern still sides
  off_noted n q = rw q

  module _ (e : ℕ) (f : first_of (fails ws) es ≡ Some e) where
    ill_judges : Judges ws es (Err (IllTyped e))
    unfolding judged
    ill_judges = record { says = λ n q. rw (ill_noted n q ∙ f, judged) }

  module _ (low : ℕ) (f : first_of (fails ws) es ≡ None) (o : still ws es ≡ low) where
    fine_judges : low ≡ NONE → Judges ws es (Ok tt)
    unfolding judged
    fine_judges z = record { says = λ n q. rw (ill_noted n q ∙ f, off_noted n q ∙ o, z, judged) }

    low_judges : (low ≡ NONE → ⊥) → Judges ws es (Err (NoPattern low))
    unfolding judged
    low_judges z = record { says = λ n q. rw (ill_noted n q ∙ f, off_noted n q ∙ o, ne_eqb _ _ z, judged, off_noted n q ∙ o) }

module _ (ws st₀ es xs st : List ℕ) (low i : ℕ) (p : Gone ws st₀ es xs st low i) where
  module _ (h : i < length xs) (e : ℕ) (is : get_or xs i 0 ≡ e) where
    next : drop i xs ≡ e ∷ drop (i + 1) xs
    next = rw (add-one i, drop-cons xs i 0 h, is)

    pub equation_asks : EquationAsks ws st low e
    unfolding has
    equation_asks =
        let r = p.asks.room in
        let l = p.same_length in
        let q = every_at (λ x. (x < p.asks.top) × (has ws x EQ ≡ true)) xs i (omega arith) (rw (p.all, p.asks.noted) (those_every (λ e. has ws e EQ) p.asks.top)) in
        record { top = p.asks.top; legal = p.asks.legal; within = rw is at q.0; is = eqb-true _ _ (rw is at q.1); room = omega arith; few = p.few }

    module _ (low₁ : ℕ) (b : Bool) (o : Offends ws e low low₁ b) where
      pub equation_fails : b ≡ true → Judges ws es (Err (IllTyped e))
      equation_fails t = ill_judges ws es e (p.ill ∙ ap (first_of (fails ws)) next ∙ first_stop (fails ws) e _ (sym o.says ∙ t))

      pub gone_more : (st₁ : List ℕ) → length st₁ ≡ length st → b ≡ false → Gone ws st₀ es xs st₁ low₁ (i + 1)
      unfolding still least
      gone_more st₁ l t =
          let off = rw next at p.off in
          let q = o.lowest t in
          let few = p.few in
          record {
            asks = p.asks;
            all = p.all;
            same_length = l ∙ p.same_length;
            ill = p.ill ∙ ap (first_of (fails ws)) next ∙ first_on (fails ws) e _ (sym o.says ∙ t);
            off = omega arith;
            few = omega arith;
          }

  module _ (h : length xs ≤ i) where
    ended : drop i xs ≡ []
    ended = drop_of_length-le xs h

    all_check : first_of (fails ws) es ≡ None
    unfolding first_of
    all_check = rw ended at p.ill

    lowest_is : still ws es ≡ low
    unfolding still least
    lowest_is = let off = rw ended at p.off in let few = p.few in omega arith

    pub all_fine : low ≡ NONE → Judges ws es (Ok tt)
    all_fine = fine_judges ws es low all_check lowest_is

    pub some_offend : (low ≡ NONE → ⊥) → Judges ws es (Err (NoPattern low))
    some_offend = low_judges ws es low all_check lowest_is
