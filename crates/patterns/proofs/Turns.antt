-- What a turn of the pattern check has to show, over values alone.
use Prim.Native.Nat.{ℕ, ◌≤◌, min}
use mathlib.Core.Path.{◌≡◌, refl, sym, ◌∙◌}
use mathlib.Core.List.{List, [], ◌∷◌, map}
use mathlib.Core.Bool.{Bool, true, false}
use native.Mathlib.Omega.{arith}
use borrow.Author.Tests.{eq-eqb, ne_eqb}
use Rattle.table.specs.declared.Record.{Record}
use Rattle.table.specs.Reading.{IsRecord}
use Rattle.rules.specs.Lists.{both, either, all, any, among, distinct}
use Rattle.rules.specs.Words.{NONE, VA, field_a, has, elements, bare}
use Rattle.laws.specs.Tests.{both_no}
use Rattle.patterns.specs.Occurrences.{different, occurrence}

-- v is among the variables that these arguments name
abbrev pub Names : List ℕ → ℕ → List ℕ → Bool
Names ws v xs = among (map (λ x. field_a ws x) xs) v

-- these arguments are bare variables with different numbers
abbrev pub Differ : List ℕ → List ℕ → Bool
Differ ws xs = both (all (bare ws) xs) (distinct (map (λ x. field_a ws x) xs))

module _ (ws xs : List ℕ) (whole : Bool) where
  module _ (v : ℕ) (s : whole ≡ Names ws v xs) where
    pub named_end : xs ≡ [] → false ≡ whole
    unfolding among any
    named_end e = sym (s ∙ rw e)

    module _ (at : ℕ) (ys : List ℕ) (e : xs ≡ at ∷ ys) (x : Record) (i : IsRecord ws at x) where
      pub named_here : x.a ≡ v → true ≡ whole
      unfolding among any either
      named_here h = sym (s ∙ rw (e, ← i.a_is, eq-eqb _ _ h))

      pub named_on : (x.a ≡ v → ⊥) → whole ≡ Names ws v ys
      unfolding among any either
      named_on n = s ∙ rw (e, ← i.a_is, ne_eqb _ _ n)

pub different_all : (ws : List ℕ) (l : ℕ) → different ws l ≡ Differ ws (elements ws l)
unfolding different
different_all ws l = refl

module _ (ws xs : List ℕ) (l : ℕ) (s : different ws l ≡ Differ ws xs) where
  pub different_end : xs ≡ [] → true ≡ different ws l
  unfolding all distinct both
  different_end e = sym (s ∙ rw e)

  module _ (at rest : ℕ) (vs : List ℕ) (e : xs ≡ at ∷ elements vs rest) (x : Record) (i : IsRecord ws at x) where
    pub another_tag : (x.tag ≡ VA → ⊥) → false ≡ different ws l
    unfolding all bare has both
    another_tag n = sym (s ∙ rw (e, ← i.tag_is, ne_eqb _ _ n))

    module _ (k : x.tag ≡ VA) where
      pub variable-applied : (x.b ≡ NONE → ⊥) → false ≡ different ws l
      unfolding all bare has both
      variable-applied n = sym (s ∙ rw (e, ← i.tag_is, k, ← i.b_is, ne_eqb _ _ n))

      module _ (m : x.b ≡ NONE) (b : Bool) (w : vs ≡ ws) (h : b ≡ Names ws x.a (elements ws rest)) where
        pub different_twice : b ≡ true → false ≡ different ws l
        unfolding all distinct bare has both
        different_twice t = sym (s ∙ rw (e, w, ← i.a_is, ← h, t) (both_no (both (bare ws at) (all (bare ws) (elements ws rest)))))

        pub different_on : b ≡ false → different ws l ≡ Differ ws (elements vs rest)
        unfolding all distinct bare has both
        different_on t = s ∙ rw (e, w, ← i.a_is, ← h, t, ← i.tag_is, k, ← i.b_is, eq-eqb _ _ m)

-- An occurrence

module _ (ws : List ℕ) (r l x y : ℕ) (b : Bool) (e : b ≡ different ws l) where
  pub occurrence_fine : b ≡ true → x ≤ NONE → x ≡ min x (occurrence ws r l)
  unfolding occurrence
  occurrence_fine t h = rw (← e, t, occurrence) (omega arith)

  pub occurrence_offends : b ≡ false → y ≡ min x r → y ≡ min x (occurrence ws r l)
  unfolding occurrence
  occurrence_offends t h = rw (← e, t, occurrence) h
