-- The head that is written is the rule's.
use Rattle.std.specs.Prelude.{Option, ℕ, Some, None, Option, Some, None}
use Prim.Native.Nat.{ℕ, ◌≤◌}
use mathlib.Core.Path.{◌≡◌, refl, sym, ◌∙◌}
use mathlib.Core.Bool.{true, false}
use native.Mathlib.Omega.{arith}
use native.Mathlib.Decide.{ℕ_discrete}
use lib.Dec.{eqb}
use borrow.Author.Tests.{eq-eqb, ne_eqb}
use Rattle.table.specs.declared.Record.{Record}
use Rattle.table.specs.declared.Variable.{Variable}
use Rattle.rules.specs.Words.{NONE, CA, VA, LA, HA}
use Rattle.rules.specs.Map.{Map, place_of}
use Rattle.places.specs.Looking.{found_at}
use Rattle.rewrite.specs.LevelsLaws.{Headed, of_constant, of_variable}
use Rattle.walk.specs.Head.{head_of, is_leaf}

module _ (m : Map) (d : ℕ) (w : Record) where
  head_variable : (s : Option ℕ) → w.tag ≡ VA → place_of m d w.a ≡ s → head_of m d w ≡ s
  unfolding head_of
  head_variable s t p = rw (eq-eqb _ _ t, head_of) p

  module _ (x : Option Variable) (t : w.tag ≡ VA) (p : place_of m d w.a ≡ found_at x) where
    pub head-placed : (v : Variable) → x ≡ Some v → head_of m d w ≡ Some v.0
    head-placed v q = head_variable _ t (p ∙ rw q)

    pub head_lost : x ≡ None → head_of m d w ≡ None
    head_lost q = head_variable _ t (p ∙ rw q)

  pub head_constant : (w.tag ≡ VA → ⊥) → head_of m d w ≡ Some w.a
  unfolding head_of
  head_constant c = rw (ne_eqb _ _ c, head_of)

  module _ (s : Option ℕ) (p : head_of m d w ≡ s) where
    pub head_at : (v : ℕ) → 7 ≤ w.tag → w.tag ≤ 8 → s ≡ Some v → Headed m d w v
    head_at v lo hi q = go (ℕ_discrete w.tag VA)
      where
        go : Dec (w.tag ≡ VA) → Headed m d w v
        go (yes t) = of_variable t (sym (head_variable _ t refl) ∙ p ∙ q)
        go (no c) = let z : Some w.a ≡ Some v = sym (head_constant c) ∙ p ∙ q in of_constant (omega arith) cc

    pub head_nowhere : s ≡ None → (w.tag ≡ VA) × (place_of m d w.a ≡ None)
    head_nowhere q = go (ℕ_discrete w.tag VA)
      where
        go : Dec (w.tag ≡ VA) → (w.tag ≡ VA) × (place_of m d w.a ≡ None)
        go (yes t) = (t, sym (head_variable _ t refl) ∙ p ∙ q)
        go (no c) = let z : Some w.a ≡ None = sym (head_constant c) ∙ p ∙ q in let no : ◌≡◌ {A = ℕ} 0 1 = cc in absurd (omega arith)

  pub head_plain : (v : ℕ) → Headed m d w v → (w.tag ≡ LA → ⊥) × (w.tag ≡ HA → ⊥)
  head_plain v (of_constant t _) = (λ q. omega arith, λ q. omega arith)
  head_plain v (of_variable t _) = (λ q. omega arith, λ q. omega arith)

module _ (w : Record) where
  pub leaf_applied : (w.b ≡ NONE → ⊥) → is_leaf w ≡ eqb w.b NONE
  unfolding is_leaf
  leaf_applied n = rw (ne_eqb _ _ n, is_leaf)

  pub leaf_constant : w.b ≡ NONE → w.tag ≡ CA → is_leaf w ≡ eqb w.tag CA
  unfolding is_leaf
  leaf_constant z t = rw (eq-eqb _ _ z, is_leaf, eq-eqb _ _ t)

  pub leaf_variable : w.b ≡ NONE → (w.tag ≡ CA → ⊥) → is_leaf w ≡ eqb w.tag VA
  unfolding is_leaf
  leaf_variable z t = rw (eq-eqb _ _ z, is_leaf, ne_eqb _ _ t)

  pub leaf_parts : is_leaf w ≡ true → (w.b ≡ NONE) × (7 ≤ w.tag) × (w.tag ≤ 8)
  leaf_parts q = go (ℕ_discrete w.b NONE) (ℕ_discrete w.tag CA) (ℕ_discrete w.tag VA)
    where
      go : Dec (w.b ≡ NONE) → Dec (w.tag ≡ CA) → Dec (w.tag ≡ VA) → (w.b ≡ NONE) × (7 ≤ w.tag) × (w.tag ≤ 8)
      go (yes z) (yes t) c = (z, omega arith, omega arith)
      go (yes z) (no t) (yes c) = (z, omega arith, omega arith)
      go (yes z) (no t) (no c) = let k : false ≡ true = sym (leaf_variable z t ∙ ne_eqb _ _ c) ∙ q in let no : ◌≡◌ {A = ℕ} 0 1 = cc in absurd (omega arith)
      go (no z) t c = let k : false ≡ true = sym (leaf_applied z ∙ ne_eqb _ _ z) ∙ q in let no : ◌≡◌ {A = ℕ} 0 1 = cc in absurd (omega arith)
