-- The big-step rules of showing.
use Prim.Native.Nat.{ℕ, suc, ◌<◌}
use mathlib.Core.Path.{◌≡◌, refl, sym}
use mathlib.Core.List.{List}
use mathlib.Core.Bool.{false}
use native.Mathlib.Omega.{arith}
use lib.ListN.{get_or}
use borrow.Author.Tests.{ne_eqb}
use Rattle.std.specs.Prelude.{Option, None}
use Rattle.store.specs.Solutions.{solution_in}
use Rattle.store.specs.SolutionsLaws.{word_none}
use Rattle.table.specs.declared.Record.{Record}
use Rattle.table.specs.Reading.{IsRecord}
use Rattle.places.specs.declared.Map.{Map}
use Rattle.rules.specs.Words.{NONE, tag, field_b, arguments, variables, HA}
use Rattle.rules.specs.Store.{Out, push, push_occurrence, solved, solution}
use Rattle.rules.specs.Map.{follow}
use Rattle.rules.specs.Show.{show_hole, expand_hole, show_term}
use Rattle.invariants.specs.Rise.{reach}
use Rattle.store.specs.Said.{Answer, store, Does}
use Rattle.places.specs.Maps.{map_of, side}
use Rattle.places.specs.Lists.{vars_of}
use Rattle.places.specs.Follow.{Followed}
use Rattle.rewrite.specs.LevelsLaws.{Headed}
use Rattle.rewrite.specs.Writes.{Gives as Written}
use Rattle.rewrite.specs.WritesLaws.{Unrolls, writes_hole, writes_leaf}
use Rattle.show.specs.Shows.{ShowsTerm, ShowsHole}

pub unrolls : (O : ℕ) (ws : List ℕ) → Unrolls (λ f. show_term f O ws) (λ f. expand_hole (show_term f O ws) O ws) (λ _. ws) O
unfolding show_term
unrolls O ws = record { level = λ f m d r s. refl }

-- with fuel enough, a term is shown as this
abbrev pub Gives : ℕ → Map → List ℕ → List ℕ → List ℕ → ℕ → ℕ → ℕ → ℕ → Out ℕ → Type 0
Gives O m ws ss os used F d r o = Written (λ f. show_term f O ws) 4096 F (map_of false m) d r (store os ss used) o

module _ (O : ℕ) (m : Map) (ws ss os : List ℕ) (used F d r : ℕ) (w : Record) (e : IsRecord ws r w) where
  pub show_leaf : (v : ℕ) (os₁ : List ℕ) (x : Answer) → Headed (map_of false m) d w v → w.b ≡ NONE → Does 0 (push O w.tag v NONE) os used os₁ x → ShowsTerm O m ws ss os used F d r os₁ x
  show_leaf = writes_leaf (unrolls O ws) 4096 0 F (map_of false m) d r os ss used w e

  pub show-occurrence : (next : Map) (G : ℕ) (os₁ : List ℕ) (x : Answer) → tag ws r ≡ HA → Followed ws false m d w.b next → reach 4096 G 4097 < reach 4096 F (suc r)
      → ShowsHole O next ws ss os used G w.a os₁ x → ShowsTerm O m ws ss os used F d r os₁ x
  unfolding expand_hole variables arguments
  show-occurrence next G os₁ x t f lt h =
      let f₁ : follow (map_of false m) d 0 (vars_of ws (field_b ws r)) ≡ map_of false next = rw (← e.b_is) (sym f.run) in
      writes_hole (unrolls O ws) 4096 0 F (map_of false m) d r os ss used os₁ ss x t h.grown λ k hk. rw (f₁, ← e.a_is) (h.run k (omega arith))

-- a hole
module _ (O : ℕ) (m : Map) (ws ss os : List ℕ) (used G h : ℕ) where
  pub hole_written : (o : Option ℕ) → solution_in ss h ≡ o → (os₁ : List ℕ) (x : Answer) → o ≡ None → Does 0 (push_occurrence O h (side false (map_of false m))) os used os₁ x → ShowsHole O m ws ss os used G h os₁ x
  unfolding show_hole solved side
  hole_written o is os₁ x z p = let n = word_none (get_or ss h NONE) o is z in record { run = λ f hf. rw (n, show_hole) (p.run ss); grown = p.grown }

  pub hole_expanded : (t : ℕ) → get_or ss h NONE ≡ t → (os₁ : List ℕ) (x : Answer) → (t ≡ NONE → ⊥) → reach 4096 G (suc t) < reach 4096 G 4097 → ShowsTerm O m ws ss os used G 0 t os₁ x → ShowsHole O m ws ss os used G h os₁ x
  unfolding show_hole solved solution
  hole_expanded t st os₁ x z lt p = record { run = λ f hf. rw (st, show_hole, ne_eqb _ _ z, st) (p.run f (omega arith)); grown = p.grown }
