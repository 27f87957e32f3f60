-- A hole's argument that is a bare variable of exactly the type asked.
use Rattle.std.specs.Prelude.{Option, ℕ, Some, None}
use Prim.Native.Nat.{ℕ}
use mathlib.Core.Path.{◌≡◌, sym, ◌∙◌}
use mathlib.Core.List.{List}
use mathlib.Core.Bool.{Bool, false}
use mathlib.Core.Logic.{◌⊎◌, inl, inr}
use Rattle.std.specs.Option.{option_eq}
use borrow.Author.Tests.{eq-eqb, ne_eqb, lt-ltb, le-ltb}
use lib.Dec.{eqb}
use Rattle.table.specs.declared.Record.{Record}
use Rattle.table.specs.Reading.{IsRecord}
use Rattle.rules.specs.Lists.{both}
use Rattle.rules.specs.Words.{NONE, VA, has, bare}
use Rattle.heads.specs.Stack.{type_of}
use Rattle.heads.specs.Heads.{named}
use Rattle.heads.specs.HeadsLaws.{type_found, type_missing}

module _ (ws ctx : List ℕ) (x t : ℕ) (y : Record) (i : IsRecord ws x y) where
  pub named_other : (y.tag ≡ VA → ⊥) ⊎ ((y.tag ≡ VA) × (y.b ≡ NONE → ⊥)) → false ≡ named ws ctx x t
  unfolding named bare has both
  named_other (inl z) = rw (← i.tag_is, ne_eqb _ _ z)
  named_other (inr z) = rw (← i.tag_is, z.0, ← i.b_is, ne_eqb _ _ z.1)

  module _ (k : y.tag ≡ VA) (b : y.b ≡ NONE) where
    named-free : type_of ctx y.a ≡ None → false ≡ named ws ctx x t
    unfolding named bare has both
    named-free n = rw (← i.tag_is, k, ← i.b_is, eq-eqb _ _ b, ← i.a_is, le-ltb _ _ (type_missing ctx y.a n))

    named_bound : (u : ℕ) → type_of ctx y.a ≡ Some u → eqb u t ≡ named ws ctx x t
    unfolding named bare has both
    named_bound u n = let q = type_found ctx y.a u n in rw (← i.tag_is, k, ← i.b_is, eq-eqb _ _ b, ← i.a_is, lt-ltb _ _ q.0, q.1)

    pub named_type : (f : Option ℕ) (same : Bool) → f ≡ type_of ctx y.a → same ≡ option_eq eqb f (Some t) → same ≡ named ws ctx x t
    named_type None same e s = s ∙ named-free (sym e)
    named_type (Some u) same e s = s ∙ named_bound u (sym e)
