-- A lambda's binder on the stack: an arrow's domain is pushed, and its result is asked of the body.
use Rattle.std.specs.Prelude.{Some, None}
use Prim.Native.Nat.{ℕ, ◌<◌}
use mathlib.Core.Path.{◌≡◌, refl, sym, ◌∙◌}
use mathlib.Core.List.{List}
use lib.ListN.{length, set}
use Rattle.table.specs.declared.Record.{Record}
use Rattle.table.specs.Reading.{IsRecord}
use Rattle.rules.specs.Words.{AR}
use Rattle.laws.specs.Places.{TypeAt, placed_few, domain_at}
use Rattle.heads.specs.Heads.{Binds}
use Rattle.heads.proofs.Stack.{binders-push}

module _ (ws : List ℕ) (ty : ℕ) (x : Record) (i : IsRecord ws ty x) where
  pub bind_none : (st : List ℕ) (d : ℕ) → (x.tag ≡ AR → ⊥) → Binds ws st d ty st None
  unfolding Binds
  bind_none st d z = (λ e. z (i.tag_is ∙ e), refl)

  module _ (k : x.tag ≡ AR) where
    pub domain_few : TypeAt ws ty → x.a < 4096
    domain_few p = rw i.a_is (placed_few _ ws _ (domain_at ws ty p (sym i.tag_is ∙ k)))

    pub bind_arrow : (st : List ℕ) (d : ℕ) → d < length st → Binds ws st d ty (set st d x.a) (Some x.b)
    unfolding Binds
    bind_arrow st d h = record { arrow = sym i.tag_is ∙ k; pushed = binders-push st d x.a h ∙ rw i.a_is; body_is = i.b_is }
