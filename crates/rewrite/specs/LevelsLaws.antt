-- One level of a term written anew, by the record read, whatever words it is written to.
use Rattle.std.specs.Prelude.{ℕ, zero, suc, ◌+◌, ◌<◌, ◌≤◌, ◌≡◌, refl, List, Some, None}
use Rattle.std.proofs.Common.{sym, ap, ◌∙◌, arith}
use Rattle.rules.specs.declared.Failure.TheVariants.{Escape}
use Rattle.table.specs.declared.Record.{Record}
use Rattle.table.specs.Reading.{IsRecord}
use Rattle.rules.specs.Words.{NONE, tag, field_a, elements, arguments, LA, CA, VA, HA}
use Rattle.rules.specs.Store.{Store, fail, push, ◌>>=◌}
use Rattle.rules.specs.Map.{Map, place_of}
use Rattle.rules.specs.Rewrite.{Writer, write_all, write_term}
use Rattle.laws.specs.Lists.{elements_none}
use Rattle.invariants.specs.Forms.{form_6, form_7, form_8, form_9}
use Rattle.store.specs.Said.{over, under}

-- fuel above a measure: one less is left below
pub fuel : (n s : ℕ) → s < n → (k : ℕ) × (n ≡ suc k) × (s ≤ k)
fuel zero s h = absurd (omega arith)
fuel (suc k) s h = (k, refl, omega arith)

-- the number of a rigid head: a constant's own, a variable's place
pub data Headed (m : Map) (d : ℕ) (w : Record) (v : ℕ) : Type 0 where
  of_constant : w.tag ≡ CA → w.a ≡ v → Headed m d w v
  of_variable : w.tag ≡ VA → place_of m d w.a ≡ Some v → Headed m d w v

pub head-named : (m : Map) (d : ℕ) (w : Record) (v x : ℕ) → w.tag ≡ VA → place_of m d w.a ≡ Some v → x ≡ v → Headed m d w x
head-named m d w v x t p q = of_variable t (p ∙ ap Some (sym q))

module _ (on_hole write : Writer) (R : ℕ) (ws : List ℕ) (m : Map) (d r : ℕ) (s : Store) (w : Record) (is : IsRecord ws r w) where
  pub level_lambda : w.tag ≡ LA → write_term on_hole write R ws m d r s ≡ (write m (d + 1) w.a s >>= under R LA 0)
  unfolding write_term
  level_lambda t = rw (form_6 ws r (sym is.tag_is ∙ t), write_term, is.a_is)

  pub level_rigid : (v : ℕ) → Headed m d w v → write_term on_hole write R ws m d r s ≡ (write_all write R m d (elements ws w.b) s >>= over R w.tag v)
  unfolding write_term arguments
  level_rigid v (of_constant t e) = rw (form_7 ws r (sym is.tag_is ∙ t), write_term, ← e, is.a_is, is.b_is, t)
  level_rigid v (of_variable t e) =
      let p : place_of m d (field_a ws r) ≡ Some v = rw (← is.a_is) e in
      rw (form_8 ws r (sym is.tag_is ∙ t), write_term, p, is.b_is, t)

  -- without arguments
  pub level_leaf : (v : ℕ) → Headed m d w v → w.b ≡ NONE → write_term on_hole write R ws m d r s ≡ push R w.tag v NONE s
  unfolding write_all ◌>>=◌
  level_leaf v h e = level_rigid v h ∙ rw (elements_none ws w.b e)

  pub level_escape : w.tag ≡ VA → place_of m d w.a ≡ None → write_term on_hole write R ws m d r s ≡ fail Escape s
  unfolding write_term
  level_escape t p =
      let p₁ : place_of m d (field_a ws r) ≡ None = rw (← is.a_is) p in
      rw (form_8 ws r (sym is.tag_is ∙ t), write_term, p₁)

pub level_hole : (on_hole write : Writer) (R : ℕ) (ws : List ℕ) (m : Map) (d r : ℕ) (s : Store) → tag ws r ≡ HA → write_term on_hole write R ws m d r s ≡ on_hole m d r s
unfolding write_term
level_hole on_hole write R ws m d r s t = rw (form_9 ws r t, write_term)
