-- Showing writes no word past the output's records, also where it fails.
use Prim.Native.Nat.{ℕ, zero, suc, ◌+◌}
use Rattle.std.specs.Prelude.{◌≡◌, Bool, Option, ℕ, Some, None}
use Rattle.std.proofs.Math.Path.{refl}
use mathlib.Core.List.{List, [], ◌∷◌}
use Rattle.std.proofs.Math.Bool.{true, false}
use Rattle.std.proofs.Common.{arith, ltb-true}
use Rattle.std.proofs.Math.Dec.{ltb}
use Rattle.rules.specs.Words.{NONE, Form, lambda, constant, variable, hole, form, field_a, arguments, variables, CE, LA, CA, VA, HA}
use Rattle.rules.specs.Store.{Store, Out, goes, fails, spent, fail, ◌>>=◌, push, push_variables, push_occurrence, solved, solution}
use Rattle.rules.specs.Map.{Map, targets, place_of, follow}
use Rattle.rules.specs.Rewrite.{Writer, write_all, write_term}
use Rattle.rules.specs.Show.{show_hole, expand_hole, show_term, answer}
use Rattle.invariants.specs.Floor.{Outside}
use Rattle.invariants.specs.Outside.{outside_refl, outside_trans, put-outside}

-- words left in an output of O records
abbrev pub Leaves : {A : Type 0} → ℕ → Store → Out A → Type 0
Leaves O s (goes s₁ x) = Outside O 0 s s₁.words s₁.solutions
Leaves O s (fails ws ss e) = Outside O 0 s ws ss
Leaves O s spent = Unit {0}

bind_leaves : {A B : Type 0} (O : ℕ) (s : Store) (o : Out A) (k : Store × A → Out B) → Leaves O s o → ((s₁ : Store) (x : A) → Leaves O s₁ (k (s₁, x))) → Leaves O s (o >>= k)
unfolding ◌>>=◌
bind_leaves {B = B} O s (goes s₁ x) k h g = after (k (s₁, x)) (g s₁ x)
  where
    after : (o : Out B) → Leaves O s₁ o → Leaves O s o
    after (goes s₂ y) q = outside_trans O 0 s s₁ s₂.words s₂.solutions h q
    after (fails ws ss e) q = outside_trans O 0 s s₁ ws ss h q
    after spent q = tt
bind_leaves {B = B} O s (fails ws ss e) k h g = h
bind_leaves {B = B} O s spent k h g = tt

module _ (O : ℕ) where
  push-leaves : (t a b : ℕ) (s : Store) → Leaves O s (push O t a b s)
  unfolding push fail
  push-leaves t a b s = go (ltb s.used O) refl
    where
      go : (x : Bool) → ltb s.used O ≡ x → Leaves O s (push O t a b s)
      go true e = rw (e, push) (put-outside O 0 s t a b (omega arith) (ltb-true _ _ e))
      go false e = rw (e, push) (outside_refl O 0 s)

  variables_leave : (vs : List ℕ) (s : Store) → Leaves O s (push_variables O vs s)
  unfolding push_variables
  variables_leave [] s = outside_refl O 0 s
  variables_leave (v ∷ vs) s =
      bind_leaves O s (push O VA v NONE s) _ (push-leaves VA v NONE s) λ s₁ x.
      bind_leaves O s₁ (push_variables O vs s₁) _ (variables_leave vs s₁) λ s₂ y. push-leaves CE x y s₂

  occurrence-leaves : (h : ℕ) (vs : List ℕ) (s : Store) → Leaves O s (push_occurrence O h vs s)
  unfolding push_occurrence
  occurrence-leaves h vs s = bind_leaves O s (push_variables O vs s) _ (variables_leave vs s) λ s₁ x. push-leaves HA h x s₁

  -- a writer that does so
  abbrev Leaving : Writer → Type 0
  Leaving w = (m : Map) (d r : ℕ) (s : Store) → Leaves O s (w m d r s)

  module _ (w : Writer) (leaving : Leaving w) where
    all_leave : (m : Map) (d : ℕ) (xs : List ℕ) (s : Store) → Leaves O s (write_all w O m d xs s)
    unfolding write_all
    all_leave m d [] s = outside_refl O 0 s
    all_leave m d (x ∷ xs) s =
        bind_leaves O s (w m d x s) _ (leaving m d x s) λ s₁ y.
        bind_leaves O s₁ (write_all w O m d xs s₁) _ (all_leave m d xs s₁) λ s₂ ys. push-leaves CE y ys s₂

    hole_leaves : (h : ℕ) (m : Map) (s : Store) → Leaves O s (show_hole w O h m s)
    unfolding show_hole
    hole_leaves h m s = go (solved s h) refl
      where
        go : (x : Bool) → solved s h ≡ x → Leaves O s (show_hole w O h m s)
        go true e = rw (e, show_hole) (leaving m 0 (solution s h) s)
        go false e = rw (e, show_hole) (occurrence-leaves h (targets m) s)

    term_leaves : (ws : List ℕ) → Leaving (write_term (expand_hole w O ws) w O ws)
    unfolding write_term fail expand_hole
    term_leaves ws m d r s = go (form ws r) refl (place_of m d (field_a ws r)) refl
      where
        headed : (t a : ℕ) → Leaves O s (write_all w O m d (arguments ws r) s >>= (λ q. push O t a q.1 q.0))
        headed t a = bind_leaves O s (write_all w O m d (arguments ws r) s) _ (all_leave m d (arguments ws r) s) λ s₁ x. push-leaves t a x s₁

        go : (f : Form) → form ws r ≡ f → (p : Option ℕ) → place_of m d (field_a ws r) ≡ p → Leaves O s (write_term (expand_hole w O ws) w O ws m d r s)
        go lambda e p q = rw (e, write_term) (bind_leaves O s (w m (d + 1) (field_a ws r) s) _ (leaving m (d + 1) (field_a ws r) s) λ s₁ x. push-leaves LA x 0 s₁)
        go constant e p q = rw (e, write_term) (headed CA (field_a ws r))
        go variable e None q = rw (e, write_term, q) (outside_refl O 0 s)
        go variable e (Some v) q = rw (e, write_term, q) (headed VA v)
        go hole e p q = rw (e, write_term) (hole_leaves (field_a ws r) (follow m d 0 (variables ws r)) s)

  show-leaves : (f : ℕ) (ws : List ℕ) → Leaving (show_term f O ws)
  unfolding show_term
  show-leaves zero ws m d r s = tt
  show-leaves (suc f) ws m d r s = term_leaves (λ m' d' r' s'. show_term f O ws m' d' r' s') (λ m' d' r' s'. show-leaves f ws m' d' r' s') ws m d r s

  pub answer-leaves : (ws : List ℕ) (h : ℕ) (s : Store) → Leaves O s (answer O ws h s)
  unfolding answer
  answer-leaves ws h s = hole_leaves (λ m d r s'. show_term _ O ws m d r s') (λ m d r s'. show-leaves _ ws m d r s') h _ s
