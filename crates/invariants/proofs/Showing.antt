-- Showing an answer leaves the solutions alone, writes an output of terms, and its fuel suffices.
use Prim.Native.Nat.{ℕ, zero, suc, ◌+◌, ◌<◌, ◌≤◌}
use Rattle.std.specs.Prelude.{◌≡◌, Option, ℕ, Some, None}
use Rattle.std.proofs.Math.Path.{refl, ap}
use Rattle.std.proofs.Common.{sym, ◌∙◌, le_refl, eq-eqb, ne_eqb}
use mathlib.Core.List.{List, [], ◌∷◌}
use native.Mathlib.Omega.{arith}
use Rattle.std.proofs.Math.Decide.{ℕ_discrete}
use Rattle.std.proofs.Math.ListN.{get_or}
use Rattle.rules.specs.Lists.{enough}
use Rattle.rules.specs.Words.{NONE, tag, field_a, field_b, elements, arguments, variables, CA, VA, LA, HA}
use Rattle.rules.specs.Store.{Store, fail, ◌>>=◌, push, solved, solution}
use Rattle.rules.specs.Map.{Map, targets, place_of, follow}
use Rattle.rules.specs.Rewrite.{Writer, write_all, write_term}
use Rattle.rules.specs.Show.{show_hole, expand_hole, show_term, answer}
use Rattle.invariants.specs.Forms.{form_6, form_7, form_8, form_9}
use Rattle.invariants.specs.Floor.{Sub, All, Rule, Fine}
use Rattle.invariants.specs.Grow.{all_map, sub_less}
use Rattle.invariants.specs.Push.{ext_refl}
use Rattle.invariants.specs.Copy.{Nobody}
use Rattle.invariants.specs.Rise.{reach, raised, rises}
use Rattle.invariants.specs.Output.{plain, Outputs, Writes, ARoot, AList, bind_writes, push_lambda, push-applied, none_list, then_element, occurrence_writes}

-- a table t that is fine, shown in an output of O records
module _ (R n O : ℕ) (home : ℕ → ℕ) (t : Store) (fine : Fine R n home t) where
  -- with so much fuel a term under floor F is shown
  abbrev Shows : ℕ → Writer → Type 0
  Shows f w =
      (F : ℕ) (m : Map) (d r : ℕ) (s : Store) → Outputs O s → s.solutions ≡ t.solutions → Sub t.words home F t.used r → reach R F (suc r) ≤ f → Writes O t.solutions (ARoot s.used) s (w m d r s)

  all-write : (f F : ℕ) (w : Writer) → Shows f w → (m : Map) (d r : ℕ) (xs : List ℕ) (s : Store) → Outputs O s → s.solutions ≡ t.solutions → reach R F (suc r) ≤ suc f → r ≤ t.used
      → All (Sub t.words home F r) xs → Writes O t.solutions (AList s.used) s (write_all w O m d xs s)
  unfolding write_all
  all-write f F w shows m d r [] s o h fuel le p = record { ext = ext_refl Nobody plain s; outputs = o; sols = h; root = none_list s }
  all-write f F w shows m d r (x ∷ xs) s o h fuel le p =
      bind_writes O t.solutions (ARoot s.used) (AList s.used) s (w m d x s) _ (shows F m d x s o h (sub_less t.words home F F r t.used x p.0 (le_refl _) le) (omega arith)) λ s₁ y e₁ o₁ h₁ p₁.
      bind_writes O t.solutions (AList s₁.used) (AList s.used) s₁ (write_all w O m d xs s₁) _ (all-write f F w shows m d r xs s₁ o₁ h₁ fuel le p.1) λ s₂ ys e₂ o₂ h₂ p₂.
      then_element O t.solutions s.used s₁ y s₂ ys o₁ o₂ h₂ e₂ p₁ p₂

  -- a hole whose solution, if it has one, stands above a floor
  hole_writes : (f : ℕ) (w : Writer) → Shows f w → (h : ℕ) (m : Map) (s : Store) → Outputs O s → s.solutions ≡ t.solutions
      → ((get_or t.solutions h NONE ≡ NONE → ⊥) → (G : ℕ) × Sub t.words home G t.used (get_or t.solutions h NONE) × (reach R G (suc (get_or t.solutions h NONE)) ≤ f))
      → Writes O t.solutions (ARoot s.used) s (show_hole w O h m s)
  unfolding show_hole solved solution
  hole_writes f w shows h m s o e on = go (ℕ_discrete (get_or t.solutions h NONE) NONE)
    where
      same : get_or s.solutions h NONE ≡ get_or t.solutions h NONE
      same = ap (λ (ss : List ℕ). get_or ss h NONE) e

      go : Dec (get_or t.solutions h NONE ≡ NONE) → Writes O t.solutions (ARoot s.used) s (show_hole w O h m s)
      go (yes c) = rw (show_hole, eq-eqb _ _ (same ∙ c)) (occurrence_writes O t.solutions h (targets m) s o e)
      go (no c) =
          let i = on c in
          let ne : get_or s.solutions h NONE ≡ NONE → ⊥ = λ z. c (sym same ∙ z) in
          rw (show_hole, ne_eqb _ _ ne, same) (shows i.0 m 0 (get_or t.solutions h NONE) s o e i.1 i.2)

  term_writes : (f F : ℕ) (w : Writer) → Shows f w → (m : Map) (d r : ℕ) (s : Store) → Outputs O s → s.solutions ≡ t.solutions → Sub t.words home F t.used r → reach R F (suc r) ≤ suc f
      → Writes O t.solutions (ARoot s.used) s (write_term (expand_hole w O t.words) w O t.words m d r s)
  unfolding write_term arguments fail expand_hole
  term_writes f F w shows m d r s o e sub fuel = go (ℕ_discrete (tag t.words r) LA) (ℕ_discrete (tag t.words r) CA) (ℕ_discrete (tag t.words r) VA) (place_of m d (field_a t.words r)) refl
    where
      rule : Rule t.words home r
      rule = fine.good r sub.below

      headed : (k a : ℕ) → 7 ≤ k → k ≤ 9 → 7 ≤ tag t.words r → Writes O t.solutions (ARoot s.used) s (write_all w O m d (elements t.words (field_b t.words r)) s >>= (λ q. push O k a q.1 q.0))
      headed k a lk kh lo =
          let up = sub.up in
          bind_writes O t.solutions (AList s.used) (ARoot s.used) s (write_all w O m d (elements t.words (field_b t.words r)) s) _
          (all-write f F w shows m d r (elements t.words (field_b t.words r)) s o e fuel (omega arith)
          (all_map (Sub t.words home (home r) r) (Sub t.words home F r) (λ x p. sub_less t.words home (home r) F r r x p up (le_refl _)) (elements t.words (field_b t.words r)) (rule.app lo sub.term.high).all))
          λ s₁ x e₁ o₁ h₁ p₁. push-applied O t.solutions s₁ o₁ h₁ s.used k a x lk kh p₁

      go : Dec (tag t.words r ≡ LA) → Dec (tag t.words r ≡ CA) → Dec (tag t.words r ≡ VA) → (p : Option ℕ) → place_of m d (field_a t.words r) ≡ p
          → Writes O t.solutions (ARoot s.used) s (write_term (expand_hole w O t.words) w O t.words m d r s)
      go (yes i) c j p q =
          let b = rule.lam i in
          rw (form_6 _ _ i, write_term)
          (bind_writes O t.solutions (ARoot s.used) (ARoot s.used) s (w m (d + 1) (field_a t.words r) s) _
          (shows F m (d + 1) (field_a t.words r) s o e (sub_less t.words home (home r) F r t.used (field_a t.words r) b sub.up (omega arith)) (omega arith))
          λ s₁ x e₁ o₁ h₁ p₁. push_lambda O t.solutions s₁ o₁ h₁ s.used x p₁)
      go (no i) (yes c) j p q = rw (form_7 _ _ c, write_term) (headed CA (field_a t.words r) (omega arith) (omega arith) (omega arith))
      go (no i) (no c) (yes j) None q = rw (form_8 _ _ j, write_term, q) tt
      go (no i) (no c) (yes j) (Some v) q = rw (form_8 _ _ j, write_term, q) (headed VA v (omega arith) (omega arith) (omega arith))
      go (no i) (no c) (no j) p q =
          let z : tag t.words r ≡ HA = omega arith in
          rw (form_9 _ _ z, write_term)
          (hole_writes f w shows (field_a t.words r) (follow m d 0 (variables t.words r)) s o e (λ ne.
          let ri = rises R n home t F r fine sub.below z sub.up ne in
          (raised n F r, ri.sub, omega arith)))

  show_writes : (f : ℕ) → Shows f (show_term f O t.words)
  unfolding show_term
  show_writes zero F m d r s o e sub fuel = absurd (omega arith)
  show_writes (suc f) F m d r s o e sub fuel = term_writes f F (λ m' d' r' s'. show_term f O t.words m' d' r' s') (λ F' m' d' r' s'. show_writes f F' m' d' r' s') m d r s o e sub fuel

  -- the answer of a hole of a fine table
  pub answer_writes : (h : ℕ) (s : Store) → h < R → Outputs O s → s.solutions ≡ t.solutions → Writes O t.solutions (ARoot s.used) s (answer O t.words h s)
  unfolding answer
  answer_writes h s lt o e =
      hole_writes enough (λ m d r s'. show_term enough O t.words m d r s') (λ F m d r s'. show_writes enough F m d r s') h _ s o e λ ne.
      let so = fine.sols h lt ne in
      let b = so.below in
      (0, record { below = b; term = so.term; up = omega arith }, omega arith)
