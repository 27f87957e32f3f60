-- Show: what is written of a hole reads as the run's filling of it.
use Prim.Native.Nat.{ℕ, zero, suc, ◌+◌, ◌<◌}
use Rattle.std.specs.Prelude.{◌≡◌, List, [], ◌∷◌, Bool, true, false, get_or, eqb}
use Rattle.std.proofs.Math.Path.{refl, sym, ap}
use Rattle.std.proofs.Common.{◌∙◌, arith}
use Rattle.std.proofs.Math.Bool.{not}
use Rattle.std.proofs.Math.Option.{Option, some}
use Rattle.std.proofs.Math.ListN.{length}
use Rattle.rules.specs.Lists.{from, below, enough}
use Rattle.rules.specs.Words.{field_a, NONE, elements}
use Rattle.rules.specs.Store.{Store, solved, solution}
use Rattle.rules.specs.Map.{Map, targets, place_of, to_variables, follow}
use Rattle.rules.specs.Rewrite.{Writer, write_term}
use Rattle.rules.specs.Show.{show_hole, expand_hole, show_term, answer}
use Rattle.trees.specs.Tree.{Ty, Tree, lam, con, var, hol, nil, cons, lift, ren, nth, inst, Holes, Sig, itself, upto}
use Rattle.trees.specs.Moves.{Solutions, SolTyped}
use Rattle.trees.specs.Statements.{Expansion}
use Rattle.trees.specs.Renaming.{ren_id, ren_comp}
use Rattle.trees.specs.Free.{All-map}
use Rattle.trees.specs.Filling.{nth-All, ren-itself}
use Rattle.trees.specs.Typing.{Declared, typed_scoped, typed-holes}
use Rattle.trees.proofs.Leads.{declared_once}
use Rattle.trees.proofs.Expand.{expansion_keeps, expansion_alone}
use Rattle.promise.specs.Reading.{ReadsTys, ty_nil, ty_cons, one, many, Reads, r_lam, r_con, r_var, r_hol, r_nil, r_cons, same_refl, lower, reads_later, listed-arguments, listed-variables, listed-elements}
use Rattle.promise.specs.Outcomes.{Ends, map_ends, unsaid, OnlyFull, Fits}
use Rattle.promise.specs.Writing.{Wrote, occurrence_ends}
use Rattle.promise.specs.Maps.{option_at, place, place-variables}
use Rattle.promise.specs.Following.{follow_after, follow_total}
use Rattle.promise.specs.Rewriting.{form_lam, form_con, form_var, form_hol, Placed, placed_lam, Each, each_nil, each_cons, all-written, lam_written, con_written, var_written}
use Rattle.promise.specs.State.{Holds, solved_some, solved_none, declared_low}

wrote_as : {R : ℕ} {t u : Tree} {s s₁ : Store} {r : ℕ} → u ≡ t → Wrote R t s s₁ r → Wrote R u s s₁ r
wrote_as e w = rw e w

-- context variables in order
from-upto : (i n : ℕ) → from i n ≡ upto i n
unfolding from
from-upto i zero = refl
from-upto i (suc n) = let e : i + 1 ≡ suc i = omega arith in ap (i ∷◌) (ap (λ k. from k n) e ∙ from-upto (suc i) n)

pub length_from : (i n : ℕ) → length (from i n) ≡ n
unfolding from
length_from i zero = refl
length_from i (suc n) = ap suc (length_from (i + 1) n)

pub nth-from : (i n j : ℕ) → j < n → nth (from i n) j ≡ i + j
unfolding from
nth-from i zero j h = absurd (omega arith)
nth-from i (suc n) zero h = omega arith
nth-from i (suc n) (suc j) h = omega (arith, nth-from (i + 1) n j (omega arith))

targets_are : (i : ℕ) (xs : List ℕ) → targets (to_variables i xs) ≡ xs
unfolding to_variables
targets_are i [] = refl
targets_are i (x ∷ xs) = ap (x ∷◌) (targets_are (i + 1) xs)

context-length : {ws : List ℕ} {n : ℕ} {xs : List ℕ} {C : List Ty} → ReadsTys ws n xs C → length xs ≡ length C
context-length ty_nil = refl
context-length (ty_cons d r) = ap suc (context-length r)

-- the table T, whose holes are D, whose solutions are σ, expanded to F; the output has O records
module _ (S : ℕ → Option Ty) (R O : ℕ) (T : Store) (D : Sig) (σ : Solutions) (i : Holds R T D σ) (g : SolTyped S D σ) (F : ℕ → Tree) (x : Expansion D σ F) where
  -- a writer that shows: the store holds output words and the table's solutions
  abbrev Shows : Writer → Type 0
  Shows write = (m : Map) (d r : ℕ) (s : Store) (f : ℕ → ℕ) (t : Tree) → Fits O s → s.solutions ≡ T.solutions → Reads T.words T.used (one r) t
      → Holes (Declared D) t → Placed m d f t → Ends (Wrote O (ren f (inst F t)) s) OnlyFull (write m d r s)

  each-shown : (write : Writer) → Shows write → (m : Map) (d : ℕ) (f : ℕ → ℕ) {xs : List ℕ} (s : Store) (a : Tree) → s.solutions ≡ T.solutions
      → Reads T.words T.used (many xs) a → Holes (Declared D) a → Placed m d f a → Each O write m d s xs (ren f (inst F a))
  each-shown write c m d f s nil e r_nil n p = each_nil
  each-shown write c m d f s (cons t a) e (r_cons {x = y} q r) n p =
      each_cons (λ s₁ h. c m d y s₁ f t h.grew.fits (h.grew.answers ∙ e) q n.0 p.0) (each-shown write c m d f s a e r n.1 p.1)
  each-shown write c m d f s (lam _) e q n p = elim q [ ]
  each-shown write c m d f s (con _ _) e q n p = elim q [ ]
  each-shown write c m d f s (var _ _) e q n p = elim q [ ]
  each-shown write c m d f s (hol _ _) e q n p = elim q [ ]

  -- a hole under a map that gives its context's variables places: what fills it, so renamed
  hole_shown : (write : Writer) → Shows write → (h : ℕ) (C : List Ty) (b : ℕ) (m : Map) (f : ℕ → ℕ) (s : Store) → Fits O s → s.solutions ≡ T.solutions → D h ≡ some (C, b)
      → ((j : ℕ) → j < length C → place m 0 j ≡ some (f j)) → hol h (targets m) ≡ ren f (itself (length C) h)
      → Ends (Wrote O (ren f (F h)) s) OnlyFull (show_hole write O h m s)
  unfolding show_hole solved solution
  hole_shown write c h C b m f s k e d p q = go (solved T h) refl
    where
      same : {b : Bool} → solved T h ≡ b → not (eqb (get_or s.solutions h NONE) NONE) ≡ b
      same z = ap (λ ss. not (eqb (get_or ss h NONE) NONE)) e ∙ z

      go : (b : Bool) → solved T h ≡ b → Ends (Wrote O (ren f (F h)) s) OnlyFull (show_hole write O h m s)
      go true z =
          let u = solved_some i h (declared_low i h (C, b) d) z in
          let w = g h u.0 u.1 in
          let v = declared_once (sym w.2 ∙ d) in
          rw (same z, show_hole, ap (λ ss. get_or ss h NONE) e, expansion_keeps D σ F x h u.0 u.1)
          (c m 0 (solution T h) s f u.0 k e u.2 (typed-holes S D w.3) (All-map p u.0 (rw (ap length v.0) at (typed_scoped S D w.3))))
      go false z =
          rw (same z, show_hole, expansion_alone D σ F x h (C, b) (solved_none i h z) d)
          (map_ends (λ _ y. y) (λ s₁ r. wrote_as (sym q)) (occurrence_ends O h (targets m) s k))

  pub show_ends : (n : ℕ) → Shows (show_term n O T.words)
  unfolding show_term write_term expand_hole
  show_ends zero m d r s f t k e q n p = unsaid
  show_ends (suc j) m d r s f (lam t) k e (r_lam {a = a} h y z q) n p =
      rw (form_lam T.words r y, write_term, z) (lam_written O (show_ends j m (d + 1) a s (lift f) t k e (reads_later same_refl (lower h) q) n (placed_lam m d f t p)))
  show_ends (suc j) m d r s f (con c a) k e (r_con {xs = xs} h y z w l q) n p =
      rw (form_con T.words r y, write_term, z, listed-arguments r w l)
      (con_written O c (all-written O _ m d xs s k (each-shown _ (show_ends j) m d f s a e (reads_later same_refl (lower h) q) n p)))
  show_ends (suc j) m d r s f (var v a) k e (r_var {xs = xs} h y z w l q) n p =
      rw (form_var T.words r y, write_term, z, option_at (place_of m d v) (f v) p.0, listed-arguments r w l)
      (var_written O (f v) (all-written O _ m d xs s k (each-shown _ (show_ends j) m d f s a e (reads_later same_refl (lower h) q) n p.1)))
  show_ends (suc j) m d r s f (hol v ys) k e (r_hol h y z w l q) (C, b, o, len, dis) p =
      rw (form_hol T.words r y, write_term, z, listed-variables r w l q)
      (map_ends (λ _ u. u) (λ s₁ r₁. wrote_as (ren_comp f (nth ys) (F v)))
      (hole_shown _ (show_ends j) v C b (follow m d 0 ys) (λ u. f (nth ys u)) s k e o
      (λ u c. follow_after m d ys u (omega arith) ∙ nth-All (λ u. place m d u ≡ some (f u)) ys p u (omega arith))
      (ap (hol v) (follow_total m d f 0 ys p) ∙ ap (ren f) (sym (ren-itself v ys)) ∙ ren_comp f (nth ys) (itself (length ys) v) ∙ ap (λ u. ren (λ w. f (nth ys w)) (itself u v)) len)))
  show_ends (suc j) m d r s f nil k e q n p = elim q [ ]
  show_ends (suc j) m d r s f (cons _ _) k e q n p = elim q [ ]

  -- the answer of hole h, over its context variables in order
  pub answer_ends : (h : ℕ) (C : List Ty) (b : ℕ) (s : Store) → D h ≡ some (C, b) → Fits O s → s.solutions ≡ T.solutions
      → Ends (Wrote O (F h) s) OnlyFull (answer O T.words h s)
  unfolding answer below
  answer_ends h C b s d k e =
      rw els
      (map_ends (λ _ u. u) (λ s₁ r. wrote_as (sym (ren_id (F h))))
      (hole_shown _ (show_ends enough) h C b (to_variables 0 (from 0 (length C))) (λ j. j) s k e d
      (λ j l.
      let n : j < length (from 0 (length C)) = omega (arith, length_from 0 (length C)) in
      place-variables (from 0 (length C)) j n ∙ ap some (omega (arith, nth-from 0 (length C) j l)))
      (ap (hol h) (targets_are 0 (from 0 (length C)) ∙ from-upto 0 (length C)) ∙ sym (ren_id (itself (length C) h)))))
    where
      els : length (elements T.words (field_a T.words h)) ≡ length C
      els = let a = i.declared h C b d in ap (λ l. length (elements T.words l)) a.first ∙ ap length (listed-elements a.listed) ∙ context-length a.context
