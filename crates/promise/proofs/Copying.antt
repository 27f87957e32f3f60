-- Copying: a copy reads as the renamed tree, and nothing else changes.
use Prim.Native.Nat.{ℕ, zero, suc, ◌+◌}
use Rattle.std.specs.Prelude.{List, map, length}
use Rattle.rules.specs.Lists.{enough}
use Rattle.rules.specs.Store.{Store}
use Rattle.rules.specs.Map.{Map, place_of, to_variables}
use Rattle.rules.specs.Rewrite.{Writer, write_term, keep_hole, copy}
use Rattle.trees.specs.Tree.{Tree, lam, con, var, hol, nil, cons, lift, ren, nth}
use Rattle.trees.specs.Free.{All-map, Scoped}
use Rattle.promise.specs.Reading.{one, many, Reads, r_lam, r_con, r_var, r_hol, r_nil, r_cons, same_refl, lower, reads_later, listed-arguments, listed-variables}
use Rattle.promise.specs.Outcomes.{Ends, unsaid, OnlyFull, Fits}
use Rattle.promise.specs.Writing.{Wrote, occurrence_ends}
use Rattle.promise.specs.Maps.{option_at, place-variables}
use Rattle.promise.specs.Following.{follow_total}
use Rattle.promise.specs.Rewriting.{form_lam, form_con, form_var, form_hol, Placed, placed_lam, Each, each_nil, each_cons, all-written, lam_written, con_written, var_written}
use Rattle.promise.specs.Copying.{Copies}

module _ (R : ℕ) where
  each_copied : (write : Writer) → Copies R write → (m : Map) (d : ℕ) (f : ℕ → ℕ) {xs : List ℕ} (s : Store) (a : Tree)
      → Reads s.words s.used (many xs) a → Placed m d f a → Each R write m d s xs (ren f a)
  each_copied write c m d f s nil r_nil p = each_nil
  each_copied write c m d f s (cons t a) (r_cons {x = x} q r) p =
      each_cons (λ s₁ g. c m d x s₁ f t g.grew.fits (reads_later g.grew.same g.grew.grown q) p.0) (each_copied write c m d f s a r p.1)
  each_copied write c m d f s (lam _) q p = elim q [ ]
  each_copied write c m d f s (con _ _) q p = elim q [ ]
  each_copied write c m d f s (var _ _) q p = elim q [ ]
  each_copied write c m d f s (hol _ _) q p = elim q [ ]

  pub copy_ends : (n : ℕ) → Copies R (copy n R)
  unfolding copy write_term keep_hole
  copy_ends zero m d r s f t i q p = unsaid
  copy_ends (suc n) m d r s f (lam t) i (r_lam {a = a} h e x q) p =
      rw (form_lam s.words r e, write_term, x) (lam_written R (copy_ends n m (d + 1) a s (lift f) t i (reads_later same_refl (lower h) q) (placed_lam m d f t p)))
  copy_ends (suc n) m d r s f (con c a) i (r_con {xs = xs} h e x y l q) p =
      rw (form_con s.words r e, write_term, x, listed-arguments r y l)
      (con_written R c (all-written R _ m d xs s i (each_copied _ (copy_ends n) m d f s a (reads_later same_refl (lower h) q) p)))
  copy_ends (suc n) m d r s f (var v a) i (r_var {xs = xs} h e x y l q) p =
      rw (form_var s.words r e, write_term, x, option_at (place_of m d v) (f v) p.0, listed-arguments r y l)
      (var_written R (f v) (all-written R _ m d xs s i (each_copied _ (copy_ends n) m d f s a (reads_later same_refl (lower h) q) p.1)))
  copy_ends (suc n) m d r s f (hol g vs) i (r_hol h e x y l q) p =
      rw (form_hol s.words r e, write_term, x, listed-variables r y l q, follow_total m d f 0 vs p) (occurrence_ends R g (map f vs) s i)
  copy_ends (suc n) m d r s f nil i q p = elim q [ ]
  copy_ends (suc n) m d r s f (cons _ _) i q p = elim q [ ]

-- step 1's copy: the solution's context variables are renamed to the arguments
pub copy-solution : (R : ℕ) (xs : List ℕ) (r : ℕ) (s : Store) (t : Tree) → Fits R s → Reads s.words s.used (one r) t → Scoped (length xs) t
    → Ends (Wrote R (ren (nth xs) t) s) OnlyFull (copy enough R (to_variables 0 xs) 0 r s)
copy-solution R xs r s t i q p = copy_ends R enough (to_variables 0 xs) 0 r s (nth xs) t i q (All-map (place-variables xs) t p)
