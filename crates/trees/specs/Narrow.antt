-- Narrowing: which positions of a context a tree uses, and that a tree over the kept positions is the only one.
use Rattle.std.specs.Prelude.{◌≡◌, refl, List, [], ◌∷◌, ◌≢◌, ℕ, zero, suc, ◌<◌, length}
use Rattle.std.proofs.Common.{sym, ◌∙◌, ap, arith}
use Rattle.std.proofs.Math.Option.{Option, some}
use Rattle.trees.specs.Tree.{Tree, ren, nth, AllL, All, Distinct}
use Rattle.trees.specs.Moves.{Place, pren, Def, Covers}
use Rattle.trees.specs.Renaming.{ren_comp}
use Rattle.trees.specs.Free.{Scoped, All-map, All-both, ren_agree, ren_agree_back}
use Rattle.trees.specs.Partial.{pren_def, InjBelow, ren_inj_below}
use Rattle.trees.specs.Filling.{nth-All}

-- `nth` of a list of different numbers is injective below its length
pub nth_inj : (xs : List ℕ) → Distinct xs → InjBelow (nth xs) (length xs)
nth_inj [] d i j hi hj e = absurd (omega arith)
nth_inj (x ∷ xs) d zero zero hi hj e = refl
nth_inj (x ∷ xs) d zero (suc j) hi hj e = absurd (nth-All (λ y. y ≢ x) xs d.0 j (omega arith) (sym e))
nth_inj (x ∷ xs) d (suc i) zero hi hj e = absurd (nth-All (λ y. y ≢ x) xs d.0 i (omega arith) e)
nth_inj (x ∷ xs) d (suc i) (suc j) hi hj e = ap suc (nth_inj xs d.1 i j (omega arith) (omega arith) e)

-- a tree comes from one over the kept positions in one way
pub narrow_unique : (K : List ℕ) → Distinct K → (s u : Tree) → Scoped (length K) s → Scoped (length K) u
    → ren (nth K) s ≡ ren (nth K) u → s ≡ u
narrow_unique K d s u hs hu e = ren_inj_below (nth K) (length K) (nth_inj K d) s u hs hu e

-- a tree in scope m whose variables satisfy Q uses only the positions kept
narrow : (Q : ℕ → Type 0) (m : ℕ) (K : List ℕ) → Covers Q m K → (t : Tree) → Scoped m t → All Q t → All (Place K) t
narrow Q m K c t h q = All-map (λ j r. c j r.0 r.1) t (All-both (λ j. j < m) Q t h q)

-- the two uses: a hole V ys inside a solution that p must be defined on, and the same hole on both sides
pub narrow_pruned : (p : ℕ → Option ℕ) (ys : List ℕ) (m : ℕ) (K : List ℕ) → Covers (Def (λ j. p (nth ys j))) m K
    → (t u : Tree) → Scoped m t → pren (λ j. p (nth ys j)) t ≡ some u → All (Place K) t
narrow_pruned p ys m K c t u h e = narrow (Def (λ j. p (nth ys j))) m K c t h (pren_def (λ j. p (nth ys j)) t u e)

pub narrow_same : (xs ys : List ℕ) (m : ℕ) (K : List ℕ) → Covers (λ j. nth xs j ≡ nth ys j) m K
    → (t : Tree) → Scoped m t → ren (nth xs) t ≡ ren (nth ys) t → All (Place K) t
narrow_same xs ys m K c t h e = narrow (λ j. nth xs j ≡ nth ys j) m K c t h (ren_agree_back (nth xs) (nth ys) t e)

-- and back: renamed to the kept positions, the two lists agree
pub narrow_same_back : (xs ys : List ℕ) (K : List ℕ) → AllL (λ j. nth xs j ≡ nth ys j) K
    → (s : Tree) → Scoped (length K) s → ren (nth xs) (ren (nth K) s) ≡ ren (nth ys) (ren (nth K) s)
narrow_same_back xs ys K a s h =
    ren_comp (nth xs) (nth K) s
    ∙ ren_agree (λ j. nth xs (nth K j)) (λ j. nth ys (nth K j)) s (All-map (λ j k. nth-All (λ i. nth xs i ≡ nth ys i) K a j k) s h)
    ∙ sym (ren_comp (nth ys) (nth K) s)
