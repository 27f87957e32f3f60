-- Steps 2 to 5: two sides whose heads are no solved holes meet.
use Rattle.std.specs.Prelude.{ℕ, ◌+◌, ◌≡◌, List, ◌∷◌, ◌++◌, Bool, ◌≢◌, eqb}
use Rattle.std.proofs.Math.Path.{refl}
use Rattle.std.proofs.Common.{sym, ap, ◌∙◌, subst, arith}
use Rattle.std.proofs.Math.Bool.{true, false}
use Rattle.std.proofs.Math.Option.{Option, none, some}
use Rattle.std.proofs.Math.Decide.{ℕ_discrete}
use Rattle.std.proofs.Math.ListN.{length}
use Rattle.std.proofs.Math.Dec.{leb}
use borrow.Author.Tests.{eq-eqb, ne_eqb}
use Rattle.rules.specs.declared.Failure.TheVariants.{Clash, QueueFull}
use Rattle.rules.specs.Lists.{both, either}
use Rattle.rules.specs.Words.{tag, field_a, LA, CA, VA, HA, has, arguments, variables}
use Rattle.rules.specs.Store.{Store, Out, goes, fail, ◌>>=◌}
use Rattle.rules.specs.Walk.{assign}
use Rattle.rules.specs.Machine.{Pair, Next, on, done, zip, join, same_hole, solve_one, same_head, meet, upcoming}
use Rattle.trees.specs.Tree.{Ty, base, arr, Tree, lam, con, var, hol, nil, cons, Sig, Kind, at, args, At, HasTy, t_lam, t_hol, Pairs}
use Rattle.trees.specs.Moves.{Stands, Solutions, Good, NoneFrozen, head, h_lam, h_con, h_var, fails_clash, move_lam, move_con, move_var}
use Rattle.promise.specs.Reading.{one, many, Reads, r_lam, r_con, r_var, r_hol, same_refl, lower, reads_later, listed-arguments, listed-variables}
use Rattle.promise.specs.Outcomes.{failed, fail_ends}
use Rattle.promise.specs.State.{Holds}
use Rattle.promise.specs.Waiting.{PairsRead, p_cons, pairs-append, spread, Runs, move, RunFails, fails-here, Steps, quiet}
use Rattle.promise.proofs.Expanding.{Unsolved}
use Rattle.promise.proofs.Assigning.{assign_ends, then_done, swapped, same_ends}
use Rattle.promise.specs.Meeting.{con_args, var_args}

-- meet, with its tests read off
solve_as : (i j : ℕ) → ℕ → ℕ → ℕ → Store → Out ℕ
solve_as i j R l r s = elim (eqb i HA) [ true ↦ assign R l r s | false ↦ elim (eqb j HA) [ true ↦ assign R r l s | false ↦ fail Clash s ] ]

meet_as : (i j a b : ℕ) → ℕ → ℕ → List Pair → ℕ → ℕ → Store → Out Next
meet_as i j a b R C q l r s =
    elim (both (eqb i LA) (eqb j LA)) [
      | true ↦ goes s (on a b)
      | false ↦ elim (either (both (eqb i CA) (both (eqb j CA) (eqb a b))) (both (eqb i VA) (both (eqb j VA) (eqb a b)))) [
        | true ↦ do
          (s₁, q₁) ← join C q (zip (arguments s.words l) (arguments s.words r)) s
          goes s₁ (done q₁)
        | false ↦ elim (both (eqb i HA) (both (eqb j HA) (eqb a b))) [
          | true ↦ same_hole R q l r s
          | false ↦ do
            (s₁, t) ← solve_as i j R l r s
            goes s₁ (done q)
        ]
      ]
    ]

meet_as_lem : (i j a b R C : ℕ) (q : List Pair) (l r : ℕ) (s : Store) → tag s.words l ≡ i → tag s.words r ≡ j → field_a s.words l ≡ a
    → field_a s.words r ≡ b → meet R C q l r s ≡ meet_as i j a b R C q l r s
unfolding meet meet_as has same_head solve_one solve_as
meet_as_lem i j a b R C q l r s e f g h =
    ap (λ z. meet_as z (tag s.words r) (field_a s.words l) (field_a s.words r) R C q l r s) e
    ∙ ap (λ z. meet_as i z (field_a s.words l) (field_a s.words r) R C q l r s) f
    ∙ ap (λ z. meet_as i j z (field_a s.words r) R C q l r s) g ∙ ap (λ z. meet_as i j a z R C q l r s) h

lam_arrow : {S : ℕ → Option Ty} {D : Sig} {G : List Ty} {t : Tree} {k : Kind} → HasTy S D G (lam t) k → (A : Ty) × (B : Ty) × (k ≡ at (arr A B))
lam_arrow (t_lam {A = A} {B = B} d) = (A, B, refl)

hol_base : {S : ℕ → Option Ty} {D : Sig} {G : List Ty} {h : ℕ} {xs : List ℕ} {k : Kind} → HasTy S D G (hol h xs) k → (b : ℕ) × (k ≡ at (base b))
hol_base (t_hol {b = b} e v d) = (b, refl)

no_lam_hol : {S : ℕ → Option Ty} {D : Sig} {G : List Ty} {t : Tree} {h : ℕ} {xs : List ℕ} {k : Kind} → HasTy S D G (lam t) k → HasTy S D G (hol h xs) k → ⊥
no_lam_hol d e =
    let x = lam_arrow d in
    let y = hol_base e in
    let u : at (arr x.0 x.1) ≡ at (base y.0) = sym x.2 ∙ y.1 in
    let w : arr x.0 x.1 ≡ base y.0 = cc in
    let z : ◌≡◌ {A = ℕ} 0 1 = cc in
    omega arith

module _ (S : ℕ → Option Ty) (R C : ℕ) where
  -- the argument pairs join the queue
  joined : (D : Sig) (σ : Solutions) (ps qs rs : Pairs) (q new : List Pair) (s : Store) → Holds R s D σ → PairsRead s.words s.used q ps
      → PairsRead s.words s.used new qs → Runs S D σ rs D σ (ps ++ qs) → Steps S R D σ rs q s (join C q new s >>= λ (s₁, q₁). goes s₁ (done q₁))
  unfolding join ◌>>=◌ upcoming fail
  joined D σ ps qs rs q new s i a b m = go (leb (length q + length new) C) refl
    where
      go : (x : Bool) → leb (length q + length new) C ≡ x → Steps S R D σ rs q s (join C q new s >>= λ (s₁, q₁). goes s₁ (done q₁))
      go true e = rw (e, join) (quiet S D σ rs (ps ++ qs) q s (done (q ++ new)) i m (pairs-append a b))
      go false e = rw (e, join) (fail_ends s QueueFull tt)

  -- different rigid heads
  clash_then : (D : Sig) (σ : Solutions) (ps : Pairs) (q : List Pair) (s : Store) → RunFails S D σ ps
      → Steps S R D σ ps q s (◌>>=◌ {A = ℕ} (fail Clash s) (λ (s₁, t). goes s₁ (done q)))
  unfolding ◌>>=◌ fail
  clash_then D σ ps q s x = failed x

  con_con : (c d : ℕ) → c ≢ d → h_con c ≢ h_con d
  con_con c d n e = n (cc)

  var_var : (c d : ℕ) → c ≢ d → h_var c ≢ h_var d
  var_var c d n e = n (cc)

  lam_con : (c : ℕ) → h_lam ≢ h_con c
  lam_con c e = let z : ◌≡◌ {A = ℕ} 0 1 = cc in omega arith

  lam_var : (c : ℕ) → h_lam ≢ h_var c
  lam_var c e = let z : ◌≡◌ {A = ℕ} 0 1 = cc in omega arith

  con_var : (c v : ℕ) → h_con c ≢ h_var v
  con_var c v e = let z : ◌≡◌ {A = ℕ} 0 1 = cc in omega arith

  module _ (D : Sig) (σ : Solutions) (ps : Pairs) (q : List Pair) (l r : ℕ) (s : Store) (i : Holds R s D σ) (w : PairsRead s.words s.used q ps) where
    abbrev Meets : Tree → Tree → Type 0
    Meets a b = Steps S R D σ ((a, b) ∷ ps) q s (meet R C q l r s)

    clashes : (a b : Tree) → Stands NoneFrozen a → Stands NoneFrozen b → head a ≢ head b → RunFails S D σ ((a, b) ∷ ps)
    clashes a b x y n = fails-here S (fails_clash x y n)

    joins : List ℕ → List ℕ → Out Next
    joins xs ys = join C q (zip xs ys) s >>= λ (s₁, q₁). goes s₁ (done q₁)

    con_same : (c : ℕ) (a b : Tree) (xs ys : List ℕ) → Good S D σ ((con c a, con c b) ∷ ps) → Reads s.words s.used (many xs) a
        → Reads s.words s.used (many ys) b → Steps S R D σ ((con c a, con c b) ∷ ps) q s (joins xs ys)
    unfolding joins
    con_same c a b xs ys g p o = go (con_args g.1.0.2) (con_args g.1.0.3)
      where
        go : (A : Ty) × (n : ℕ) × (S c ≡ some A) × HasTy S D g.1.0.0 a (args A n) → (B : Ty) × (n : ℕ) × (S c ≡ some B) × HasTy S D g.1.0.0 b (args B n)
            → Steps S R D σ ((con c a, con c b) ∷ ps) q s (joins xs ys)
        go (A, n, e, d) (B, m, f, k) =
            let z : B ≡ A = cc in
            let j = spread d (rw z at k) p o in
            joined D σ ps j.0 ((con c a, con c b) ∷ ps) q (zip xs ys) s i w j.2 (move S (move_con j.1))

    var_same : (v : ℕ) (a b : Tree) (xs ys : List ℕ) → Good S D σ ((var v a, var v b) ∷ ps) → Reads s.words s.used (many xs) a
        → Reads s.words s.used (many ys) b → Steps S R D σ ((var v a, var v b) ∷ ps) q s (joins xs ys)
    unfolding joins
    var_same v a b xs ys g p o = go (var_args g.1.0.2) (var_args g.1.0.3)
      where
        go : (A : Ty) × (n : ℕ) × (At g.1.0.0 v A) × HasTy S D g.1.0.0 a (args A n)
            → (B : Ty) × (n : ℕ) × (At g.1.0.0 v B) × HasTy S D g.1.0.0 b (args B n) → Steps S R D σ ((var v a, var v b) ∷ ps) q s (joins xs ys)
        go (A, n, e, d) (B, m, f, k) =
            let z : B ≡ A = cc in
            let j = spread d (rw z at k) p o in
            joined D σ ps j.0 ((var v a, var v b) ∷ ps) q (zip xs ys) s i w j.2 (move S (move_var j.1))

    con_meet : (c d : ℕ) (a b : Tree) (xs ys : List ℕ) → Good S D σ ((con c a, con d b) ∷ ps) → tag s.words l ≡ CA → tag s.words r ≡ CA
        → field_a s.words l ≡ c → field_a s.words r ≡ d → arguments s.words l ≡ xs → arguments s.words r ≡ ys
        → Reads s.words s.used (many xs) a → Reads s.words s.used (many ys) b → Meets (con c a) (con d b)
    unfolding meet_as solve_as either both joins
    con_meet c d a b xs ys g e f x y u v p o = go (ℕ_discrete c d)
      where
        go : Dec (c ≡ d) → Meets (con c a) (con d b)
        go (yes z) =
            rw (meet_as_lem CA CA c d R C q l r s e f x y, eq-eqb c d z, meet_as, u, v)
            (subst (λ k. Good S D σ ((con c a, con k b) ∷ ps) → Steps S R D σ ((con c a, con k b) ∷ ps) q s (joins xs ys)) z
            (λ g'. con_same c a b xs ys g' p o) g)
        go (no z) =
            rw (meet_as_lem CA CA c d R C q l r s e f x y, ne_eqb c d z, meet_as)
            (clash_then D σ ((con c a, con d b) ∷ ps) q s (clashes (con c a) (con d b) tt tt (con_con c d z)))

    var_meet : (c d : ℕ) (a b : Tree) (xs ys : List ℕ) → Good S D σ ((var c a, var d b) ∷ ps) → tag s.words l ≡ VA → tag s.words r ≡ VA
        → field_a s.words l ≡ c → field_a s.words r ≡ d → arguments s.words l ≡ xs → arguments s.words r ≡ ys
        → Reads s.words s.used (many xs) a → Reads s.words s.used (many ys) b → Meets (var c a) (var d b)
    unfolding meet_as solve_as either both joins
    var_meet c d a b xs ys g e f x y u v p o = go (ℕ_discrete c d)
      where
        go : Dec (c ≡ d) → Meets (var c a) (var d b)
        go (yes z) =
            rw (meet_as_lem VA VA c d R C q l r s e f x y, eq-eqb c d z, meet_as, u, v)
            (subst (λ k. Good S D σ ((var c a, var k b) ∷ ps) → Steps S R D σ ((var c a, var k b) ∷ ps) q s (joins xs ys)) z
            (λ g'. var_same c a b xs ys g' p o) g)
        go (no z) =
            rw (meet_as_lem VA VA c d R C q l r s e f x y, ne_eqb c d z, meet_as)
            (clash_then D σ ((var c a, var d b) ∷ ps) q s (clashes (var c a) (var d b) tt tt (var_var c d z)))

    hol_meet : (c d : ℕ) (xs ys : List ℕ) → Good S D σ ((hol c xs, hol d ys) ∷ ps) → tag s.words l ≡ HA → tag s.words r ≡ HA
        → field_a s.words l ≡ c → field_a s.words r ≡ d → variables s.words l ≡ xs → variables s.words r ≡ ys → σ c ≡ none → σ d ≡ none
        → Reads s.words s.used (one r) (hol d ys) → Meets (hol c xs) (hol d ys)
    unfolding meet_as solve_as either both
    hol_meet c d xs ys g e f x y u v m n p = go (ℕ_discrete c d)
      where
        go : Dec (c ≡ d) → Meets (hol c xs) (hol d ys)
        go (yes z) =
            rw (meet_as_lem HA HA c d R C q l r s e f x y, eq-eqb c d z, meet_as)
            (subst (λ k. Steps S R D σ ((hol c xs, hol k ys) ∷ ps) q s (same_hole R q l r s)) z
            (same_ends S R D σ ps q c xs ys l r s i (rw (← z) at g) x u v m w))
        go (no z) =
            rw (meet_as_lem HA HA c d R C q l r s e f x y, ne_eqb c d z, meet_as)
            (then_done S R D σ ((hol c xs, hol d ys) ∷ ps) ps q s (assign R l r s) w
            (assign_ends S R D σ ps c xs (hol d ys) l r s i g x u p m (λ k. z (sym k), n)))

    pub meet_ends : (a b : Tree) → Good S D σ ((a, b) ∷ ps) → Reads s.words s.used (one l) a → Reads s.words s.used (one r) b → Unsolved σ a → Unsolved σ b
        → Meets a b
    unfolding meet_as solve_as either both upcoming
    meet_ends (lam a) (lam b) g (r_lam h e x p) (r_lam k f y o) m n =
        rw (meet_as_lem LA LA _ _ R C q l r s e f x y)
        (quiet S D σ ((lam a, lam b) ∷ ps) ((a, b) ∷ ps) q s (on _ _) i (move S move_lam)
        (p_cons (reads_later same_refl (lower h) p) (reads_later same_refl (lower k) o) w))
    meet_ends (lam a) (con c b) g (r_lam h e x p) (r_con k f y u v o) m n =
        rw (meet_as_lem LA CA _ _ R C q l r s e f x y) (clash_then D σ ((lam a, con c b) ∷ ps) q s (clashes (lam a) (con c b) tt tt (lam_con c)))
    meet_ends (lam a) (var c b) g (r_lam h e x p) (r_var k f y u v o) m n =
        rw (meet_as_lem LA VA _ _ R C q l r s e f x y) (clash_then D σ ((lam a, var c b) ∷ ps) q s (clashes (lam a) (var c b) tt tt (lam_var c)))
    meet_ends (lam a) (hol c ys) g p o m n = absurd (no_lam_hol g.1.0.2 g.1.0.3)
    meet_ends (con c a) (lam b) g (r_con h e x u v p) (r_lam k f y o) m n =
        rw (meet_as_lem CA LA _ _ R C q l r s e f x y) (clash_then D σ ((con c a, lam b) ∷ ps) q s (clashes (con c a) (lam b) tt tt (λ z. lam_con c (sym z))))
    meet_ends (con c a) (con d b) g (r_con {xs = xs} h e x u v p) (r_con {xs = ys} k f y u' v' o) m n =
        con_meet c d a b xs ys g e f x y (listed-arguments l u v) (listed-arguments r u' v') (reads_later same_refl (lower h) p) (reads_later same_refl (lower k) o)
    meet_ends (con c a) (var d b) g (r_con h e x u v p) (r_var k f y u' v' o) m n =
        rw (meet_as_lem CA VA _ _ R C q l r s e f x y) (clash_then D σ ((con c a, var d b) ∷ ps) q s (clashes (con c a) (var d b) tt tt (con_var c d)))
    meet_ends (con c a) (hol d ys) g (r_con h e x u v p) (r_hol k f y u' v' o) m n =
        rw (meet_as_lem CA HA _ _ R C q l r s e f x y)
        (then_done S R D σ ((con c a, hol d ys) ∷ ps) ps q s (assign R r l s) w
        (swapped S R D σ (con c a) (hol d ys) ps ps s (assign R r l s) g
        (λ j. assign_ends S R D σ ps d ys (con c a) r l s i j y (listed-variables r u' v' o) (r_con h e x u v p) n tt)))
    meet_ends (var c a) (lam b) g (r_var h e x u v p) (r_lam k f y o) m n =
        rw (meet_as_lem VA LA _ _ R C q l r s e f x y) (clash_then D σ ((var c a, lam b) ∷ ps) q s (clashes (var c a) (lam b) tt tt (λ z. lam_var c (sym z))))
    meet_ends (var c a) (con d b) g (r_var h e x u v p) (r_con k f y u' v' o) m n =
        rw (meet_as_lem VA CA _ _ R C q l r s e f x y) (clash_then D σ ((var c a, con d b) ∷ ps) q s (clashes (var c a) (con d b) tt tt (λ z. con_var d c (sym z))))
    meet_ends (var c a) (var d b) g (r_var {xs = xs} h e x u v p) (r_var {xs = ys} k f y u' v' o) m n =
        var_meet c d a b xs ys g e f x y (listed-arguments l u v) (listed-arguments r u' v') (reads_later same_refl (lower h) p) (reads_later same_refl (lower k) o)
    meet_ends (var c a) (hol d ys) g (r_var h e x u v p) (r_hol k f y u' v' o) m n =
        rw (meet_as_lem VA HA _ _ R C q l r s e f x y)
        (then_done S R D σ ((var c a, hol d ys) ∷ ps) ps q s (assign R r l s) w
        (swapped S R D σ (var c a) (hol d ys) ps ps s (assign R r l s) g
        (λ j. assign_ends S R D σ ps d ys (var c a) r l s i j y (listed-variables r u' v' o) (r_var h e x u v p) n tt)))
    meet_ends (hol c xs) (lam b) g p o m n = absurd (no_lam_hol g.1.0.3 g.1.0.2)
    meet_ends (hol c xs) (con d b) g (r_hol h e x u v p) (r_con k f y u' v' o) m n =
        rw (meet_as_lem HA CA _ _ R C q l r s e f x y)
        (then_done S R D σ ((hol c xs, con d b) ∷ ps) ps q s (assign R l r s) w
        (assign_ends S R D σ ps c xs (con d b) l r s i g x (listed-variables l u v p) (r_con k f y u' v' o) m tt))
    meet_ends (hol c xs) (var d b) g (r_hol h e x u v p) (r_var k f y u' v' o) m n =
        rw (meet_as_lem HA VA _ _ R C q l r s e f x y)
        (then_done S R D σ ((hol c xs, var d b) ∷ ps) ps q s (assign R l r s) w
        (assign_ends S R D σ ps c xs (var d b) l r s i g x (listed-variables l u v p) (r_var k f y u' v' o) m tt))
    meet_ends (hol c xs) (hol d ys) g (r_hol h e x u v p) (r_hol k f y u' v' o) m n =
        hol_meet c d xs ys g e f x y (listed-variables l u v p) (listed-variables r u' v' o) m n (r_hol k f y u' v' o)
    meet_ends (lam _) nil g p o m n = elim o [ ]
    meet_ends (lam _) (cons _ _) g p o m n = elim o [ ]
    meet_ends (con _ _) nil g p o m n = elim o [ ]
    meet_ends (con _ _) (cons _ _) g p o m n = elim o [ ]
    meet_ends (var _ _) nil g p o m n = elim o [ ]
    meet_ends (var _ _) (cons _ _) g p o m n = elim o [ ]
    meet_ends (hol _ _) nil g p o m n = elim o [ ]
    meet_ends (hol _ _) (cons _ _) g p o m n = elim o [ ]
    meet_ends nil b g p o m n = elim p [ ]
    meet_ends (cons _ _) b g p o m n = elim p [ ]
