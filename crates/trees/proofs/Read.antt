-- The laws of the walk, one for each kind of node: going down, what every unifier has of the tree met (Owes); coming up, what was written (Reads).
use Rattle.std.specs.Prelude.{◌≡◌, refl, List, ◌∷◌, ℕ, ◌+◌, ◌≤◌, ◌<◌, length}
use Rattle.std.proofs.Common.{sym, ◌∙◌, ap, ap₂, arith}
use Rattle.std.proofs.Math.Option.{Option, some, some-injective}
use Rattle.trees.specs.Tree.{Ty, base, Tree, lam, con, var, hol, nil, cons, ren, nth, inst, Distinct, Sig, Vars, Kind, at, HasTy, t_lam, t_con, t_var, t_hol, t_nil, t_cons, Pairs, Both, Fills}
use Rattle.trees.specs.Moves.{Solutions, Keeps, Unifier, Stamped, SolTyped, Good, Grows, Adds, Leads, Move, move_narrow, move_solve, omap, omap2, liftp, map_m, pren, Def, Covers, Inverts, After}
use Rattle.trees.specs.Free.{Scoped, All-map}
use Rattle.trees.specs.Partial.{pren_lam_inv, pren_con_inv, pren_var_inv, pren_cons_inv, pren-ren, pren_agree, pren-left, pren_right, inverse, inverse_left, inverse_right, inverse-below}
use Rattle.trees.specs.Filling.{pren_hol}
use Rattle.trees.specs.Size.{size, size-ren}
use Rattle.trees.specs.Narrow.{nth_inj, narrow_pruned}
use Rattle.trees.specs.Typing.{At-lt, vars_nth, vars_length, in_scope, renames_reflects, Takes, takes-lift, Declared, typed-more, fills_scoped, hol_map_m}
use Rattle.trees.proofs.Leads.{declared_once, keeps_less, fills_less, move_leads}

-- the map that the walk begins with
abbrev pub back : List ℕ → ℕ → Option ℕ
back xs = inverse (nth xs) (length xs)

pub back_inverts : (xs : List ℕ) → Distinct xs → Inverts (back xs) xs
back_inverts xs d =
    (inverse_left (nth xs) (length xs) (nth_inj xs d), λ v w e. (inverse-below (nth xs) (length xs) v w e, inverse_right (nth xs) (length xs) v w e))

pren_after : (p : ℕ → Option ℕ) (ys : List ℕ) (q : ℕ → Option ℕ) → After p ys q → (t : Tree) → Scoped (length ys) t → pren p (ren (nth ys) t) ≡ pren q t
pren_after p ys q a t l = pren-ren p (nth ys) t ∙ pren_agree (λ j. p (nth ys j)) q t (All-map (λ j k. sym (a j k)) t l)

takes_after : (p : ℕ → Option ℕ) (ys : List ℕ) (q : ℕ → Option ℕ) (G C B : List Ty) → After p ys q → Vars G ys B → Distinct ys → Takes p G C → Takes q B C
takes_after p ys q G C B a v d k = (
  λ j w A e x. k.0 (nth ys j) w A (sym (a j (rw len (At-lt B j A x))) ∙ e) (vars_nth v j A x),
  λ i j w x y e f.
      nth_inj ys d i j (rw len x) (rw len y) (k.1 (nth ys i) (nth ys j) w (below i x) (below j y) (sym (a i (rw len x)) ∙ e) (sym (a j (rw len y)) ∙ f)),
)
  where
    len : length ys ≡ length B
    len = vars_length v

    below : (j : ℕ) → j < length B → nth ys j < length G
    below j x = let i = in_scope B j x in At-lt G (nth ys j) i.0 (vars_nth v j i.0 i.1)

takes-start : (p : ℕ → Option ℕ) (xs : List ℕ) (G C : List Ty) → Inverts p xs → Vars G xs C → Takes p G C
takes-start p xs G C i v = (
  λ x w A e a.
      let y = i.1 x w e in
      let l = vars_length v in
      renames_reflects (nth xs) C G (vars_nth v) w A (omega (arith, y.0)) (rw y.1 a),
  λ x y w _ _ e f. sym (i.1 x w e).1 ∙ (i.1 y w f).1,
)

module _ (S : ℕ → Option Ty) where
  -- GOING DOWN. Of the tree t, for every unifier: p is defined on its instance, and the instance is smaller, by k, than what
  -- stands for the hole u that is being solved (0 at the top, 1 inside: what the occurs check needs).
  abbrev pub Owes : Sig → Solutions → Pairs → ℕ → ℕ → (ℕ → Option ℕ) → Tree → Type 0
  Owes D σ ps u k p t =
      (X : Sig) (θ : ℕ → Tree) → Fills S D X θ → Unifier θ σ ps
      → ((r : Tree) × (pren p (inst θ t) ≡ some r)) × (k + size (inst θ t) ≤ size (θ u))

  -- where it begins
  pub owes_start : (D : Sig) (σ : Solutions) (ps : Pairs) (u : ℕ) (xs : List ℕ) (p : ℕ → Option ℕ) (t : Tree) → Declared D u xs → Inverts p xs
      → Owes D σ ((hol u xs, t) ∷ ps) u 0 p t
  owes_start D σ ps u xs p t d i X θ f w = (
    (θ u, ap (pren p) (sym w.1.0) ∙ pren-left p (nth xs) (θ u) (All-map i.0 (θ u) (fills_scoped S D X θ f u xs d))),
    omega (arith, ap size w.1.0, size-ren (nth xs) (θ u)),
  )

  -- it stays, when the state moves
  pub owes_later : {Frozen : ℕ → Type 0} {D : Sig} {σ : Solutions} {ps : Pairs} {E : Sig} {τ : Solutions} {qs : Pairs} → Leads S Frozen D σ ps E τ qs
      → (u k : ℕ) (p : ℕ → Option ℕ) (t : Tree) → Owes D σ ps u k p t → Owes E τ qs u k p t
  owes_later {D = D} {σ} {ps} {E} {τ} {qs} l u k p t o X θ f w =
      o X θ (fills_less S D E X θ l.declares f) (keeps_less θ σ τ l.solves w.0, l.back X θ f w.0 w.1)

  module _ (D : Sig) (σ : Solutions) (ps : Pairs) (u k : ℕ) (p : ℕ → Option ℕ) where
    pub owes_lam : (t : Tree) → Owes D σ ps u k p (lam t) → Owes D σ ps u 1 (liftp p) t
    owes_lam t o X θ f w =
        let x = o X θ f w in
        let i = pren_lam_inv p (inst θ t) x.0.0 x.0.1 in
        ((i.0, i.1), omega (arith, x.1))

    pub owes_con : (c : ℕ) (a : Tree) → Owes D σ ps u k p (con c a) → Owes D σ ps u 1 p a
    owes_con c a o X θ f w =
        let x = o X θ f w in
        let i = pren_con_inv p c (inst θ a) x.0.0 x.0.1 in
        ((i.0, i.1), omega (arith, x.1))

    pub owes_var : (v : ℕ) (a : Tree) → Owes D σ ps u k p (var v a) → Owes D σ ps u 1 p a
    owes_var v a o X θ f w =
        let x = o X θ f w in
        let i = pren_var_inv p v (inst θ a) x.0.0 x.0.1 in
        ((i.1, i.3), omega (arith, x.1))

    pub owes_first : (t a : Tree) → Owes D σ ps u k p (cons t a) → Owes D σ ps u 1 p t
    owes_first t a o X θ f w =
        let x = o X θ f w in
        let i = pren_cons_inv p (inst θ t) (inst θ a) x.0.0 x.0.1 in
        ((i.0, i.2), omega (arith, x.1))

    pub owes_rest : (t a : Tree) → Owes D σ ps u k p (cons t a) → Owes D σ ps u 1 p a
    owes_rest t a o X θ f w =
        let x = o X θ f w in
        let i = pren_cons_inv p (inst θ t) (inst θ a) x.0.0 x.0.1 in
        ((i.1, i.3), omega (arith, x.1))

    pub owes_solved : (q : ℕ → Option ℕ) (v : ℕ) (ys : List ℕ) (s : Tree) → Declared D v ys → σ v ≡ some s → After p ys q
        → Owes D σ ps u k p (hol v ys) → Owes D σ ps u k q s
    owes_solved q v ys s d e a o X θ f w =
        let x = o X θ f w in
        let y = w.0 v s e in (
          (x.0.0, ap (pren q) (sym y) ∙ sym (pren_after p ys q a (θ v) (fills_scoped S D X θ f v ys d)) ∙ x.0.1),
          omega (arith, x.1, size-ren (nth ys) (θ v), ap size y),
        )

-- COMING UP. s is t read through p: of every filling that keeps the solutions, and in types.
pub record Reads (S : ℕ → Option Ty) (D : Sig) (σ : Solutions) (p : ℕ → Option ℕ) (t s : Tree) : Type 0 where
  pub equal : (X : Sig) (θ : ℕ → Tree) → Fills S D X θ → Keeps θ σ → pren p (inst θ t) ≡ some (inst θ s)
  pub typed : (E : Sig) → Grows D E → (G C : List Ty) (k : Kind) → Takes p G C → HasTy S E G t k → HasTy S E C s k

module _ (S : ℕ → Option Ty) where
  pub reads_later : (D : Sig) (σ : Solutions) (E : Sig) (τ : Solutions) (p : ℕ → Option ℕ) (t s : Tree) → Grows D E → Grows σ τ
      → Reads S D σ p t s → Reads S E τ p t s
  reads_later D σ E τ p t s g h r = record {
    equal = λ X θ f k. r.equal X θ (fills_less S D E X θ g f) (keeps_less θ σ τ h k);
    typed = λ H i. r.typed H (λ v c e. i v c (g v c e));
  }

  module _ (D : Sig) (σ : Solutions) (p : ℕ → Option ℕ) where
    pub reads_lam : (t s : Tree) → Reads S D σ (liftp p) t s → Reads S D σ p (lam t) (lam s)
    reads_lam t s r = record { equal = λ X θ f k. ap (omap lam) (r.equal X θ f k); typed = go }
      where
        go : (E : Sig) → Grows D E → (G C : List Ty) (k : Kind) → Takes p G C → HasTy S E G (lam t) k → HasTy S E C (lam s) k
        go E g G C k w (t_lam {A = A} {B = B} d) = t_lam (r.typed E g (A ∷ G) (A ∷ C) (at B) (takes-lift p G C A w) d)

    pub reads_con : (c : ℕ) (a b : Tree) → Reads S D σ p a b → Reads S D σ p (con c a) (con c b)
    reads_con c a b r = record { equal = λ X θ f k. ap (omap (con c)) (r.equal X θ f k); typed = go }
      where
        go : (E : Sig) → Grows D E → (G C : List Ty) (k : Kind) → Takes p G C → HasTy S E G (con c a) k → HasTy S E C (con c b) k
        go E g G C k w (t_con e d) = t_con e (r.typed E g G C _ w d)

    pub reads_var : (v w : ℕ) (a b : Tree) → p v ≡ some w → Reads S D σ p a b → Reads S D σ p (var v a) (var w b)
    reads_var v w a b e r = record { equal = λ X θ f k. ap₂ (omap2 var) e (r.equal X θ f k); typed = go }
      where
        go : (E : Sig) → Grows D E → (G C : List Ty) (k : Kind) → Takes p G C → HasTy S E G (var v a) k → HasTy S E C (var w b) k
        go E g G C k x (t_var {A = A} y d) = t_var (x.0 v w A e y) (r.typed E g G C _ x d)

    pub reads_nil : Reads S D σ p nil nil
    reads_nil = record { equal = λ X θ f k. refl; typed = go }
      where
        go : (E : Sig) → Grows D E → (G C : List Ty) (k : Kind) → Takes p G C → HasTy S E G nil k → HasTy S E C nil k
        go E g G C k x t_nil = t_nil

    pub reads_cons : (t a s b : Tree) → Reads S D σ p t s → Reads S D σ p a b → Reads S D σ p (cons t a) (cons s b)
    reads_cons t a s b r q = record { equal = λ X θ f k. ap₂ (omap2 cons) (r.equal X θ f k) (q.equal X θ f k); typed = go }
      where
        go : (E : Sig) → Grows D E → (G C : List Ty) (k : Kind) → Takes p G C → HasTy S E G (cons t a) k → HasTy S E C (cons s b) k
        go E g G C k x (t_cons d e) = t_cons (r.typed E g G C _ x d) (q.typed E g G C _ x e)

    -- a hole that is kept whole, unsolved or frozen: every argument has a place
    pub reads_kept : (v : ℕ) (ys zs : List ℕ) → Declared D v ys → map_m p ys ≡ some zs → Reads S D σ p (hol v ys) (hol v zs)
    reads_kept v ys zs d e = record {
      equal = λ X θ f k. pren_hol θ p v ys zs (fills_scoped S D X θ f v ys d) e;
      typed = λ E g G C k w t. hol_map_m S E p G C w v ys zs k e t;
    }

    -- a solved hole: its solution, read through the map that follows its arguments
    pub reads_solved : (q : ℕ → Option ℕ) (v : ℕ) (ys : List ℕ) (s r : Tree) → SolTyped S D σ → Declared D v ys → σ v ≡ some s → After p ys q
        → Reads S D σ q s r → Reads S D σ p (hol v ys) r
    reads_solved q v ys s r w d e a x = record {
      equal = λ X θ f k. pren_after p ys q a (θ v) (fills_scoped S D X θ f v ys d) ∙ ap (pren q) (k v s e) ∙ x.equal X θ f k;
      typed = go;
    }
      where
        go : (E : Sig) → Grows D E → (G C : List Ty) (k : Kind) → Takes p G C → HasTy S E G (hol v ys) k → HasTy S E C r k
        go E g G C k y (t_hol {C = B} {b = b} i vs ds) =
            let z = w v s e in
            let n = declared_once (sym i ∙ g v (z.0, z.1) z.2) in
            x.typed E g B C (at (base b)) (takes_after p ys q G C B a vs ds y) (rw (n.0, n.1) (typed-more S D E g z.3))

  module _ (Frozen : ℕ → Type 0) where
    -- an unsolved hole: it may be narrowed to K, which has every position whose argument has a place (all positions, if it is renewed), by a new
    -- hole w; written is w with the places of the kept arguments
    pub reads_narrowed : (D : Sig) (σ : Solutions) (ps : Pairs) (u k : ℕ) (p : ℕ → Option ℕ) (v w : ℕ) (ys K zs : List ℕ) (C B : List Ty) (b : ℕ)
        (E : Sig) (τ : Solutions) → Good S D σ ps → Owes S D σ ps u k p (hol v ys) → (Frozen v → ⊥) → D v ≡ some (C, b) → length ys ≡ length C
        → Distinct ys → Covers (Def (λ j. p (nth ys j))) (length ys) K → Vars C K B → Distinct K → map_m (λ j. p (nth ys j)) K ≡ some zs
        → Adds D w (B, b) E → Adds σ v (hol w K) τ → Move S Frozen D σ ps E τ ps × Reads S E τ p (hol v ys) (hol w zs)
    reads_narrowed D σ ps u k p v w ys K zs C B b E τ g o z e l d c vs dk m ae aσ = (moved, read)
      where
        moved : Move S Frozen D σ ps E τ ps
        moved =
            move_narrow z e vs dk ae aσ
            (λ X θ f x. let y = (o X θ f x).0 in let sc = fills_scoped S D X θ f v ys (C, b, e, l, d) in
            narrow_pruned p ys (length ys) K c (θ v) y.0 sc (sym (pren-ren p (nth ys) (θ v)) ∙ y.1))

        read : Reads S E τ p (hol v ys) (hol w zs)
        read =
            reads_solved E τ p (λ j. p (nth ys j)) v ys (hol w K) (hol w zs) (move_leads S Frozen g moved).good.0 (C, b, ae.grows v (C, b) e, l, d)
            aσ.new (λ j _. refl) (reads_kept E τ (λ j. p (nth ys j)) w K zs (B, b, ae.new, vars_length vs, dk) m)

    -- what was written for the other side of the pair U xs = t solves U
    pub reads_solves : (D : Sig) (σ : Solutions) (ps : Pairs) (u : ℕ) (xs : List ℕ) (p : ℕ → Option ℕ) (t s : Tree) (τ : Solutions)
        → Good S D σ ((hol u xs, t) ∷ ps) → Inverts p xs → Reads S D σ p t s → (Frozen u → ⊥) → Adds σ u s τ → Stamped τ
        → Move S Frozen D σ ((hol u xs, t) ∷ ps) D τ ps
    reads_solves D σ ps u xs p t s τ g i r z a st = go g.1.0
      where
        go : Both S D (hol u xs) t → Move S Frozen D σ ((hol u xs, t) ∷ ps) D τ ps
        go (G, k, t_hol {C = C} {b = b} e vs d, y) =
            move_solve z e (r.typed D (λ _ _ q. q) G C (at (base b)) (takes-start p xs G C i vs) y) a st
            (λ X θ f w.
            let q = r.equal X θ f w in
            let sc = fills_scoped S D X θ f u xs (C, b, e, vars_length vs, d) in (
              λ z. some-injective (θ u) (inst θ s) (sym (pren-left p (nth xs) (θ u) (All-map i.0 (θ u) sc)) ∙ ap (pren p) z ∙ q),
              λ z. ap (ren (nth xs)) z ∙ pren_right p (nth xs) (λ v j x. (i.1 v j x).1) (inst θ t) (inst θ s) q,
            ))
