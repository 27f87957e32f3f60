-- The order of the solutions along a run: a walk keeps one stamp free for the hole that it solves, and what it narrows gets later ones.
use Rattle.std.specs.Prelude.{◌≡◌, refl, List, ◌≢◌, ◌⊎◌, ℕ, suc, ◌≤◌, ◌<◌}
use Rattle.std.proofs.Common.{sym, ◌∙◌, ap, inl, inr, arith}
use Rattle.std.proofs.Math.Option.{Option, none, some, none-ne-some}
use Rattle.std.proofs.Math.Decide.{ℕ_discrete}
use Rattle.trees.specs.Tree.{Ty, Tree, Holes, Sig}
use Rattle.trees.specs.Moves.{Solutions, Climbs, Stamped, Grows, Adds}
use Rattle.trees.specs.Filling.{Holes-map, Holes-both}
use Rattle.trees.specs.Update.{update, update_same, update_other}

-- r falls from a solved hole to the holes of its solution
abbrev pub Ranked : (ℕ → ℕ) → Solutions → Type 0
Ranked r σ = (h : ℕ) (s : Tree) → σ h ≡ some s → Holes (λ g _. r g < r h) s

abbrev pub depth : Option Tree → ℕ → ℕ
depth none k = 0
depth (some s) k = suc k

-- step by step: u, solved now by s, gets a number below those of the solved holes of s and above those of the holes whose
-- solutions hold u
pub climbs_adds : (lo : ℕ → ℕ) (m : ℕ) (σ : Solutions) (u a : ℕ) (s : Tree) (τ : Solutions) → Climbs lo m σ → Adds σ u s τ → a ≤ m
    → Holes (λ g _. (g ≢ u) × ((t : Tree) → σ g ≡ some t → a < lo g)) s
    → ((h : ℕ) (t : Tree) → σ h ≡ some t → Holes (λ g _. g ≡ u → lo h < a) t) → Climbs (update lo u a) m τ
climbs_adds lo m σ u a s τ c d l new old h t e = go (d.only h t e)
  where
    at_u : update lo u a u ≡ a
    at_u = update_same lo u a

    go : ((h ≡ u) × (t ≡ s)) ⊎ (σ h ≡ some t)
        → (update lo u a h ≤ m) × Holes (λ g _. (r : Tree) → τ g ≡ some r → update lo u a h < update lo u a g) t
    go (inl x) = rw (x.0, x.1) (omega (arith, at_u), Holes-map (λ g _ k r q. below g k (d.only g r q)) s new)
      where
        below : (g : ℕ) → (g ≢ u) × ((r : Tree) → σ g ≡ some r → a < lo g) → {r : Tree} → ((g ≡ u) × (r ≡ s)) ⊎ (σ g ≡ some r)
            → update lo u a u < update lo u a g
        below g k (inl y) = absurd (k.0 y.0)
        below g k {r} (inr y) = omega (arith, at_u, update_other lo u a g k.0, k.1 r y)
    go (inr x) =
        let n = update_other lo u a h (λ y. none-ne-some t (sym d.before ∙ ap σ (sym y) ∙ x)) in
        let b = c h t x in (
          omega (arith, n, b.0),
          Holes-map (λ g _ k r q. above g k (ℕ_discrete g u) n r (d.only g r q)) t
              (Holes-both (λ g _. (r : Tree) → σ g ≡ some r → lo h < lo g) (λ g _. g ≡ u → lo h < a) t b.1 (old h t x)),
        )
      where
        above : (g : ℕ) → ((r : Tree) → σ g ≡ some r → lo h < lo g) × (g ≡ u → lo h < a) → Dec (g ≡ u) → update lo u a h ≡ lo h
            → (r : Tree) → ((g ≡ u) × (r ≡ s)) ⊎ (σ g ≡ some r) → update lo u a h < update lo u a g
        above g k (yes y) n r q = rw y (omega (arith, n, at_u, k.1 y))
        above g k (no y) n r (inl q) = absurd (y q.0)
        above g k (no y) n r (inr q) = omega (arith, n, update_other lo u a g y, k.0 r q)

pub stamped_nothing : Stamped (λ _. none)
stamped_nothing = ((λ _. 0), 0, λ h s e. absurd (none-ne-some s e))

-- only declared holes are solved
abbrev pub SolIn : Sig → Solutions → Type 0
SolIn D σ = (h : ℕ) (s : Tree) → σ h ≡ some s → (c : List Ty × ℕ) × (D h ≡ some c)

pub unsolved_before : (σ τ : Solutions) → Grows σ τ → (h : ℕ) → τ h ≡ none → σ h ≡ none
unsolved_before σ τ g h e = go (σ h) refl
  where
    go : (o : Option Tree) → σ h ≡ o → σ h ≡ none
    go none q = q
    go (some s) q = absurd (none-ne-some s (sym e ∙ g h s q))

pub climbs_more : (lo : ℕ → ℕ) (m n : ℕ) (σ : Solutions) → m ≤ n → Climbs lo m σ → Climbs lo n σ
climbs_more lo m n σ l c h s e = let k = c h s e in (omega (arith, k.0), k.1)

-- (E, τ) comes after (D, σ): the new solutions have stamps above m and do not hold u
pub record Later (u : ℕ) (D : Sig) (σ : Solutions) (lo : ℕ → ℕ) (m : ℕ) (E : Sig) (τ : Solutions) : Type 0 where
  pub declares : Grows D E
  pub solves : Grows σ τ
  pub inside : SolIn E τ
  pub stamp : ℕ → ℕ
  pub top : ℕ
  pub up : m ≤ top
  pub climbs : Climbs stamp top τ
  pub old : (h : ℕ) (r : Tree) → σ h ≡ some r → stamp h ≡ lo h
  pub new : (h : ℕ) (r : Tree) → τ h ≡ some r → σ h ≡ none → (m < stamp h) × Holes (λ g _. g ≢ u) r

pub later_refl : (u : ℕ) (D : Sig) (σ : Solutions) (lo : ℕ → ℕ) (m : ℕ) → SolIn D σ → Climbs lo m σ → Later u D σ lo m D σ
later_refl u D σ lo m i c = record {
  declares = λ _ _ e. e;
  solves = λ _ _ e. e;
  inside = i;
  stamp = lo;
  top = m;
  up = omega arith;
  climbs = c;
  old = λ _ _ _. refl;
  new = λ h r e n. absurd (none-ne-some r (sym n ∙ e));
}

pub later_trans : (u : ℕ) (D E H : Sig) (σ τ υ : Solutions) (lo : ℕ → ℕ) (m : ℕ) (a : Later u D σ lo m E τ) → Later u E τ a.stamp a.top H υ
    → Later u D σ lo m H υ
later_trans u D E H σ τ υ lo m a b = record {
  declares = λ h c e. b.declares h c (a.declares h c e);
  solves = λ h s e. b.solves h s (a.solves h s e);
  inside = b.inside;
  stamp = b.stamp;
  top = b.top;
  up = omega (arith, a.up, b.up);
  climbs = b.climbs;
  old = λ h r e. b.old h r (a.solves h r e) ∙ a.old h r e;
  new = λ h r e n. go h r e n (τ h) refl;
}
  where
    go : (h : ℕ) (r : Tree) → υ h ≡ some r → σ h ≡ none → (o : Option Tree) → τ h ≡ o → (m < b.stamp h) × Holes (λ g _. g ≢ u) r
    go h r e n none q = let k = b.new h r e q in (omega (arith, k.0, a.up), k.1)
    go h r e n (some t) q =
        let k = a.new h t q n in
        let z : t ≡ r = let x = b.solves h t q in cc in
        (omega (arith, b.old h t q, k.0), rw (← z) k.1)
