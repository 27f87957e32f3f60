-- Changing a filling, a signature or solutions at one hole.
use Rattle.std.specs.Prelude.{◌≡◌, refl, ◌≢◌, ◌⊎◌, ℕ}
use Rattle.std.proofs.Common.{sym, ◌∙◌, ap, inl, inr}
use Rattle.std.proofs.Math.Option.{Option, none, some, none-ne-some, some-injective}
use Rattle.std.proofs.Math.Decide.{ℕ_discrete}
use Rattle.trees.specs.Moves.{Grows, Adds}

abbrev pub if_yes : {P A : Type 0} → Dec P → A → A → A
if_yes (yes _) a b = a
if_yes (no _) a b = b

abbrev pub update : {A : Type 0} → (ℕ → A) → ℕ → A → ℕ → A
update θ w s h = if_yes (ℕ_discrete h w) s (θ h)

pub update_same : {A : Type 0} (θ : ℕ → A) (w : ℕ) (s : A) → update θ w s w ≡ s
update_same θ w s = go (ℕ_discrete w w)
  where
    go : (d : Dec (w ≡ w)) → if_yes d s (θ w) ≡ s
    go (yes e) = refl
    go (no n) = absurd (n refl)

pub update_other : {A : Type 0} (θ : ℕ → A) (w : ℕ) (s : A) (h : ℕ) → h ≢ w → update θ w s h ≡ θ h
update_other θ w s h n = go (ℕ_discrete h w)
  where
    go : (d : Dec (h ≡ w)) → if_yes d s (θ h) ≡ θ h
    go (yes e) = absurd (n e)
    go (no _) = refl

pub adds_update : {A : Type 0} (f : ℕ → Option A) (w : ℕ) (a : A) → f w ≡ none → Adds f w a (update f w (some a))
adds_update {A} f w a e = record { before = e; grows = grows'; new = update_same f w (some a); only = λ h b q. only' h b (ℕ_discrete h w) q }
  where
    grows' : Grows f (update f w (some a))
    grows' h b q = go (ℕ_discrete h w)
      where
        go : (d : Dec (h ≡ w)) → if_yes d (some a) (f h) ≡ some b
        go (yes x) = absurd (none-ne-some b (sym e ∙ ap f (sym x) ∙ q))
        go (no _) = q

    only' : (h : ℕ) (b : A) (d : Dec (h ≡ w)) → if_yes d (some a) (f h) ≡ some b → ((h ≡ w) × (b ≡ a)) ⊎ (f h ≡ some b)
    only' h b (yes x) q = inl (x, some-injective b a (sym q))
    only' h b (no _) q = inr q

pub adds_other : {A : Type 0} (f : ℕ → Option A) (w : ℕ) (a : A) (g : ℕ → Option A) → Adds f w a g → (h : ℕ) → h ≢ w → f h ≡ none → g h ≡ none
adds_other {A} f w a g d h n e = go (g h) refl
  where
    go : (o : Option A) → g h ≡ o → g h ≡ none
    go none q = q
    go (some b) q = elim (d.only h b q) [ inl x ↦ absurd (n x.0) | inr x ↦ absurd (none-ne-some b (sym e ∙ x)) ]
