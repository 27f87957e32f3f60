-- Narrowing declares a hole over the kept positions and solves the old one by it.
use Rattle.std.specs.Prelude.{ℕ, zero, suc, ◌<◌, ◌≡◌, refl, List, [], ◌∷◌, map, length, get_or}
use Rattle.std.proofs.Common.{ap, ◌∙◌, arith}
use Rattle.std.proofs.Math.Option.{none, some}
use Rattle.rules.specs.Words.{field_a, field_b, HO, elements}
use Rattle.rules.specs.Store.{Store, settle}
use Rattle.rules.specs.Walk.{narrow}
use Rattle.trees.specs.Tree.{Ty, base, hol, AllL, Distinct, Sig}
use Rattle.trees.specs.Moves.{Solutions, Adds}
use Rattle.trees.specs.Places.{part}
use Rattle.trees.specs.Update.{update, adds_update}
use Rattle.promise.specs.Reading.{ReadsTy, ReadsTys, ty_nil, ty_cons, HoleAt, same_refl, lower, type_later, types_later, listed-elements}
use Rattle.promise.specs.Outcomes.{Ends, ended, bind_ends, OnlyFull, Grew}
use Rattle.promise.specs.Writing.{Pushed, pushed_hole, push_ends, Cells, cells_end, Wrote, occurrence_ends}
use Rattle.promise.specs.State.{Later, later_trans, grew_later, Holds, fresh, holds_appends, holds_hole, holds-settle}

-- the context of the kept positions
types_nth : {ws : List ℕ} {n : ℕ} {xs : List ℕ} {C : List Ty} → ReadsTys ws n xs C → (k : ℕ) → k < length C → ReadsTy ws n (get_or xs k 0) (get_or C k (base 0))
types_nth ty_nil k h = absurd (omega arith)
types_nth (ty_cons d e) zero h = d
types_nth (ty_cons d e) (suc k) h = types_nth e k (omega arith)

types_part : {ws : List ℕ} {n : ℕ} {xs : List ℕ} {C : List Ty} → ReadsTys ws n xs C → (ks : List ℕ) → AllL (λ k. k < length C) ks
    → ReadsTys ws n (map (λ k. get_or xs k 0) ks) (part C ks)
types_part d [] h = ty_nil
types_part d (k ∷ ks) h = ty_cons (types_nth d k h.0) (types_part d ks h.1)

pub length_part : (C : List Ty) (K : List ℕ) → length K ≡ length (part C K)
length_part C [] = refl
length_part C (k ∷ K) = ap suc (length_part C K)

-- hole h, of context C and base b, was narrowed to ks by the new hole
pub record Narrowed (R : ℕ) (D : Sig) (σ : Solutions) (h : ℕ) (C : List Ty) (b : ℕ) (ks : List ℕ) (s s₁ : Store) (new : ℕ) : Type 0 where
  pub later : Later s s₁
  pub sig : Sig
  pub sols : Solutions
  pub declares : Adds D new (part C ks, b) sig
  pub solves : Adds σ h (hol new ks) sols
  pub holds : Holds R s₁ sig sols

pub narrow_ends : (R : ℕ) (s : Store) (D : Sig) (σ : Solutions) (h : ℕ) (C : List Ty) (b : ℕ) (ks : List ℕ) → Holds R s D σ → D h ≡ some (C, b) → σ h ≡ none
    → AllL (λ k. k < length C) ks → Distinct ks → Ends (Narrowed R D σ h C b ks s) OnlyFull (narrow R h ks s)
unfolding narrow settle
narrow_ends R s D σ h C b ks i e n l q =
    bind_ends _ (cells_end R xs s i.fits) (λ _ z. z) λ s₁ c cs.
    bind_ends _ (push_ends R HO c (field_b s.words h) s₁ cs.appends.grew.fits) (λ _ z. z) λ s₂ new p.
    bind_ends _ (occurrence_ends R new ks s₂ p.grew.fits) (λ _ z. z) λ s₃ t w.
    ended (done s₁ c cs s₂ new p s₃ t w)
  where
    xs : List ℕ
    xs = map (λ k. get_or (elements s.words (field_a s.words h)) k 0) ks

    at : HoleAt s.words s.used h C b
    at = i.declared h C b e

    els : elements s.words (field_a s.words h) ≡ at.entries
    els = ap (elements s.words) at.first ∙ listed-elements at.listed

    types : ReadsTys s.words s.used xs (part C ks)
    types = rw els (types_part (types_later same_refl (lower at.low) at.context) ks l)

    result : ReadsTy s.words s.used (field_b s.words h) (base b)
    result = rw at.second (type_later same_refl (lower at.low) at.result)

    done : (s₁ : Store) (c : ℕ) → Cells R xs s s₁ c → (s₂ : Store) (new : ℕ) → Pushed R HO c (field_b s.words h) s₁ s₂ new → (s₃ : Store) (t : ℕ)
        → Wrote R (hol new ks) s₂ s₃ t → Narrowed R D σ h C b ks s (settle h t s₃) new
    done s₁ c cs s₂ new p s₃ t w = record {
      later = later_trans (grew_later g₁) (later_trans (grew_later p.grew) (record { same = w.appends.grew.same; grown = w.appends.grew.grown }));
      sig = E;
      sols = τ;
      declares = aE;
      solves = aτ;
      holds = holds-settle i₃ (omega (arith, at.low, g₁.grown, p.grew.grown, w.appends.grew.grown)) w.reads
          (part C ks, b, aE.new, length_part C ks, q) aτ;
    }
      where
        g₁ : Grew R s s₁
        g₁ = cs.appends.grew

        i₁ : Holds R s₁ D σ
        i₁ = holds_appends i cs.appends

        E : Sig
        E = update D new (some (part C ks, b))

        aE : Adds D new (part C ks, b) E
        aE = adds_update D new (part C ks, b) (fresh i₁ new (omega (arith, p.at)))

        τ : Solutions
        τ = update σ h (some (hol new ks))

        aτ : Adds σ h (hol new ks) τ
        aτ = adds_update σ h (hol new ks) n

        i₂ : Holds R s₂ E σ
        i₂ = holds_hole i₁ p (pushed_hole p cs.listed (types_later g₁.same g₁.grown types) (type_later g₁.same g₁.grown result)) aE

        i₃ : Holds R s₃ E σ
        i₃ = holds_appends i₂ w.appends
