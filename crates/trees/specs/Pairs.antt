-- Pairs: what holds of every pair, under append and permutation, and argument lists as pairs.
use Rattle.std.specs.Prelude.{◌≡◌, refl, ◌↔◌, ℕ}
use Rattle.std.proofs.Common.{ap₂, subst}
use mathlib.Core.List.{[], ◌∷◌, ◌++◌, Permᴰ}
use Rattle.trees.specs.Tree.{Tree, cons, inst, Pairs, EachPair, Equates}
use Rattle.trees.specs.Moves.{Spreads, spread_nil, spread_cons}

pub each_map : {P Q : Tree → Tree → Type 0} → ((a b : Tree) → P a b → Q a b) → (ps : Pairs) → EachPair P ps → EachPair Q ps
each_map k [] h = tt
each_map k (p ∷ ps) h = (k p.0 p.1 h.0, each_map k ps h.1)

pub each_both : (P Q : Tree → Tree → Type 0) (ps : Pairs) → EachPair P ps → EachPair Q ps → EachPair (λ a b. P a b × Q a b) ps
each_both P Q [] h k = tt
each_both P Q (p ∷ ps) h k = ((h.0, k.0), each_both P Q ps h.1 k.1)

pub each_append : (P : Tree → Tree → Type 0) (ps qs : Pairs) → EachPair P (ps ++ qs) ↔ (EachPair P ps × EachPair P qs)
each_append P [] qs = (λ h. (tt, h), λ h. h.1)
each_append P (p ∷ ps) qs =
    let r = each_append P ps qs in
    (λ h. let x = r.0 h.1 in ((h.0, x.0), x.1), λ h. (h.0.0, r.1 (h.0.1, h.1)))

-- the order of the pairs does not matter
pub each_perm : (P : Tree → Tree → Type 0) {ps qs : Pairs} → Permᴰ ps qs → EachPair P ps → EachPair P qs
each_perm P Permᴰ.nil h = tt
each_perm P (Permᴰ.cons e d) h = (subst (λ x. P x.0 x.1) e h.0, each_perm P d h.1)
each_perm P (Permᴰ.swap e f) h = (subst (λ x. P x.0 x.1) f h.1.0, (subst (λ x. P x.0 x.1) e h.0, h.1.1))
each_perm P (Permᴰ.trans d e) h = each_perm P e (each_perm P d h)

pub spreads_equates : (θ : ℕ → Tree) {a b : Tree} {qs : Pairs} → Spreads a b qs → (inst θ a ≡ inst θ b) ↔ Equates θ qs
spreads_equates θ spread_nil = (λ _. tt, λ _. refl)
spreads_equates θ (spread_cons {t} {u} {a} {b} s) =
    let r = spreads_equates θ s in (
      λ e. let z : cons (inst θ t) (inst θ a) ≡ cons (inst θ u) (inst θ b) = e in (cc, r.0 (cc)),
      λ e. ap₂ cons e.0 (r.1 e.1),
    )
