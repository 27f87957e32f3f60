-- Facts that hold on where the store has grown.
use Rattle.std.specs.Prelude.{ℕ, ◌+◌, ◌*◌, ◌<◌, ◌≤◌, ◌≡◌, List, [], ◌∷◌, get_or}
use Rattle.std.proofs.Common.{◌∙◌, arith, le_refl}
use Rattle.rules.specs.Words.{NONE, tag, field_a, field_b, elements, CE, HA}
use Rattle.rules.specs.Store.{Store}
use Rattle.laws.specs.Lists.{Listed, elements-kept}
use Rattle.invariants.specs.Floor.{Solved, Term, Sub, All, Args, Fine, Ext}

-- a list of a fine store can be read
pub listed_of : (R n : ℕ) (home : ℕ → ℕ) (s : Store) (l : ℕ) → Fine R n home s → ((l ≡ NONE → ⊥) → (l < s.used) × (tag s.words l ≡ CE)) → Listed s.words l
listed_of R n home s l f h =
    let c = f.few in
    record { top = s.used; inside = omega arith; few = omega arith; good = λ c lt e. (f.good c lt).cell e; here = h }

-- the solution of the hole that occurs at r
pub solved_at : (R n : ℕ) (home : ℕ → ℕ) (s : Store) (r : ℕ) → Fine R n home s → r < s.used → tag s.words r ≡ HA → (get_or s.solutions (field_a s.words r) NONE ≡ NONE → ⊥)
    → Solved n home s (field_a s.words r)
solved_at R n home s r f lt nine ne = let b = ((f.good r lt).occ nine).below in let w = f.within in f.sols (field_a s.words r) (omega arith) ne

pub all_map : {A : Type 0} (P Q : A → Type 0) → ((x : A) → P x → Q x) → (xs : List A) → All P xs → All Q xs
all_map P Q f [] h = tt
all_map P Q f (x ∷ xs) h = (f x h.0, all_map P Q f xs h.1)

pub sub_less : (ws : List ℕ) (home : ℕ → ℕ) (b c r v x : ℕ) → Sub ws home b r x → c ≤ b → r ≤ v → Sub ws home c v x
sub_less ws home b c r v x h le lt = record { below = omega arith; term = h.term; up = omega arith }

pub args_less : (ws : List ℕ) (home : ℕ → ℕ) (b c r v l : ℕ) → Args ws home b r l → c ≤ b → r ≤ v → Args ws home c v l
args_less ws home b c r v l h le lt =
    record { here = λ q. let a = (h.here q).0 in (omega arith, (h.here q).1); all = all_map _ _ (λ x p. sub_less ws home b c r v x p le lt) (elements ws l) h.all }

module _ (barred : ℕ → Type 0) (R n : ℕ) (home : ℕ → ℕ) (s : Store) (home₁ : ℕ → ℕ) (s₁ : Store) where
  pub tag-kept : (r : ℕ) → Ext barred home s home₁ s₁ → r < s.used → tag s₁.words r ≡ tag s.words r
  tag-kept r e h = e.kept (4 * r) (omega arith)

  pub a-kept : (r : ℕ) → Ext barred home s home₁ s₁ → r < s.used → field_a s₁.words r ≡ field_a s.words r
  a-kept r e h = e.kept (4 * r + 1) (omega arith)

  pub b_kept : (r : ℕ) → Ext barred home s home₁ s₁ → r < s.used → field_b s₁.words r ≡ field_b s.words r
  b_kept r e h = e.kept (4 * r + 2) (omega arith)

  pub term_kept : (r : ℕ) → Ext barred home s home₁ s₁ → r < s.used → Term s.words r → Term s₁.words r
  term_kept r e h t = let z = tag-kept r e h in let lo = t.low in let hi = t.high in record { low = omega arith; high = omega arith }

  pub sub-kept : (b r v x : ℕ) → Ext barred home s home₁ s₁ → r ≤ s.used → r ≤ v → Sub s.words home b r x → Sub s₁.words home₁ b v x
  sub-kept b r v x e h lv p =
      let a = p.below in
      let u = p.up in
      let l = e.labels x (omega arith) in
      record { below = omega arith; term = term_kept x e (omega arith) p.term; up = omega arith }

  pub list_kept : (l : ℕ) → Fine R n home s → Ext barred home s home₁ s₁ → ((l ≡ NONE → ⊥) → (l < s.used) × (tag s.words l ≡ CE)) → elements s₁.words l ≡ elements s.words l
  list_kept l f e h = elements-kept s.words s₁.words s.used l e.kept (λ c lt five. (f.good c lt).cell five) h

  pub args_below : (b r v l : ℕ) → Fine R n home s → Ext barred home s home₁ s₁ → r ≤ s.used → r ≤ v → Args s.words home b r l → Args s₁.words home₁ b v l
  args_below b r v l f e h lv p =
      let k = list_kept l f e (λ q. let a = (p.here q).0 in (omega arith, (p.here q).1)) in
      record {
        here = λ q. let a = (p.here q).0 in (omega arith, tag-kept l e (omega arith) ∙ (p.here q).1);
        all = rw k (all_map _ _ (λ x t. sub-kept b r v x e h lv t) (elements s.words l) p.all);
      }

  pub args_kept : (b l : ℕ) → Fine R n home s → Ext barred home s home₁ s₁ → Args s.words home b s.used l → Args s₁.words home₁ b s₁.used l
  args_kept b l f e p = args_below b s.used s₁.used l f e (le_refl _) e.grown p
