-- A small logic of outcomes: what a part of the machine comes to, and stores in which records were appended.
use Rattle.std.specs.Prelude.{ℕ, ◌*◌, ◌<◌, ◌≤◌, ◌≡◌, refl, List, length}
use Rattle.std.proofs.Common.{sym, ◌∙◌, arith, le_refl, le_trans}
use Rattle.std.proofs.Math.Decide.{dec_lt}
use Rattle.rules.specs.declared.Failure.{Failure}
use Rattle.rules.specs.declared.Failure.TheVariants.{Clash, Escape, Occurs, QueueFull, TableFull}
use Rattle.rules.specs.Words.{tag, HO}
use Rattle.rules.specs.Store.{Store, Out, goes, fails, spent, fail, ◌>>=◌}
use Rattle.promise.specs.Reading.{Same, same_refl, same_trans, same_tag}

-- an outcome goes on to what P says of the store and the result, or fails as F says; of spent fuel nothing is said
pub data Ends {A : Type 0} (P : Store → A → Type 0) (F : Failure → Type 0) : Out A → Type 0 where
  ended : {s : Store} {x : A} → P s x → Ends P F (goes s x)
  failed : {ws ss : List ℕ} {e : Failure} → F e → Ends P F (fails ws ss e)
  unsaid : Ends P F spent

pub bind_ends : {A B : Type 0} {P : Store → A → Type 0} {F : Failure → Type 0} {Q : Store → B → Type 0} {G : Failure → Type 0} {o : Out A}
    (k : Store × A → Out B) → Ends P F o → ((e : Failure) → F e → G e) → ((s : Store) (x : A) → P s x → Ends Q G (k (s, x))) → Ends Q G (o >>= k)
unfolding ◌>>=◌
bind_ends k (ended {s} {x} p) g h = h s x p
bind_ends k (failed {e = e} f) g h = failed (g e f)
bind_ends k unsaid g h = unsaid

pub map_ends : {A : Type 0} {P Q : Store → A → Type 0} {F G : Failure → Type 0} {o : Out A} → ((e : Failure) → F e → G e)
    → ((s : Store) (x : A) → P s x → Q s x) → Ends P F o → Ends Q G o
map_ends g h (ended {s} {x} p) = ended (h s x p)
map_ends g h (failed {e = e} f) = failed (g e f)
map_ends g h unsaid = unsaid

-- what is said of an outcome that goes on
pub went : {A : Type 0} {P : Store → A → Type 0} {F : Failure → Type 0} {s : Store} {x : A} → Ends P F (goes s x) → P s x
went (ended p) = p

-- a failure that is a full table
abbrev pub OnlyFull : Failure → Type 0
OnlyFull Clash = ⊥
OnlyFull Escape = ⊥
OnlyFull Occurs = ⊥
OnlyFull QueueFull = ⊥
OnlyFull TableFull = Unit {0}

pub fail_ends : {A : Type 0} {P : Store → A → Type 0} {F : Failure → Type 0} (s : Store) (e : Failure) → F e → Ends P F (fail e s)
unfolding fail
fail_ends s e x = failed x

-- the words are there: R records of table, at most R used
pub record Fits (R : ℕ) (s : Store) : Type 0 where
  pub small : R ≤ 4096
  pub table : 4 * R ≤ length s.words
  pub full : s.used ≤ R

-- records were appended, and nothing else was written
pub record Grew (R : ℕ) (s s₁ : Store) : Type 0 where
  pub same : Same s.used s.words s₁.words
  pub grown : s.used ≤ s₁.used
  pub answers : s₁.solutions ≡ s.solutions
  pub fits : Fits R s₁

pub grew_refl : {R : ℕ} {s : Store} → Fits R s → Grew R s s
grew_refl f = record { same = same_refl; grown = le_refl _; answers = refl; fits = f }

pub grew_trans : {R : ℕ} {s s₁ s₂ : Store} → Grew R s s₁ → Grew R s₁ s₂ → Grew R s s₂
grew_trans a b = record {
  same = same_trans a.grown a.same b.same;
  grown = le_trans a.grown b.grown;
  answers = b.answers ∙ a.answers;
  fits = b.fits;
}

-- and no hole is among them
pub record Appends (R : ℕ) (s s₁ : Store) : Type 0 where
  pub grew : Grew R s s₁
  pub plain : (h : ℕ) → s.used ≤ h → h < s₁.used → tag s₁.words h ≡ HO → ⊥

pub appends_refl : {R : ℕ} {s : Store} → Fits R s → Appends R s s
appends_refl f = record { grew = grew_refl f; plain = λ h a b _. omega arith }

pub appends_trans : {R : ℕ} {s s₁ s₂ : Store} → Appends R s s₁ → Appends R s₁ s₂ → Appends R s s₂
appends_trans {s = s} {s₁} {s₂} a b = record { grew = grew_trans a.grew b.grew; plain = λ h x y e. go h x y e (dec_lt h s₁.used) }
  where
    go : (h : ℕ) → s.used ≤ h → h < s₂.used → tag s₂.words h ≡ HO → Dec (h < s₁.used) → ⊥
    go h x y e (yes k) = a.plain h x k (sym (same_tag b.grew.same k refl) ∙ e)
    go h x y e (no k) = b.plain h (omega arith) y e
