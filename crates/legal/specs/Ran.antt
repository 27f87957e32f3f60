-- What a part of the machine comes to where it goes on: the records only grow, within the room, and what is said of store and result.
use Rattle.std.specs.Prelude.{ℕ, ◌<◌, ◌≤◌, ◌≡◌, refl, length}
use Rattle.std.proofs.Common.{◌∙◌, arith, le_refl, lt-ltb, le-ltb}
use Rattle.std.proofs.Math.Decide.{dec_lt}
use Rattle.rules.specs.declared.Failure.{Failure}
use Rattle.rules.specs.Store.{Store, Out, goes, fail, ◌>>=◌, push}
use Rattle.invariants.specs.Push.{put-length}
use Rattle.promise.specs.Outcomes.{Ends, ended, bind_ends, map_ends, fail_ends}
use Rattle.legal.specs.Sane.{added}

pub record Between (R : ℕ) (s s₁ : Store) : Type 0 where
  pub grown : s.used ≤ s₁.used
  pub within : s.used ≤ R → s₁.used ≤ R
  pub long : length s₁.words ≡ length s.words

between_refl : {R : ℕ} {s : Store} → Between R s s
between_refl = record { grown = le_refl _; within = λ h. h; long = refl }

between_trans : {R : ℕ} {s s₁ s₂ : Store} → Between R s s₁ → Between R s₁ s₂ → Between R s s₂
between_trans a b = let x = a.grown in let y = b.grown in record { grown = omega arith; within = λ h. b.within (a.within h); long = b.long ∙ a.long }

-- of failures nothing is said
abbrev Never : Failure → Type 0
Never e = Unit {0}

-- Q of the store and the result
abbrev pub Ran : {A : Type 0} → ℕ → Store → (Store → A → Type 0) → Out A → Type 0
Ran R s Q o = Ends (λ s₁ x. Between R s s₁ × Q s₁ x) Never o

pub ran_bind : {A B : Type 0} (R : ℕ) {s : Store} {P : Store → A → Type 0} {Q : Store → B → Type 0} {o : Out A} (k : Store × A → Out B) → Ran R s P o
    → ((s₁ : Store) (x : A) → Between R s s₁ → P s₁ x → Ran R s₁ Q (k (s₁, x))) → Ran R s Q (o >>= k)
ran_bind R k h c = bind_ends k h (λ e u. u) (λ s₁ x p. map_ends (λ e u. u) (λ s₂ y q. (between_trans p.0 q.0, q.1)) (c s₁ x p.0 p.1))

pub ran_map : {A : Type 0} (R : ℕ) {s : Store} {P Q : Store → A → Type 0} {o : Out A} → Ran R s P o → ((s₁ : Store) (x : A) → Between R s s₁ → P s₁ x → Q s₁ x) → Ran R s Q o
ran_map R h c = map_ends (λ e u. u) (λ s₁ x p. (p.0, c s₁ x p.0 p.1)) h

pub ran_goes : {A : Type 0} (R : ℕ) {s : Store} {Q : Store → A → Type 0} {x : A} → Q s x → Ran R s Q (goes s x)
ran_goes R q = ended (between_refl, q)

pub ran_fail : {A : Type 0} (R : ℕ) {s : Store} {Q : Store → A → Type 0} (e : Failure) → Ran R s Q (fail e s)
ran_fail R {s} e = fail_ends s e tt

-- a record is appended, or the table is full
pub ran_push : (R t a b : ℕ) (s : Store) {Q : Store → ℕ → Type 0} → (s.used < R → Q (added s t a b) s.used) → Ran R s Q (push R t a b s)
unfolding push
ran_push R t a b s {Q} h = go (dec_lt s.used R)
  where
    go : Dec (s.used < R) → Ran R s Q (push R t a b s)
    go (yes l) =
        let k : Between R s (added s t a b) = record { grown = omega arith; within = λ z. omega arith; long = put-length s.words s.used t a b } in
        rw (lt-ltb _ _ l, push) (ended (k, h l))
    go (no l) = let k : R ≤ s.used = omega arith in rw (le-ltb _ _ k, push) (fail_ends s _ tt)
