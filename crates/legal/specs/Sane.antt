-- A store whose records keep the rules and whose solutions are terms in scope, and what is kept of it.
use Rattle.std.specs.Prelude.{ℕ, suc, ◌+◌, ◌*◌, ◌<◌, ◌≤◌, ◌≡◌, List, get_or, set}
use Rattle.std.proofs.Common.{arith, le_refl, le_trans}
use Rattle.std.proofs.Math.Decide.{dec_lt}
use Rattle.std.proofs.Math.ListN.{length, length-set}
use Rattle.std.proofs.Math.Seq.{get_or-set_same}
use Rattle.rules.specs.Words.{NONE, HO, tag, field_a, field_b, field_c}
use Rattle.rules.specs.Records.{uses}
use Rattle.rules.specs.Store.{Store, put}
use Rattle.laws.specs.Sound.{Sound}
use Rattle.laws.specs.Members.{Legal}
use Rattle.invariants.specs.Floor.{All}
use Rattle.invariants.specs.Grow.{all_map}
use Rattle.invariants.specs.Push.{put-kept, put-tag, put_a, put_b}
use Rattle.promise.specs.Reading.{Same, same_refl, same_trans}
use Rattle.legal.specs.Uses.{uses_low, uses_same}
use Rattle.legal.specs.Stay.{sound_same}
use Rattle.legal.specs.Right.{Free}
use Rattle.legal.specs.Reading.{arity}
use Rattle.legal.specs.Scope.{Part}

-- hole h is solved by a term in scope under its context
pub record Solution (s : Store) (h : ℕ) : Type 0 where
  pub hole : h < s.used
  pub is : tag s.words h ≡ HO
  pub cap : ℕ
  pub part : Part s cap (arity s.words h) (get_or s.solutions h NONE)

pub record Sane (R : ℕ) (s : Store) : Type 0 where
  pub room : 4 * R ≤ length s.words
  pub held : R ≤ length s.solutions
  pub few : R ≤ 4096
  pub within : s.used ≤ R
  pub sound : Sound s.words s.used
  pub sols : (h : ℕ) → h < R → (get_or s.solutions h NONE ≡ NONE → ⊥) → Solution s h

pub legal : {R : ℕ} {s : Store} → Sane R s → Legal s.words s.used
legal i = let a = i.room in let b = i.few in let c = i.within in record { inside = omega arith; few = omega arith; sound = i.sound }

-- what was written stays, and what is written since refers only to what is written since, among records that count
pub record Kept (R : ℕ) (s s₁ : Store) : Type 0 where
  pub sane : Sane R s₁
  pub grown : s.used ≤ s₁.used
  pub same : Same s.used s.words s₁.words
  pub own : (j : ℕ) → s.used ≤ j → j < s₁.used → All (λ x. s.used ≤ x) (uses s₁.words j)

pub kept_refl : {R : ℕ} {s : Store} → Sane R s → Kept R s s
kept_refl i = record { sane = i; grown = le_refl _; same = same_refl; own = λ j a b. absurd (omega arith) }

pub kept_trans : {R : ℕ} {s s₁ s₂ : Store} → Kept R s s₁ → Kept R s₁ s₂ → Kept R s s₂
kept_trans {s = s} {s₁} {s₂} a b = record { sane = b.sane; grown = le_trans a.grown b.grown; same = same_trans a.grown a.same b.same; own = λ j x y. go j x y (dec_lt j s₁.used) }
  where
    go : (j : ℕ) → s.used ≤ j → j < s₂.used → Dec (j < s₁.used) → All (λ x. s.used ≤ x) (uses s₂.words j)
    go j x y (yes l) = rw (uses_same s₁.words s₁.used a.sane.sound j l s₂.words b.same) (a.own j x l)
    go j x y (no l) = let g = a.grown in all_map (λ x. s₁.used ≤ x) (λ x. s.used ≤ x) (λ x k. omega arith) (uses s₂.words j) (b.own j (omega arith) y)

-- what no lower record can refer to
pub top_free : (ws : List ℕ) (n x : ℕ) → Sound ws n → n ≤ suc x → Free ws n x
top_free ws n x g h j l = all_map (λ y. y < j) (λ y. y ≡ x → ⊥) (λ y k e. omega arith) (uses ws j) (uses_low ws n g j l)

-- what no record refers to stays so
pub free-kept : {R : ℕ} {s s₁ : Store} (x : ℕ) → Sane R s → Kept R s s₁ → x < s.used → Free s.words s.used x → Free s₁.words s₁.used x
free-kept {s = s} {s₁} x i k lt f j l = go (dec_lt j s.used)
  where
    go : Dec (j < s.used) → All (λ y. y ≡ x → ⊥) (uses s₁.words j)
    go (yes m) = rw (uses_same s.words s.used i.sound j m s₁.words k.same) (f j m)
    go (no m) = all_map (λ y. s.used ≤ y) (λ y. y ≡ x → ⊥) (λ y z e. omega arith) (uses s₁.words j) (k.own j (omega arith) l)

-- the store after a record is appended
abbrev pub added : Store → ℕ → ℕ → ℕ → Store
added s t a b = record { words = put s.words s.used t a b; solutions = s.solutions; used = s.used + 1 }

module _ {R : ℕ} {s : Store} (t a b : ℕ) (i : Sane R s) (lt : s.used < R) where
  long : 4 * s.used + 3 < length s.words
  long = let r = i.room in omega arith

  pub added_same : Same s.used s.words (added s t a b).words
  added_same = record { word = λ j l. put-kept _ _ _ _ _ j l }

  pub tag_is : tag (added s t a b).words s.used ≡ t
  tag_is = put-tag s.words s.used t a b long

  pub a_is : field_a (added s t a b).words s.used ≡ a
  a_is = put_a s.words s.used t a b long

  pub b_is : field_b (added s t a b).words s.used ≡ b
  b_is = put_b s.words s.used t a b long

  pub c_is : field_c (added s t a b).words s.used ≡ 0
  unfolding put
  c_is =
      let l : 4 * s.used + 3 < length (set (set (set s.words (4 * s.used) t) (4 * s.used + 1) a) (4 * s.used + 2) b) = simp length-set long in
      get_or-set_same (set (set (set s.words (4 * s.used) t) (4 * s.used + 1) a) (4 * s.used + 2) b) (4 * s.used + 3) 0 0 l

  -- the records before it still keep the rules
  pub old-sound : Sound (added s t a b).words s.used
  old-sound = sound_same s.words (added s t a b).words s.used (legal i) added_same

  pub free-added : (x : ℕ) → Free s.words s.used x → Free (added s t a b).words s.used x
  free-added x f j l = rw (uses_same s.words s.used i.sound j l (added s t a b).words added_same) (f j l)
