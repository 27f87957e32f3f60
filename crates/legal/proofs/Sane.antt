-- A store stays sane where a right record is appended.
use Rattle.std.specs.Prelude.{ℕ, ◌+◌, ◌<◌, ◌≤◌, ◌≡◌, List, true, get_or}
use Rattle.std.proofs.Common.{◌∙◌, arith, le_refl}
use Rattle.std.proofs.Math.Decide.{dec_lt}
use Rattle.rules.specs.Words.{NONE}
use Rattle.rules.specs.Records.{uses, keeps}
use Rattle.rules.specs.Store.{Store}
use Rattle.invariants.specs.Floor.{All}
use Rattle.invariants.specs.Grow.{all_map}
use Rattle.invariants.specs.Push.{put-length}
use Rattle.promise.specs.Reading.{same_trans}
use Rattle.legal.specs.Uses.{uses_same}
use Rattle.legal.specs.Stay.{tag_same}
use Rattle.legal.specs.Right.{Free, Right}
use Rattle.legal.proofs.Right.{right_keeps}
use Rattle.legal.specs.Reading.{arity, arity_same}
use Rattle.legal.specs.Scope.{part_on}
use Rattle.legal.specs.Sane.{Kept, added, old-sound, added_same, Solution, Sane, legal}

module _ {R : ℕ} {s : Store} (t a b : ℕ) (i : Sane R s) (lt : s.used < R) where
  -- a right record, all of whose references that count are free and not older than s₀
  pub append : (s₀ : Store) → Kept R s₀ s → Right (added s t a b).words s.used (λ x. (s₀.used ≤ x) × Free (added s t a b).words s.used x) → Kept R s₀ (added s t a b)
  append s₀ k r =
      record {
        sane = record {
          room = rw (put-length s.words s.used t a b) i.room;
          held = i.held;
          few = i.few;
          within = omega arith;
          sound = λ j l. now j (dec_lt j s.used) l;
          sols = λ h l n. solution h (i.sols h l n);
        };
        grown = let g = k.grown in omega arith;
        same = same_trans k.grown k.same (added_same t a b i lt);
        own = λ j x y. own j x y (dec_lt j s.used);
      }
    where
      ws₁ : List ℕ
      ws₁ = (added s t a b).words

      free : Right ws₁ s.used (Free ws₁ s.used)
      free = record { shaped_so = r.shaped_so; listed_so = r.listed_so; no_type = r.no_type; once = r.once; used = all_map (λ x. (s₀.used ≤ x) × Free ws₁ s.used x) (Free ws₁ s.used) (λ x p. p.1) (uses ws₁ s.used) r.used }

      now : (j : ℕ) → Dec (j < s.used) → j < s.used + 1 → keeps ws₁ j ≡ true
      now j (yes l) h = old-sound t a b i lt j l
      now j (no l) h = let z : j ≡ s.used = omega arith in rw z (right_keeps ws₁ s.used free)

      solution : (h : ℕ) → Solution s h → Solution (added s t a b) h
      solution h o =
          let x = o.hole in
          record {
            hole = omega arith;
            is = tag_same s.words ws₁ s.used (legal i) (added_same t a b i lt) h x ∙ o.is;
            cap = o.cap;
            part = rw (arity_same s.words s.used (legal i) ws₁ (added_same t a b i lt) h x o.is) (part_on o.cap o.cap (arity s.words h) (get_or s.solutions h NONE) (legal i) (added_same t a b i lt) (omega arith) (le_refl _) o.part);
          }

      own : (j : ℕ) → s₀.used ≤ j → j < s.used + 1 → Dec (j < s.used) → All (λ x. s₀.used ≤ x) (uses ws₁ j)
      own j x y (yes l) = rw (uses_same s.words s.used i.sound j l ws₁ (added_same t a b i lt)) (k.own j x l)
      own j x y (no l) =
          let z : j ≡ s.used = omega arith in
          rw z (all_map (λ x. (s₀.used ≤ x) × Free ws₁ s.used x) (λ x. s₀.used ≤ x) (λ x p. p.0) (uses ws₁ s.used) r.used)
