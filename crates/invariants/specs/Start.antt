-- Where the machine starts: the invariant holds, and both sides of every equation are terms.
use Rattle.std.specs.Prelude.{ℕ, zero, suc, ◌+◌, ◌-◌, ◌*◌, ◌<◌, ◌≤◌, ◌≡◌, List, [], ◌∷◌, map, Bool, true, false, get_or, take, replicate}
use Rattle.std.proofs.Math.Path.{refl}
use Rattle.std.proofs.Common.{sym, ◌∙◌, length-append, length-drop, length-take-le, get_or-take, get_or-append-add}
use native.Mathlib.Omega.{arith}
use Rattle.std.proofs.Math.Nat.{le_refl}
use borrow.Author.Tests.{eqb-true}
use Rattle.std.proofs.Math.ListN.{length, get_or-append}
use Rattle.std.proofs.lemmas.List.{length-replicate, get_or-replicate}
use Rattle.rules.specs.Lists.{those, from, below}
use Rattle.rules.specs.Words.{NONE, tag, field_a, field_b, EQ, has}
use Rattle.rules.specs.Answers.{records}
use Rattle.rules.specs.Store.{Store}
use Rattle.rules.specs.Machine.{Pair, equations}
use Rattle.rules.specs.Solve.{filled, start}
use Rattle.laws.specs.Sound.{Sound, equation_fields}
use Rattle.invariants.specs.Floor.{All, Rule, Fine, Ext}
use Rattle.invariants.specs.Grow.{tag-kept, a-kept, b_kept}
use Rattle.invariants.specs.Push.{rule_kept}
use Rattle.invariants.specs.Copy.{Nobody}
use Rattle.invariants.specs.Pairs.{sides-kept}
use Rattle.invariants.specs.Output.{Outputs}
use Rattle.invariants.specs.Running.{Sides, Running}
use Rattle.invariants.specs.Input.{is_term_lem, sound_rule}

-- no hole is solved: every label is 0
fine_start : (R n : ℕ) (s : Store) → 4 * R ≤ length s.words → R ≤ length s.solutions → R ≤ 4096 → 1 ≤ n → s.used ≡ n → n ≤ R
    → ((r : ℕ) → r < s.used → Rule s.words (λ i. 0) r) → ((h : ℕ) → h < R → get_or s.solutions h NONE ≡ NONE)
    → ((i : ℕ) → 4 * s.used ≤ i → i < 4 * R → get_or s.words i 0 ≡ 0) → Fine R n (λ i. 0) s
fine_start R n s ro he fe so us wi good free blank =
    record {
      room = ro;
      held = he;
      few = fe;
      some = so;
      since = omega arith;
      within = omega arith;
      good = good;
      sols = λ h lt ne. absurd (ne (free h lt));
      above = λ q l e one ne. absurd (ne (free (field_a s.words q) (omega arith)));
      tagged = λ r lo hi. absurd (omega arith);
      blank = blank;
    }

-- what is filled: as long as before, and as before below
pub filled-length : (i k x : ℕ) (ws : List ℕ) → i + k ≤ length ws → length (filled i k x ws) ≡ length ws
unfolding filled
filled-length i k x ws h =
    rw (length-append, length-append, length-take-le i ws (omega arith), length-replicate, length-drop) (omega arith)

pub filled-below : (i k x j : ℕ) (ws : List ℕ) → i ≤ length ws → j < i → get_or (filled i k x ws) j 0 ≡ get_or ws j 0
unfolding filled
filled-below i k x j ws h lt =
    let l : j < length (take i ws) = rw (length-take-le i ws h) lt in
    get_or-append (take i ws) _ 0 j l ∙ get_or-take i ws j 0 lt

-- and x where it is filled
pub filled_within : (i k x j d : ℕ) (ws : List ℕ) → i ≤ length ws → i ≤ j → j < i + k → get_or (filled i k x ws) j d ≡ x
unfolding filled
filled_within i k x j d ws h lo hi =
    let e : j ≡ length (take i ws) + (j - i) = rw (length-take-le i ws h) (omega arith) in
    let l : j - i < length (replicate k x) = rw (length-replicate k x) (omega arith) in
    rw e (get_or-append-add (take i ws) _ (j - i) d ∙ get_or-append (replicate k x) _ d (j - i) l ∙ get_or-replicate k (j - i) x d (omega arith))

pub records_few : (ws : List ℕ) → records ws ≤ 4096
unfolding records
records_few ws = omega arith

pub records_room : (ws : List ℕ) → 4 * records ws ≤ length ws
unfolding records
records_room ws = omega arith

-- what holds of those that pass
all-those : (P : Pair → Type 0) (ok : ℕ → Bool) (g : ℕ → Pair) (i k : ℕ) → ((e : ℕ) → i ≤ e → e < i + k → ok e ≡ true → P (g e)) → All P (map g (those ok (from i k)))
unfolding those from
all-those P ok g i zero h = tt
all-those P ok g i (suc k) h = go (ok i) refl (all-those P ok g (i + 1) k (λ e lo hi t. h e (omega arith) (omega arith) t))
  where
    go : (b : Bool) → ok i ≡ b → All P (map g (those ok (from (i + 1) k))) → All P (map g (those ok (i ∷ from (i + 1) k)))
    go true e ih = rw (e, those) (h i (le_refl _) (omega arith) e, ih)
    go false e ih = rw (e, those) ih

-- without a record there is no equation
some_record : (ws : List ℕ) (n : ℕ) → 1 ≤ length (equations ws n) → 1 ≤ n
unfolding equations those below from
some_record ws zero h = h
some_record ws (suc n) h = omega arith

-- the start of a sound table
module _ (ws ss : List ℕ) (n : ℕ) (g : Sound ws n) (in_table : n ≤ records ws) (held : records ws ≤ length ss) where
  -- the table as it is given, with nothing solved
  abbrev given : Store
  given = record { words = ws; solutions = (start ws ss n).solutions; used = n }

  start_held : records ws ≤ length (start ws ss n).solutions
  unfolding start
  start_held = let l : 0 + records ws ≤ length ss = omega arith in rw (filled-length 0 (records ws) NONE ss l) held

  start-free : (h : ℕ) → h < records ws → get_or (start ws ss n).solutions h NONE ≡ NONE
  unfolding start
  start-free h lt = filled_within 0 (records ws) NONE h NONE ss (omega arith) (omega arith) (omega arith)

  -- of its records only those given are looked at: the words after them may be anything
  given_fine : 1 ≤ n → Fine n n (λ i. 0) given
  given_fine some =
      let a = records_few ws in
      let b = records_room ws in
      let l = start_held in
      fine_start n n given (omega arith) (omega arith) (omega arith) some refl (le_refl _) (sound_rule ws n g (omega arith) (omega arith)) (λ h lt. start-free h (omega arith)) (λ i lo hi. absurd (omega arith))

  start_ext : Ext Nobody (λ i. 0) given (λ i. 0) (start ws ss n)
  unfolding start
  start_ext =
      let b = records_room ws in
      record { grown = le_refl _; kept = λ i lt. filled-below (4 * n) (4 * (records ws - n)) 0 i ws (omega arith) lt; labels = λ r lt. refl; none = λ q a c. absurd (omega arith) }

  pub start_fine : 1 ≤ n → Fine (records ws) n (λ i. 0) (start ws ss n)
  unfolding start
  start_fine some =
      let a = records_few ws in
      let b = records_room ws in
      let l : 4 * n + 4 * (records ws - n) ≤ length ws = omega arith in
      fine_start (records ws) n (start ws ss n) (rw (filled-length (4 * n) (4 * (records ws - n)) 0 ws l) b) start_held a some refl in_table
      (λ r lt. rule_kept Nobody n n (λ i. 0) given (λ i. 0) (start ws ss n) r (given_fine some) start_ext lt) start-free
      (λ i lo hi. filled_within (4 * n) (4 * (records ws - n)) 0 i 0 ws (omega arith) lo (omega arith))

  equation_sides : (e : ℕ) → e < n → tag ws e ≡ EQ → Sides (λ i. 0) given (field_a ws e, field_b ws e)
  equation_sides e lt t =
      let q = equation_fields ws n g e lt t in
      record { left = record { below = omega arith; term = is_term_lem ws (field_a ws e) q.0.1; up = omega arith }; right = record { below = omega arith; term = is_term_lem ws (field_b ws e) q.1.1; up = omega arith } }

  start-sides : (e : ℕ) → e < n → has (start ws ss n).words e EQ ≡ true → Sides (λ i. 0) (start ws ss n) (field_a (start ws ss n).words e, field_b (start ws ss n).words e)
  unfolding has
  start-sides e lt t =
      let x = start_ext in
      let i = equation_sides e lt (sym (tag-kept Nobody (records ws) n (λ i. 0) given (λ i. 0) (start ws ss n) e x lt) ∙ eqb-true _ _ t) in
      let a = a-kept Nobody (records ws) n (λ i. 0) given (λ i. 0) (start ws ss n) e x lt in
      let b = b_kept Nobody (records ws) n (λ i. 0) given (λ i. 0) (start ws ss n) e x lt in
      rw (a, b) (sides-kept (records ws) n (λ i. 0) given (λ i. 0) (start ws ss n) ((field_a ws e, field_b ws e) ∷ []) x (i, tt)).0

  pub start_running : (C : ℕ) → length (equations (start ws ss n).words n) ≤ C → Running (records ws) C n (λ i. 0) (start ws ss n) (equations (start ws ss n).words n)
  unfolding equations below
  start_running C few =
      record {
        some = some_record (start ws ss n).words n;
        fine = start_fine;
        sides = all-those (Sides (λ i. 0) (start ws ss n)) (λ e. has (start ws ss n).words e EQ) (λ e. (field_a (start ws ss n).words e, field_b (start ws ss n).words e)) 0 n (λ e lo hi t. start-sides e (omega arith) t);
        few = few;
      }

-- where show starts: an output of which no record is used
abbrev pub blank : List ℕ → List ℕ → Store
blank os ss = record { words = filled 0 (4 * records os) 0 os; solutions = ss; used = 0 }

pub blank_outputs : (os ss : List ℕ) → Outputs (records os) (blank os ss)
blank_outputs os ss =
    let b = records_room os in
    let l : 0 + 4 * records os ≤ length os = omega arith in
    record { room = rw (filled-length 0 (4 * records os) 0 os l) b; few = records_few os; within = omega arith; good = λ r lt. absurd (omega arith) }
