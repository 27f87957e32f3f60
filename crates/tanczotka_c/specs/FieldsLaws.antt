-- A packed reply can be taken apart: answer, place and used do not run into one another.
use Prim.Native.Nat.{ℕ, zero, suc, ◌+◌, ◌/◌, ◌%◌, ◌<◌, ◌≤◌, min}
use Rattle.std.specs.Prelude.{◌≡◌, List, [], ◌∷◌, map, Bool, true, false, not, ◌⊎◌, length, eqb, ltb, Option, ℕ, Some, None}
use Rattle.std.proofs.Math.Path.{refl}
use Rattle.std.proofs.Math.Logic.{inl}
use Rattle.std.proofs.Common.{inr, arith, eqb-true, ltb-false}
use Rattle.std.proofs.lemmas.Bool.{eqb-false}
use Rattle.rules.specs.declared.Reply.{Reply}
use Rattle.rules.specs.Lists.{both, either, least, those, from, below, lowest, enough}
use Rattle.rules.specs.Words.{NONE, LA, HO, EQ, tag, field_a, field_b, has, is_term, arguments}
use Rattle.rules.specs.Answers.{records, pairs}
use Rattle.rules.specs.Records.{broken}
use Rattle.rules.specs.Typing.{ill_typed}
use Rattle.rules.specs.Pattern.{pattern, offence_in, offence, no_pattern}
use Rattle.rules.specs.Store.{Out, goes, fails, spent}
use Rattle.rules.specs.Machine.{Pair, machine}
use Rattle.rules.specs.Solve.{admitted, refusal, start, Behind, leaves, solve}
use Rattle.rules.specs.Show.{answer as answer_of, shows, show}
use Rattle.rules.specs.File.{read, marked, is_known}
use Rattle.rules.specs.FileWrite.{write}
use Rattle.laws.specs.Sound.{Sound, broken_none, lambda_field, equation_fields}
use Rattle.laws.specs.Search.{lowest-below}
use Rattle.laws.specs.Members.{Every, none, more, every_so}
use Rattle.laws.specs.Forms.{Term, is_lambda, is_constant, is_variable, is_hole_lem, term_of, offence_lambda, offence_constant, offence_variable, offence_hole}
use Rattle.laws.specs.Unrolled.{arguments_every}
use Rattle.invariants.specs.Start.{blank, records_few}
use Rattle.invariants.proofs.Answers.{solve_low, show_says}
use Rattle.solver.specs.UsedLaws.{solve-used, show-used, read-used}
use Rattle.write.specs.SaysLaws.{write_says}
use Rattle.tanczotka_c.specs.Packed.{packed}

-- the lowest 16 bits are the answer, the next 16 the place, and what lies above them is used
pub record Fields (r : Reply) : Type 0 where
  pub answer : packed r % 65536 ≡ r.answer
  pub place : packed r / 65536 % 65536 ≡ r.place
  pub used : packed r / 4294967296 ≡ r.used

low_fields : (r : Reply) → r.answer < 65536 → r.place < 65536 → r.used ≤ 4096 → Fields r
unfolding packed
low_fields r a p u = record { answer = omega arith; place = omega arith; used = omega arith }

-- An offending occurrence is a record below n

-- no record, or one below n
abbrev Names : ℕ → ℕ → Type 0
Names n x = (x ≡ NONE) ⊎ (x < n)

min_names : (n x y : ℕ) → Names n x → Names n y → Names n (min x y)
min_names n x y (inl a) (inl b) = inl (omega arith)
min_names n x y (inl a) (inr b) = inr (omega arith)
min_names n x y (inr a) h = inr (omega arith)

least_names : (n b : ℕ) (off : ℕ → ℕ) (xs : List ℕ) → Names n b → Every (λ x. Names n (off x)) xs → Names n (least b (map off xs))
unfolding least
least_names n b off [] h none = h
least_names n b off (x ∷ xs) h (more p ps) = min_names n (off x) (least b (map off xs)) p (least_names n b off xs h ps)

those-below : (n : ℕ) (ok : ℕ → Bool) (k i : ℕ) → i + k ≤ n → Every (λ e. (e < n) × (ok e ≡ true)) (those ok (from i k))
unfolding those from
those-below n ok zero i h = none
those-below n ok (suc k) i h = go (ok i) refl (those-below n ok k (i + 1) (omega arith))
  where
    go : (b : Bool) → ok i ≡ b → Every (λ e. (e < n) × (ok e ≡ true)) (those ok (from (i + 1) k)) → Every (λ e. (e < n) × (ok e ≡ true)) (those ok (i ∷ from (i + 1) k))
    go true q ih = let l : i < n = omega arith in rw (q, those) (more (l, q) ih)
    go false q ih = rw (q, those) ih

module _ (ws : List ℕ) (n : ℕ) (g : Sound ws n) where
  -- one level of a term names itself or what its parts name
  level_names : (off : ℕ → ℕ) (r : ℕ) → r < n → is_term ws r ≡ true → ((x : ℕ) → x < r → is_term ws x ≡ true → Names n (off x)) → Names n (offence_in off ws r)
  level_names off r h term names = go (term_of ws r term)
    where
      parts : (b : ℕ) → Names n b → (tag ws r ≡ LA → ⊥) → Names n (least b (map off (arguments ws r)))
      parts b m z = least_names n b off (arguments ws r) m (every_so _ _ _ (λ x p. names x p.0 p.1) (arguments_every ws n g r h z term))

      itself : (b : Bool) → Names n (elim b [ true ↦ NONE | false ↦ r ])
      itself true = inl refl
      itself false = inr h

      go : Term ws r → Names n (offence_in off ws r)
      go (is_lambda t) = let b = lambda_field ws n g r h t in rw (offence_lambda off ws r t) (names (field_a ws r) b.0 b.1)
      go (is_constant t) = rw (offence_constant off ws r t) (parts NONE (inl refl) (λ e. omega arith))
      go (is_variable t) = rw (offence_variable off ws r t) (parts NONE (inl refl) (λ e. omega arith))
      go (is_hole_lem t) = rw (offence_hole off ws r t) (parts _ (itself (pattern ws r)) (λ e. omega arith))

  offence_names : (f r : ℕ) → r < n → is_term ws r ≡ true → Names n (offence f ws r)
  unfolding offence
  offence_names zero r h t = inl refl
  offence_names (suc f) r h t = level_names (λ x. offence f ws x) r h t (λ x lt e. offence_names f x (omega arith) e)

  sides_names : (e : ℕ) → e < n → tag ws e ≡ EQ → Names n (min (offence enough ws (field_a ws e)) (offence enough ws (field_b ws e)))
  sides_names e h t =
      let s = equation_fields ws n g e h t in
      let a = s.0.0 in
      let b = s.1.0 in
      min_names n _ _ (offence_names enough (field_a ws e) (omega arith) s.0.1) (offence_names enough (field_b ws e) (omega arith) s.1.1)

  no_pattern_names : Names n (no_pattern ws n)
  unfolding no_pattern below has
  no_pattern_names = least_names n NONE _ _ (inl refl) (every_so _ _ _ (λ e p. sides_names e p.0 (eqb-true _ _ p.1)) (those-below n (λ e. has ws e EQ) n 0 (omega arith)))

-- A place is 0 or a record, of which there are at most 4,096

fitting_few : (ws : List ℕ) (n : ℕ) → ltb (records ws) n ≡ false → n ≤ 4096
fitting_few ws n e = let l : n ≤ records ws = ltb-false _ _ e in let m = records_few ws in omega arith

admitted_place : (ws ss qs : List ℕ) (n : ℕ) → (leaves admitted ws ss qs n).said.place ≡ 0
unfolding leaves
admitted_place ws ss qs n = go (machine (records ws) (pairs qs) n (start ws ss n)) refl
  where
    go : (o : Out (List Pair)) → machine (records ws) (pairs qs) n (start ws ss n) ≡ o → (leaves admitted ws ss qs n).said.place ≡ 0
    go (goes s q) e = rw (e, leaves)
    go (fails ws₁ ss₁ x) e = rw (e, leaves)
    go spent e = rw (e, leaves)

-- answers 5, 6 and 7 name a record below n, all others 0
leaves-place : (asked : Bool) (ws ss qs : List ℕ) (n : ℕ) → (leaves (refusal asked ws ss n) ws ss qs n).said.place < 4096
unfolding leaves refusal either broken ill_typed
leaves-place asked ws ss qs n = go (ltb (records ws) n) refl (ltb (length ss) (records ws)) refl (broken ws n) refl asked refl (ill_typed ws n) refl (eqb (no_pattern ws n) NONE) refl
  where
    named : n ≤ 4096 → eqb (no_pattern ws n) NONE ≡ false → Names n (no_pattern ws n) → no_pattern ws n < 4096
    named m e (inl z) = absurd (eqb-false _ _ e z)
    named m e (inr l) = omega arith

    go : (a : Bool) → ltb (records ws) n ≡ a → (b : Bool) → ltb (length ss) (records ws) ≡ b → (c : Option ℕ) → broken ws n ≡ c → (d : Bool) → asked ≡ d → (e : Option ℕ) → ill_typed ws n ≡ e
        → (f : Bool) → eqb (no_pattern ws n) NONE ≡ f → (leaves (refusal asked ws ss n) ws ss qs n).said.place < 4096
    go true a b b₁ c c₁ d d₁ e e₁ f f₁ = rw (a, refusal, leaves) (omega arith)
    go false a true b c c₁ d d₁ e e₁ f f₁ = rw (a, refusal, b, leaves) (omega arith)
    go false a false b (Some x) c d d₁ e e₁ f f₁ = let m = fitting_few ws n a in let l = lowest-below n _ x c in rw (a, refusal, b, c, leaves) (omega arith)
    go false a false b None c false d e e₁ f f₁ = rw (a, refusal, b, c, d, leaves) (omega arith)
    go false a false b None c true d (Some x) e f f₁ = let m = fitting_few ws n a in let l = lowest-below n _ x e in rw (a, refusal, b, c, d, e, leaves) (omega arith)
    go false a false b None c true d None e false f =
        rw (a, refusal, b, c, d, e, f, leaves) (named (fitting_few ws n a) f (no_pattern_names ws n (broken_none ws n c)))
    go false a false b None c true d None e true f = let z = admitted_place ws ss qs n in rw (a, refusal, b, c, d, e, f) (omega arith)

-- where solving answers 0 show's place is 0, otherwise solving's
shows-place : (l : Behind) (os : List ℕ) (h : ℕ) → l.said.place < 4096 → (shows l os h).behind.said.place < 4096
unfolding shows
shows-place l os h p = go l.said.answer refl
  where
    ran : l.said.answer ≡ 0 → (o : Out ℕ) → answer_of (records os) l.table h (blank os l.solutions) ≡ o → (shows l os h).behind.said.place < 4096
    ran e (goes s r) f = rw (e, shows, f) (omega arith)
    ran e (fails ws ss x) f = rw (e, shows, f) (omega arith)
    ran e spent f = rw (e, shows, f) (omega arith)

    go : (k : ℕ) → l.said.answer ≡ k → (shows l os h).behind.said.place < 4096
    go zero e = ran e (answer_of (records os) l.table h (blank os l.solutions)) refl
    go (suc k) e = rw (e, shows) p

-- reading answers 0, 4, 12 or 13; 13 names a record below the file's number of records
read-place : (bs ws : List ℕ) → ((read bs ws).said.answer ≤ 13) × ((read bs ws).said.place < 4096)
unfolding read
read-place bs ws = go (either (ltb 28672 (length bs)) (not (eqb (length bs % 14) 0))) refl (ltb (records ws) (length bs / 14)) refl (lowest (length bs / 14) (λ r. not (is_known (marked bs r)))) refl
  where
    go : (a : Bool) → either (ltb 28672 (length bs)) (not (eqb (length bs % 14) 0)) ≡ a → (b : Bool) → ltb (records ws) (length bs / 14) ≡ b → (c : Option ℕ) → lowest (length bs / 14) (λ r. not (is_known (marked bs r))) ≡ c
        → ((read bs ws).said.answer ≤ 13) × ((read bs ws).said.place < 4096)
    go true e b f c g = rw (e, read) (omega arith, omega arith)
    go false e true f c g = rw (e, read, f) (omega arith, omega arith)
    go false e false f (Some r) g =
        let m = fitting_few ws (length bs / 14) f in
        let l = lowest-below (length bs / 14) _ r g in
        rw (e, read, f, g) (omega arith, omega arith)
    go false e false f None g = rw (e, read, f, g) (omega arith, omega arith)

-- What each of the four functions replies

pub solve_fields : (ws ss qs : List ℕ) (n : ℕ) → Fields (solve ws ss qs n).said
unfolding solve
solve_fields ws ss qs n =
    let a = solve_low ws ss qs n in
    let p = leaves-place true ws ss qs n in
    low_fields _ (omega arith) (omega arith) (solve-used ws ss qs n _ _ _ _ refl)

pub show_fields : (ws ss qs os : List ℕ) (n h : ℕ) → Fields (show ws ss qs os n h).behind.said
unfolding show
show_fields ws ss qs os n h =
    let a = (show_says ws ss qs os n h).low in
    let p : (show ws ss qs os n h).behind.said.place < 4096 = shows-place _ os h (leaves-place (both (ltb h n) (has ws h HO)) ws ss qs n) in
    low_fields _ (omega arith) (omega arith) (show-used ws ss qs n os h _ _ _ _ _ refl)

pub read_fields : (bs ws : List ℕ) → Fields (read bs ws).said
read_fields bs ws =
    let s = read-place bs ws in
    let a = s.0 in
    let p = s.1 in
    low_fields _ (omega arith) (omega arith) (read-used bs ws _ _ refl)

pub write_fields : (ws : List ℕ) (n : ℕ) (bs : List ℕ) → Fields (write ws n bs).said
write_fields ws n bs = let s = write_says ws n bs in low_fields _ (omega arith) (omega arith) (omega arith)
