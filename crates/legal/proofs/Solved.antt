-- After solving with answer 0 the records in use form a legal table again, within the room.
use Rattle.std.specs.Prelude.{ℕ, ◌*◌, ◌-◌, ◌≤◌, ◌≡◌, refl, List, true, not, length, None}
use Rattle.std.proofs.Common.{◌∙◌, arith}
use Rattle.rules.specs.declared.Failure.{Failure}
use Rattle.rules.specs.declared.Failure.TheVariants.{Clash, Escape, Occurs, QueueFull, TableFull}
use Rattle.rules.specs.Words.{NONE}
use Rattle.rules.specs.Answers.{number, records, pairs}
use Rattle.rules.specs.Records.{keeps, broken}
use Rattle.rules.specs.Store.{Store, Out, goes, fails, spent}
use Rattle.rules.specs.Machine.{Pair, machine}
use Rattle.rules.specs.Solve.{Refusal, admitted, refused, refusal, start, leaves, solve}
use Rattle.laws.specs.Search.{lowest_nowhere}
use Rattle.laws.specs.Sound.{Sound}
use Rattle.invariants.specs.Admit.{Says, refusal_says}
use Rattle.invariants.specs.Machine.{Ended}
use Rattle.invariants.proofs.Machine.{machine-ended}
use Rattle.invariants.specs.Start.{filled-length, records_room}
use Rattle.promise.specs.Admitting.{admitted_is}
use Rattle.promise.specs.Outcomes.{went}
use Rattle.legal.specs.Sane.{Sane}
use Rattle.legal.specs.Ran.{Ran}
use Rattle.legal.proofs.Start.{machine_ran}

sound-broken : (ws : List ℕ) (n : ℕ) → Sound ws n → broken ws n ≡ None
unfolding broken
sound-broken ws n g = lowest_nowhere n (λ r. not (keeps ws r)) (λ j l. rw (g j l))

number_some : (e : Failure) → 1 ≤ number e
unfolding number
number_some Clash = omega arith
number_some Escape = omega arith
number_some Occurs = omega arith
number_some QueueFull = omega arith
number_some TableFull = omega arith

-- where solving answers 0, a sane store is left
solved_sane : (ws ss qs : List ℕ) (n : ℕ) → (solve ws ss qs n).said.answer ≡ 0 → (s : Store) × Sane (records ws) s × ((solve ws ss qs n).table ≡ s.words) × ((solve ws ss qs n).said.used ≡ s.used)
unfolding solve leaves
solved_sane ws ss qs n = said (refusal true ws ss n) refl (refusal_says true ws ss n)
  where
    Left : Refusal → Type 0
    Left f = (leaves f ws ss qs n).said.answer ≡ 0 → (s : Store) × Sane (records ws) s × ((leaves f ws ss qs n).table ≡ s.words) × ((leaves f ws ss qs n).said.used ≡ s.used)

    ran : refusal true ws ss n ≡ admitted → (o : Out (List Pair)) → machine (records ws) (pairs qs) n (start ws ss n) ≡ o → Left admitted
    ran a (goes s q) e z =
        let h : Ran (records ws) (start ws ss n) (λ s₁ x. Sane (records ws) s₁) (goes s q) = rw e at (machine_ran ws ss n (admitted_is ws ss n a) (pairs qs)) in
        (s, (went h).1, rw (e, leaves), rw (e, leaves))
    ran a (fails ws₁ ss₁ x) e z = let k = number_some x in let y : number x ≡ 0 = (rw (e, leaves) at z) in absurd (omega arith)
    ran a spent e z = let y : NONE ≡ 0 = (rw (e, leaves) at z) in absurd (omega arith)

    said : (f : Refusal) → refusal true ws ss n ≡ f → Says true ws ss n f → Left f
    said (refused x) e i z = let k = i.0 in absurd (omega arith)
    said admitted e i z = ran e (machine (records ws) (pairs qs) n (start ws ss n)) refl z

-- the first `used` records are legal
pub solved_legal : (ws ss qs : List ℕ) (n : ℕ) → (solve ws ss qs n).said.answer ≡ 0 → broken (solve ws ss qs n).table (solve ws ss qs n).said.used ≡ None
solved_legal ws ss qs n e = let h = solved_sane ws ss qs n e in rw (h.2, h.3) (sound-broken h.0.words h.0.used h.1.sound)

-- and there is room for them
pub solved-within : (ws ss qs : List ℕ) (n : ℕ) → (solve ws ss qs n).said.answer ≡ 0 → (solve ws ss qs n).said.used ≤ records ws
solved-within ws ss qs n e = let h = solved_sane ws ss qs n e in let w = h.1.within in let u = h.3 in omega arith

start-length : (ws ss : List ℕ) (n : ℕ) → n ≤ records ws → length (start ws ss n).words ≡ length ws
unfolding start
start-length ws ss n l = let r = records_room ws in filled-length (4 * n) (4 * (records ws - n)) 0 ws (omega arith)

-- the table is as long as before
solved-length : (ws ss qs : List ℕ) (n : ℕ) → length (solve ws ss qs n).table ≡ length ws
unfolding solve leaves
solved-length ws ss qs n = said (refusal true ws ss n) refl (refusal_says true ws ss n)
  where
    ran : refusal true ws ss n ≡ admitted → n ≤ records ws → (o : Out (List Pair)) → machine (records ws) (pairs qs) n (start ws ss n) ≡ o → Ended o → length (leaves admitted ws ss qs n).table ≡ length ws
    ran a l (goes s q) e i =
        let h : Ran (records ws) (start ws ss n) (λ s₁ x. Sane (records ws) s₁) (goes s q) = rw e at (machine_ran ws ss n (admitted_is ws ss n a) (pairs qs)) in
        rw (e, leaves) ((went h).0.long ∙ start-length ws ss n l)
    ran a l (fails ws₁ ss₁ x) e i = rw (e, leaves) (start-length ws ss n l)
    ran a l spent e i = absurd i

    said : (f : Refusal) → refusal true ws ss n ≡ f → Says true ws ss n f → length (leaves f ws ss qs n).table ≡ length ws
    said (refused x) e i = refl
    said admitted e i = ran e i.in_table (machine (records ws) (pairs qs) n (start ws ss n)) refl (machine-ended true ws ss n (pairs qs) i)

pub solved-records : (ws ss qs : List ℕ) (n : ℕ) → records (solve ws ss qs n).table ≡ records ws
unfolding records
solved-records ws ss qs n = rw (solved-length ws ss qs n)
