-- What solving and show answer: never that fuel is spent.
use Rattle.std.specs.Prelude.{ℕ, suc, ◌-◌, ◌<◌, ◌≤◌, ◌≡◌, refl, List, Bool, true, ltb}
use Rattle.std.proofs.Common.{arith, ltb-true}
use Rattle.rules.specs.declared.Failure.{Failure}
use Rattle.rules.specs.declared.Failure.TheVariants.{Clash, Escape, Occurs, QueueFull, TableFull}
use Rattle.rules.specs.Lists.{both}
use Rattle.rules.specs.Words.{HO, has}
use Rattle.rules.specs.Answers.{number, records, pairs}
use Rattle.rules.specs.Store.{Store, Out, goes, fails, spent}
use Rattle.rules.specs.Machine.{Pair, machine}
use Rattle.rules.specs.Solve.{Refusal, admitted, refused, refusal, start, Behind, leaves, solve}
use Rattle.rules.specs.Show.{answer, shows, show}
use Rattle.laws.specs.Tests.{both_true}
use Rattle.invariants.specs.Floor.{Fine, Grows}
use Rattle.invariants.specs.Copy.{Nobody}
use Rattle.invariants.specs.Run.{Any}
use Rattle.invariants.specs.Admit.{Admitted, Says, refusal_says}
use Rattle.invariants.specs.Machine.{Ended}
use Rattle.invariants.proofs.Machine.{machine-ended, machine_grows}
use Rattle.invariants.specs.Output.{Writes, ARoot}
use Rattle.invariants.proofs.Showing.{answer_writes}
use Rattle.invariants.specs.Start.{blank, blank_outputs}
use Rattle.invariants.specs.Answers.{Answers}

number_low : (e : Failure) → (1 ≤ number e) × (number e ≤ 9)
unfolding number
number_low Clash = (omega arith, omega arith)
number_low Escape = (omega arith, omega arith)
number_low Occurs = (omega arith, omega arith)
number_low QueueFull = (omega arith, omega arith)
number_low TableFull = (omega arith, omega arith)

-- what solving leaves says an answer of the document
leaves_low : (asked : Bool) (ws ss qs : List ℕ) (n : ℕ) (f : Refusal) → Says asked ws ss n f → (leaves f ws ss qs n).said.answer ≤ 10
unfolding leaves
leaves_low asked ws ss qs n (refused x) h = h.1
leaves_low asked ws ss qs n admitted h = go (machine (records ws) (pairs qs) n (start ws ss n)) refl (machine-ended asked ws ss n (pairs qs) h)
  where
    go : (o : Out (List Pair)) → machine (records ws) (pairs qs) n (start ws ss n) ≡ o → Ended o → (leaves admitted ws ss qs n).said.answer ≤ 10
    go (goes s q) e i = rw (e, leaves) (omega arith)
    go (fails ws₁ ss₁ x) e i = let k = (number_low x).1 in rw (e, leaves) (omega arith)
    go spent e i = absurd i

-- solving answers at most 10
pub solve_low : (ws ss qs : List ℕ) (n : ℕ) → (solve ws ss qs n).said.answer ≤ 10
unfolding solve
solve_low ws ss qs n = leaves_low true ws ss qs n (refusal true ws ss n) (refusal_says true ws ss n)

-- where solving does not answer 0, show answers the same
shows_same : (l : Behind) (os : List ℕ) (h : ℕ) → 1 ≤ l.said.answer → l.said.answer ≤ 10 → Answers os (shows l os h)
unfolding shows
shows_same l os h some low =
    let e : l.said.answer ≡ suc (l.said.answer - 1) = omega arith in
    let z : (shows l os h).behind.said.answer ≡ l.said.answer = rw (e, shows) e in
    record { low = omega arith; written = λ y. absurd (omega arith) }

-- where it does, showing ends
pub shows_answers : (R n : ℕ) (home : ℕ → ℕ) (t : Store) (l : Behind) (os : List ℕ) (h : ℕ) → Fine R n home t → h < R → l.said.answer ≡ 0 → l.table ≡ t.words → l.solutions ≡ t.solutions
    → Answers os (shows l os h)
unfolding shows
shows_answers R n home t l os h f lt zero_said table_is solutions_are =
    go (answer (records os) l.table h (blank os l.solutions)) refl
    (rw table_is (answer_writes R n (records os) home t f h (blank os l.solutions) lt (blank_outputs os l.solutions) solutions_are))
  where
    go : (o : Out ℕ) → answer (records os) l.table h (blank os l.solutions) ≡ o → Writes (records os) t.solutions (ARoot 0) (blank os l.solutions) o → Answers os (shows l os h)
    go (goes s r) e i =
        let z : s.used - 1 ≡ r = omega arith in
        rw (zero_said, shows, e) (record { low = omega arith; written = λ y. record { out = s; outputs = i.outputs; words_are = refl; used_is = refl; root = rw z i.root } })
    go (fails ws ss x) e i = rw (zero_said, shows, e) (record { low = omega arith; written = λ y. absurd (omega arith) })
    go spent e i = absurd i

-- what show answers
pub show_says : (ws ss qs os : List ℕ) (n h : ℕ) → Answers os (show ws ss qs os n h)
unfolding show leaves
show_says ws ss qs os n h = said (refusal (both (ltb h n) (has ws h HO)) ws ss n) (refusal_says (both (ltb h n) (has ws h HO)) ws ss n)
  where
    -- what the machine comes to, for an input hole
    ran : Admitted (both (ltb h n) (has ws h HO)) ws ss n → (o : Out (List Pair)) → machine (records ws) (pairs qs) n (start ws ss n) ≡ o
        → Grows Nobody Any (records ws) n (λ i. 0) (start ws ss n) o → Answers os (shows (leaves admitted ws ss qs n) os h)
    ran a (goes s q) i g =
        let lt : h < n = ltb-true _ _ (both_true _ _ a.is).0 in
        let it = a.in_table in
        shows_answers (records ws) n g.home₁ s (leaves admitted ws ss qs n) os h g.fine (omega arith) (rw (i, leaves)) (rw (i, leaves)) (rw (i, leaves))
    ran a (fails ws₁ ss₁ x) i g =
        let k = number_low x in
        let k₀ = k.0 in
        let k₁ = k.1 in
        let z : (leaves admitted ws ss qs n).said.answer ≡ number x = rw (i, leaves) in
        shows_same (leaves admitted ws ss qs n) os h (omega arith) (omega arith)
    ran a spent i g = absurd g

    said : (f : Refusal) → Says (both (ltb h n) (has ws h HO)) ws ss n f → Answers os (shows (leaves f ws ss qs n) os h)
    said (refused x) i = let i₀ = i.0 in let i₁ = i.1 in shows_same (leaves (refused x) ws ss qs n) os h (omega arith) i₁
    said admitted a =
        let lt : h < n = ltb-true _ _ (both_true _ _ a.is).0 in
        ran a (machine (records ws) (pairs qs) n (start ws ss n)) refl (machine_grows (both (ltb h n) (has ws h HO)) ws ss n (pairs qs) a (omega arith))
