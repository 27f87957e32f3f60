-- The machine, show and printing never run out of fuel: every part of the machine ends, and every input has an answer of the document.
use Rattle.std.specs.Prelude.{ℕ, ◌<◌, ◌≤◌, ◌≡◌, List, ◌∷◌, ◌≢◌, true}
use Rattle.std.proofs.Common.{arith}
use Rattle.rules.specs.Lists.{enough}
use Rattle.rules.specs.Words.{NONE, tag, HA}
use Rattle.rules.specs.Answers.{records, pairs}
use Rattle.rules.specs.Store.{Store, spent}
use Rattle.rules.specs.Rewrite.{expand}
use Rattle.rules.specs.Walk.{assign}
use Rattle.rules.specs.Machine.{Pair, step, run, steps, machine}
use Rattle.rules.specs.Solve.{admitted, refusal, start, solve}
use Rattle.rules.specs.Show.{Shown, show}
use Rattle.rules.specs.Text.{print_term, printed}
use Rattle.invariants.specs.Floor.{Sub, Fine, Grows}
use Rattle.invariants.specs.Copy.{Nobody, Expanded}
use Rattle.invariants.proofs.Copy.{expand_grows}
use Rattle.invariants.proofs.Assign.{assign_grows}
use Rattle.invariants.specs.Running.{Running}
use Rattle.invariants.proofs.Falls.{steps-more}
use Rattle.invariants.proofs.Turn.{step_grows, lefts_low}
use Rattle.invariants.proofs.Run.{run_grows}
use Rattle.invariants.specs.Admit.{Admitted, refusal_says}
use Rattle.invariants.proofs.Machine.{machine-ended}
use Rattle.invariants.specs.Output.{ATerm}
use Rattle.invariants.specs.Answers.{Readable}
use Rattle.invariants.proofs.Answers.{solve_low, show_says}
use Rattle.invariants.specs.Printed.{printed_unrolls}

-- step 1 ends, with every copy that it makes
pub expand_ends : (R n r : ℕ) (s : Store) (home : ℕ → ℕ) → Fine R n home s → Sub s.words home 0 s.used r → expand enough R r s ≢ spent
expand_ends R n r s home f sub z = let g : Grows Nobody (Expanded s r) R n home s (expand enough R r s) = expand_grows R n enough r s home f sub (omega arith) in rw z at g

-- step 5 ends, with its walk
pub assign_ends : (R n l r : ℕ) (s : Store) (home : ℕ → ℕ) → Fine R n home s → l < s.used → tag s.words l ≡ HA → Sub s.words home 0 s.used r → assign R l r s ≢ spent
assign_ends R n l r s home f lt nine sub z = rw z at (assign_grows R n l r home s f lt nine sub)

-- every step of a run ends
pub step_ends : (R C n l r : ℕ) (q : List Pair) (home : ℕ → ℕ) (s : Store) → Running R C n home s ((l, r) ∷ q) → step R C q l r s ≢ spent
step_ends R C n l r q home s h z = rw z at (step_grows R C n l r q home s h)

-- every run ends
pub run_ends : (R C n : ℕ) (q : List Pair) (home : ℕ → ℕ) (s : Store) → 1 ≤ n → Running R C n home s q → run (steps R C) R C q s ≢ spent
run_ends R C n q home s one h z = rw z at (run_grows R C n (steps R C) q home s one h (steps-more R C s.used q h.few (lefts_low R C n home s q h)))

-- the machine ends on every admitted input
pub machine_ends : (ws ss qs : List ℕ) (n : ℕ) → refusal true ws ss n ≡ admitted → machine (records ws) (pairs qs) n (start ws ss n) ≢ spent
machine_ends ws ss qs n e z = let a : Admitted true ws ss n = rw e at (refusal_says true ws ss n) in rw z at (machine-ended true ws ss n (pairs qs) a)

-- every input to solving has an answer
pub solve_answers : (ws ss qs : List ℕ) (n : ℕ) → (solve ws ss qs n).said.answer ≢ NONE
solve_answers ws ss qs n e = let k = solve_low ws ss qs n in omega arith

-- every input to show has an answer
pub show_answers : (ws ss qs os : List ℕ) (n h : ℕ) → (show ws ss qs os n h).behind.said.answer ≢ NONE
show_answers ws ss qs os n h e = let k = (show_says ws ss qs os n h).low in omega arith

-- where show answers 0 its output can be read
pub show_readable : (ws ss qs os : List ℕ) (n h : ℕ) → (show ws ss qs os n h).behind.said.answer ≡ 0 → Readable os (show ws ss qs os n h)
show_readable ws ss qs os n h e = (show_says ws ss qs os n h).written e

-- and every term in it is printed level by level
pub readable_prints : (os : List ℕ) (x : Shown) (o : Readable os x) (r : ℕ) → ATerm o.out r → printed enough x.output r ≡ print_term (λ y. printed enough x.output y) x.output r
readable_prints os x o r p = rw (← o.words_are) (printed_unrolls (records os) o.out o.outputs r p)
