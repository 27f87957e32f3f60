-- What a step's answers say, over the rules.
use Rattle.std.specs.Prelude.{ℕ, ◌≡◌, List, Result, Ok, Err}
use Rattle.rules.specs.declared.Failure.{Failure}
use Rattle.queue.specs.declared.Pair.{Pair}
use Rattle.queue.specs.declared.Ring.{Ring}
use Rattle.step.specs.declared.Step.{Step}
use Rattle.step.specs.declared.Step.TheVariants.{On, Done}
use Rattle.rules.specs.Store.{Store, Out, goes, fails}
use Rattle.rules.specs.Machine.{Pair as Waiting, Next, on, done}
use Rattle.store.specs.Said.{store}
use Rattle.queue.specs.Ring.{Fine, view}

-- a step's answer, or the failure
abbrev pub Answer : Type 0
Answer = Result Step Failure

-- the words left and the answer, as the rules have them
abbrev pub stepped : List ℕ → List ℕ → List ℕ → Answer → Out Next
stepped ws ss q (Ok (On p u)) = goes (store ws ss u) (on p.left p.right)
stepped ws ss q (Ok (Done g u)) = goes (store ws ss u) (done (view q g))
stepped ws ss q (Err e) = fails ws ss e

-- where a step is done the ring is still one of cap places, and where it goes on the queue is as it was
pub record Rings (cap : ℕ) (q q₁ : List ℕ) (x : Answer) : Type 0 where
  pub fine : (g : Ring) (u : ℕ) → x ≡ Ok (Done g u) → Fine q₁ g
  pub same : (g : Ring) (u : ℕ) → x ≡ Ok (Done g u) → g.cap ≡ cap
  pub still : (p : Pair) (u : ℕ) → x ≡ Ok (On p u) → q₁ ≡ q

pub record Steps (cap : ℕ) (rule : Store → Out Next) (ws ss : List ℕ) (used : ℕ) (q ws₁ ss₁ q₁ : List ℕ) (x : Answer) : Type 0 where
  pub said : rule (store ws ss used) ≡ stepped ws₁ ss₁ q₁ x
  pub rings : Rings cap q q₁ x

-- after an answer the pair is done with
abbrev pub finish : List Waiting → Store × ℕ → Out Next
finish q = λ p. goes p.0 (done q)
