-- What the code's answers say, over the rules.
use Rattle.std.specs.Prelude.{ℕ, ◌≤◌, ◌≡◌, List, Result, Ok, Err}
use Rattle.rules.specs.declared.Failure.{Failure}
use Rattle.store.specs.declared.Written.{Written}
use Rattle.rules.specs.Store.{Store, Out, goes, fails, push}

-- what a part of the machine answers: what it wrote, or the failure
abbrev pub Answer : Type 0
Answer = Result Written Failure

-- the record r was written last, and u records are used
abbrev pub wrote : ℕ → ℕ → Answer
wrote r u = Ok (record { root = r; used = u })

-- table words, solution words and records used, as a store
abbrev pub store : List ℕ → List ℕ → ℕ → Store
store ws ss u = record { words = ws; solutions = ss; used = u }

-- the words left and the answer, as the rules have them
abbrev pub shown : List ℕ → List ℕ → Answer → Out ℕ
shown ws ss (Ok w) = goes (store ws ss w.used) w.root
shown ws ss (Err e) = fails ws ss e

-- an answer that goes on has used at least n records
pub record Since (n : ℕ) (x : Answer) : Type 0 where
  pub since : (w : Written) → x ≡ Ok w → n ≤ w.used

-- a rule that leaves the solutions alone: words and answer, whatever the solutions are
pub record Does (n : ℕ) (rule : Store → Out ℕ) (ws : List ℕ) (u : ℕ) (ws₁ : List ℕ) (x : Answer) : Type 0 where
  pub run : (ss : List ℕ) → rule (store ws ss u) ≡ shown ws₁ ss x
  pub grown : Since n x

-- a record over what was written: with it as b, or as a
abbrev pub over : ℕ → ℕ → ℕ → Store × ℕ → Out ℕ
over R t a = λ (s, x). push R t a x s

abbrev pub under : ℕ → ℕ → ℕ → Store × ℕ → Out ℕ
under R t b = λ (s, x). push R t x b s

-- a rule that writes solutions too
pub record Does² (n : ℕ) (rule : Store → Out ℕ) (ws ss : List ℕ) (u : ℕ) (ws₁ ss₁ : List ℕ) (x : Answer) : Type 0 where
  pub run : rule (store ws ss u) ≡ shown ws₁ ss₁ x
  pub grown : Since n x
