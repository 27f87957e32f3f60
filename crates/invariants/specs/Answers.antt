-- What show answers, and an output that can be read.
use Rattle.std.specs.Prelude.{ℕ, ◌-◌, ◌≤◌, ◌≡◌, List}
use Rattle.rules.specs.Answers.{records}
use Rattle.rules.specs.Store.{Store}
use Rattle.rules.specs.Show.{Shown}
use Rattle.invariants.specs.Output.{Outputs, ARoot}

-- the output can be read: it is written by show, and its last record is the head of a term
pub record Readable (os : List ℕ) (x : Shown) : Type 0 where
  pub out : Store
  pub outputs : Outputs (records os) out
  pub words_are : out.words ≡ x.output
  pub used_is : out.used ≡ x.behind.said.used
  pub root : ARoot 0 out (x.behind.said.used - 1)

-- show answers at most 11, and where it answers 0 the output can be read
pub record Answers (os : List ℕ) (x : Shown) : Type 0 where
  pub low : x.behind.said.answer ≤ 11
  pub written : x.behind.said.answer ≡ 0 → Readable os x
