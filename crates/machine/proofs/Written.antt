-- To clear what was written is to clear all.
use Prim.Native.Nat.{ℕ, ◌+◌, ◌-◌, ◌*◌, ◌<◌, ◌≤◌}
use mathlib.Core.Path.{◌≡◌, sym, ◌∙◌}
use mathlib.Core.List.{List}
use native.Mathlib.Omega.{arith}
use native.Mathlib.Decide.{dec_lt}
use Rattle.rules.specs.declared.Failure.{Failure}
use Rattle.rules.specs.Words.{NONE}
use Rattle.rules.specs.Answers.{number, reply}
use Rattle.rules.specs.Solve.{filled}
use Rattle.invariants.specs.Floor.{Rest}
use Rattle.store.specs.FilledLaws.{filled_wider}
use Rattle.store.specs.Clearing.{Clearing, Cleared}
use Rattle.store.specs.Unused.{Unused}
use Rattle.rules.specs.declared.Reply.{Reply}
use Rattle.machine.specs.Leaving.{Fails}

-- past what was written there is nothing to clear
module _ (n R u : ℕ) (ws ss : List ℕ) (h : Clearing n R ws ss) (f : Unused n R ws u u) where
  all-written : (p : Rest R n ws ss) → p.used ≤ u
  all-written p = go (dec_lt u p.used)
    where
      go : Dec (u < p.used) → p.used ≤ u
      go (no l) = omega arith
      go (yes l) =
          let w = p.within in
          let t = p.tagged u f.since l in
          let e = f.blank (omega arith) in
          absurd (omega arith)

  cleared_all : (ws₁ ss₁ : List ℕ) → Rest R n ws ss → Cleared n u ws ss ws₁ ss₁ → Cleared n R ws ss ws₁ ss₁
  cleared_all ws₁ ss₁ p c =
      let l = all-written p in
      let a = f.since in
      let b = f.within in
      let r = h.room in
      let d = h.held in
      let k : 4 * (u - n) + 4 * (R - u) ≡ 4 * (R - n) = omega arith in
      let m : u + (R - u) ≡ R = omega arith in
      let t : filled (4 * n) (4 * (u - n)) 0 ws ≡ filled (4 * n) (4 * (R - n)) 0 ws = rw k at (filled_wider (4 * (R - u)) (4 * n) (4 * (u - n)) 0 0 ws (omega arith) (λ j lo hi. p.blank j (omega arith) (omega arith))) in
      let s : filled 0 u NONE ss ≡ filled 0 R NONE ss = rw m at (filled_wider (R - u) 0 u NONE NONE ss (omega arith) (λ j lo hi. p.free j (omega arith) (omega arith))) in
      record { table = sym t ∙ c.table; solutions = sym s ∙ c.solutions }

  pub failure_replied : (e : Failure) (k : ℕ) (r : Reply) (ws₁ ss₁ : List ℕ) → number e ≡ k → reply k 0 0 ≡ r → Cleared n u ws ss ws₁ ss₁ → Fails n R e ws ss ws₁ ss₁ r
  failure_replied e k r ws₁ ss₁ q s c = record { says = rw q s; clears = λ p. cleared_all ws₁ ss₁ p c }

-- up to where records were written
pub clearing_to : (n R u : ℕ) (ws ss : List ℕ) → Clearing n R ws ss → Unused n R ws u u → Clearing n u ws ss
clearing_to n R u ws ss h f =
    let a = h.room in
    let b = h.held in
    let c = h.few in
    let d = f.within in
    record { in_table = f.since; few = omega arith; room = omega arith; held = omega arith }
