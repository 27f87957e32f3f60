-- What show's answer 0 means: the output is the run's filling of an input hole, and so is the printed text.
use Rattle.std.specs.Prelude.{ℕ, zero, suc, ◌*◌, ◌-◌, ◌≤◌, ◌≡◌, List, Bool, true, false, length, ltb, Option, Some, None}
use Rattle.std.proofs.Math.Path.{refl}
use Rattle.std.proofs.Common.{ap, ◌∙◌, subst, arith, length-append, length-take, length-drop, ltb-true, eqb-true}
use Rattle.std.proofs.Math.Option.{some}
use Rattle.std.proofs.lemmas.List.{length-replicate}
use Rattle.rules.specs.Lists.{both, either, enough}
use Rattle.rules.specs.Words.{HO, has}
use Rattle.rules.specs.declared.Refused.TheVariants.{NoRoom, Broken, NoHole}
use Rattle.rules.specs.Answers.{refusing, records}
use Rattle.rules.specs.Records.{broken}
use Rattle.rules.specs.Store.{Store, Out, goes, fails, spent}
use Rattle.rules.specs.Solve.{refusal, filled, emptied, Behind, leaves, solve}
use Rattle.rules.specs.Show.{answer, Shown, shows, show}
use Rattle.rules.specs.Text.{shown_text}
use Rattle.laws.specs.Tests.{both_true}
use Rattle.trees.specs.Tree.{Ty}
use Rattle.promise.specs.Table.{tree_of, constants, solution_of, filling}
use Rattle.promise.specs.Notation.{notation}
use Rattle.promise.specs.Demand.{holes_in, left, Input, ShowMeans}
use Rattle.promise.specs.Outcomes.{Ends, ended, failed, unsaid, OnlyFull, Fits}
use Rattle.promise.specs.Writing.{Wrote}
use Rattle.promise.specs.TableLaws.{tree_reads}
use Rattle.promise.specs.Declares.{holes-read}
use Rattle.promise.specs.Admitting.{low}
use Rattle.promise.specs.Ending.{Final}
use Rattle.promise.proofs.Ending.{final_good, final_expands}
use Rattle.promise.proofs.Solving.{solve_means, behind, solve_final}
use Rattle.promise.specs.Showing.{answer_ends}
use Rattle.promise.proofs.Printing.{tree_printed}

-- the output of show
blank-fits : (os ss : List ℕ) → Fits (records os) (record { words = filled 0 (4 * records os) 0 os; solutions = ss; used = 0 })
unfolding records filled
blank-fits os ss = record { small = omega arith; table = simp (length-append, length-take, length-replicate, length-drop) (omega arith); full = omega arith }

module _ (ws : List ℕ) (n R : ℕ) (s : Store) (k : Final ws n R s) (qs os : List ℕ) (h : ℕ) (C : List Ty) (b : ℕ) (d : holes_in s h ≡ some (C, b)) where
  pub final_shown : (shows (behind s qs) os h).behind.said.answer ≡ 0
      → (tree_of (shows (behind s qs) os h).output ((shows (behind s qs) os h).behind.said.used - 1) ≡ filling s h) × (shown_text (shows (behind s qs) os h) ≡ notation (filling s h))
  unfolding shows shown_text
  final_shown e = go (answer (records os) s.words h blank) refl
      (answer_ends (constants ws n) R (records os) s (holes_in s) (solution_of s) k.holds (final_good k).0 (filling s) (final_expands k) h C b blank d (blank-fits os s.solutions) refl)
    where
      blank : Store
      blank = record { words = filled 0 (4 * records os) 0 os; solutions = s.solutions; used = 0 }

      go : (o : Out ℕ) → answer (records os) s.words h blank ≡ o → Ends (Wrote (records os) (filling s h) blank) OnlyFull o
          → (tree_of (shows (behind s qs) os h).output ((shows (behind s qs) os h).behind.said.used - 1) ≡ filling s h) × (shown_text (shows (behind s qs) os h) ≡ notation (filling s h))
      go (goes s₁ r) m (ended w) =
          let l : s₁.used - 1 ≡ r = omega (arith, w.last) in
          let f : s₁.used ≤ enough = omega (arith, w.appends.grew.fits.full, w.appends.grew.fits.small) in
          rw (m, shows, l) (tree_reads f w.reads, tree_printed f w.reads)
      go (fails vs rs f) m (failed z) = absurd (let y : ◌≡◌ {A = ℕ} 11 0 = rw (m, shows) at e in omega arith)
      go spent m unsaid = absurd (let y : ◌≡◌ {A = ℕ} 4294967295 0 = rw (m, shows) at e in omega arith)

-- show answers 0 only where solving does
shows-solved : (l : Behind) (os : List ℕ) (h : ℕ) → (shows l os h).behind.said.answer ≡ 0 → l.said.answer ≡ 0
unfolding shows
shows-solved l os h e = go l.said.answer refl
  where
    go : (a : ℕ) → l.said.answer ≡ a → l.said.answer ≡ 0
    go zero q = q
    go (suc a) q = rw (q, shows) at e

-- asked for an input hole, it is solving that comes first; asked for another record, answer 0 does not come
show-asked : (ws ss qs os : List ℕ) (n h : ℕ) → both (ltb h n) (has ws h HO) ≡ true → show ws ss qs os n h ≡ shows (solve ws ss qs n) os h
unfolding show solve
show-asked ws ss qs os n h e = rw e refl

unasked_refused : (ws ss qs : List ℕ) (n : ℕ) → (leaves (refusal false ws ss n) ws ss qs n).said.answer ≡ 0 → ⊥
unfolding refusal leaves
unasked_refused ws ss qs n e = go (either (ltb (records ws) n) (ltb (length ss) (records ws))) refl (broken ws n) refl
  where
    go : (a : Bool) → either (ltb (records ws) n) (ltb (length ss) (records ws)) ≡ a → (b : Option ℕ) → broken ws n ≡ b → ⊥
    go true x b y = let z : (refusing NoRoom).answer ≡ 0 = rw (x, refusal) at e in omega arith
    go false x (Some r) y = let z : (refusing (Broken r)).answer ≡ 0 = rw (x, refusal, y) at e in omega arith
    go false x None y = let z : (refusing NoHole).answer ≡ 0 = rw (x, refusal, y) at e in omega arith

asked : (ws ss qs os : List ℕ) (n h : ℕ) → (show ws ss qs os n h).behind.said.answer ≡ 0 → both (ltb h n) (has ws h HO) ≡ true
unfolding show
asked ws ss qs os n h e = go (both (ltb h n) (has ws h HO)) refl
  where
    go : (b : Bool) → both (ltb h n) (has ws h HO) ≡ b → both (ltb h n) (has ws h HO) ≡ true
    go true q = q
    go false q = absurd (unasked_refused ws ss qs n (shows-solved _ os h (rw q at e)))

show_as : (ws ss qs os : List ℕ) (n h : ℕ) {o : Shown} {l : Behind} → show ws ss qs os n h ≡ o → solve ws ss qs n ≡ l → Input ws n h → (solve ws ss qs n).said.answer ≡ 0
    → tree_of o.output (o.behind.said.used - 1) ≡ filling (left l) h → shown_text o ≡ notation (filling (left l) h) → ShowMeans ws ss qs os n h
show_as ws ss qs os n h r k i z a b = record { input = i; solved = z; output = rw (r, k) a; text = rw (r, k) b }

pub show_means : (ws ss qs os : List ℕ) (n h : ℕ) → (show ws ss qs os n h).behind.said.answer ≡ 0 → ShowMeans ws ss qs os n h
unfolding has
show_means ws ss qs os n h e =
    let a = asked ws ss qs os n h e in
    let p = both_true _ _ a in
    let q = show-asked ws ss qs os n h a in
    let z : (solve ws ss qs n).said.answer ≡ 0 = shows-solved (solve ws ss qs n) os h (rw q at e) in
    let k = solve_final ws ss qs n z in
    let d = holes-read ws n k.allowed.sound (low ws ss n k.allowed) h (ltb-true _ _ p.0) (eqb-true _ _ p.1) in
    let i = ((solve_means ws ss qs n).solved z).input h (d.0, d.1) d.2 in
    let r = q ∙ ap (λ l. shows l os h) k.is in
    let f = final_shown ws n (records ws) k.store k.final (emptied qs) os h d.0 d.1 (subst (λ l. holes_in (left l) h ≡ some (d.0, d.1)) k.is i) (subst (λ o. o.behind.said.answer ≡ 0) r e) in
    show_as ws ss qs os n h r k.is ((d.0, d.1), d.2) z f.0 f.1
