-- A hole's line, from what solving left.
use Prim.Native.Nat.{ℕ, zero, suc, ◌+◌, ◌-◌, ◌*◌, ◌<◌, ◌≤◌}
use mathlib.Core.Path.{◌≡◌, refl, sym, ap, ◌∙◌}
use mathlib.Core.Bool.{true}
use mathlib.Core.List.{List, [], append-nil}
use native.Mathlib.Omega.{arith}
use lib.ListN.{length, get_or, replicate, length-append, length-replicate, drop_of_length-le}
use borrow.Author.Tests.{le-leb, leb-true}
use Rattle.rules.specs.declared.Reply.{Reply}
use Rattle.rules.specs.Lists.{both, enough}
use Rattle.rules.specs.Words.{NONE, CE, tag, field_a, field_b, is_term}
use Rattle.rules.specs.Answers.{reply, records}
use Rattle.rules.specs.Store.{Store, goes, fails, spent}
use Rattle.rules.specs.Solve.{unsaid, filled}
use Rattle.rules.specs.Show.{Shown, answer, answering, shows}
use Rattle.rules.specs.Text.{reply_line, hole_line}
use Rattle.laws.specs.Tests.{both_true}
use Rattle.invariants.specs.Floor.{Term as ATerm}
use Rattle.invariants.specs.Output.{Outputs}
use Rattle.invariants.specs.Answers.{Readable, Answers}
use Rattle.invariants.proofs.Answers.{shows_answers}
use Rattle.invariants.specs.Length.{decimal_short, printed-length}
use Rattle.store.specs.Said.{store}
use Rattle.solver.specs.Answering.{Answerable, Writes}
use Rattle.text.specs.Printable.{Below, Printable, Term, Answered}
use Rattle.text.specs.Notation.{start_text, answer_text, line_text}
use Rattle.text.specs.LinesLaws.{line_is}
use Rattle.lines.specs.Lines.{solved, line_of}
use Rattle.lines.specs.Making.{longest}

is_term_lem : (ws : List ℕ) (x : ℕ) → ATerm ws x → is_term ws x ≡ true
unfolding is_term both
is_term_lem ws x t = rw (le-leb _ _ t.low, le-leb _ _ t.high)

of_term : (ws : List ℕ) (x : ℕ) → is_term ws x ≡ true → ATerm ws x
unfolding is_term
of_term ws x e = let p = both_true _ _ e in record { low = leb-true _ _ p.0; high = leb-true _ _ p.1 }

-- what show wrote can be printed
module _ (O : ℕ) (s : Store) (o : Outputs O s) where
  -- a cell's element is a term
  first : (c : ℕ) → c < s.used → tag s.words c ≡ CE → is_term s.words (field_a s.words c) ≡ true
  first c lt e = is_term_lem s.words (field_a s.words c) ((o.good c lt).item e).term

  below : (r l : ℕ) → r ≤ s.used → ((l ≡ NONE → ⊥) → (l < r) × (tag s.words l ≡ CE)) → Below s.words r l
  below r l le h ne = let q = h ne in let b = q.0 in (b, q.1, first l (omega arith) q.1)

  printable : Printable s.words s.used
  printable =
      let ro = o.room in
      let wi = o.within in
      let fe = o.few in
      record {
        inside = omega arith;
        few = omega arith;
        body = λ r lt e. let b = (o.good r lt).lam e in (b.below, is_term_lem s.words (field_a s.words r) b.term);
        list = λ r lt t ne.
            let k = of_term s.words r t in
            let lo = k.low in
            let z : 7 ≤ tag s.words r = omega arith in
            below r (field_b s.words r) (omega arith) ((o.good r lt).app z k.high).here;
        cell = λ c lt e. (o.good c lt).cell e;
        rest = λ c lt e t. below c (field_b s.words c) (omega arith) (λ ne. ((o.good c lt).cell e).rest ne);
      }

-- an output of O records is cleared before it is written
module _ (O : ℕ) (few : O ≤ 4096) (os : List ℕ) (long : length os ≡ 4 * O) where
  counted : records os ≡ O
  unfolding records
  counted = omega arith

  cleared : filled 0 (4 * O) 0 os ≡ replicate (4 * O) 0
  unfolding filled
  cleared = let z : length os ≤ 0 + 4 * O = omega arith in rw (drop_of_length-le os z) (append-nil _)

-- what show leaves, from an output of O records that is cleared
shown_in : ℕ → List ℕ → List ℕ → List ℕ → ℕ → Shown
shown_in O os ws ss h =
    elim (answer O ws h (record { words = os; solutions = ss; used = 0 })) [
      | goes s r ↦ record { behind = answering (solved ws ss) (reply 0 0 s.used); output = s.words }
      | fails ws₁ ss₁ e ↦ record { behind = answering (solved ws ss) (reply 11 0 0); output = os }
      | spent ↦ record { behind = unsaid; output = [] }
    ]

shows_in : (O : ℕ) → O ≤ 4096 → (os : List ℕ) → length os ≡ 4 * O → (ws ss : List ℕ) (h : ℕ) → shows (solved ws ss) os h ≡ shown_in O (replicate (4 * O) 0) ws ss h
unfolding shows shown_in
shows_in O few os long ws ss h =
    let c = counted O few os long in
    let f : filled 0 (4 * records os) 0 os ≡ replicate (4 * O) 0 = rw c (cleared O few os long) in
    ap (λ (k : ℕ). shown_in k (filled 0 (4 * records os) 0 os) ws ss h) c ∙ ap (λ (xs : List ℕ). shown_in O xs ws ss h) f

-- so what was in the output does not matter
shows-blank : (O : ℕ) → O ≤ 4096 → (os : List ℕ) → length os ≡ 4 * O → (ws ss : List ℕ) (h : ℕ) → shows (solved ws ss) os h ≡ shows (solved ws ss) (replicate (4 * O) 0) h
shows-blank O few os long ws ss h = shows_in O few os long ws ss h ∙ sym (shows_in O few (replicate (4 * O) 0) (length-replicate {A = ℕ} (4 * O) 0) ws ss h)

module _ (ws ss : List ℕ) (h : ℕ) (a : Answerable ws ss h) (os os₁ : List ℕ) (r : Reply) (w : Writes ws ss h os os₁ r) where
  shown : shows (solved ws ss) os h ≡ record { behind = answering (solved ws ss) r; output = os₁ }
  shown = w.run (solved ws ss) refl refl refl

  says : Answers os (shows (solved ws ss) os h)
  says =
      let f = a.table.fine in
      let i = a.hole in
      let u = f.within in
      shows_answers a.table.R a.table.n a.table.home (store ws ss a.table.used) (solved ws ss) os h f (omega arith) refl refl refl

  readable : r.answer ≡ 0 → Readable os (shows (solved ws ss) os h)
  readable z = says.written (ap (λ (x : Shown). x.behind.said.answer) shown ∙ z)

  used_is : (shows (solved ws ss) os h).behind.said.used ≡ r.used
  used_is = ap (λ (x : Shown). x.behind.said.used) shown

  pub answered : Answered r os₁
  answered =
      record {
        some = λ z.
            let a = readable z in
            let l = a.root.last in
            let i = a.used_is in
            let u = used_is in
            omega arith;
        term = λ z.
            let a = readable z in
            let w : a.out.words ≡ os₁ = a.words_are ∙ ap (λ (x : Shown). x.output) shown in
            let t : Term a.out.words ((shows (solved ws ss) os h).behind.said.used - 1) = record { top = a.out.used; good = printable _ a.out a.outputs; here = a.root.term.below; term = is_term_lem a.out.words _ a.root.term.term } in
            rw (w, used_is) at t;
      }

  -- the line is the program's
  pub shown_line : length os ≡ 16384 → line_text h r os₁ ≡ line_of ws ss h
  unfolding line_of
  shown_line l = line_is h (record { behind = answering (solved ws ss) r; output = os₁ }) ∙ ap (λ (x : Shown). hole_line h x) (sym shown ∙ shows-blank 4096 (omega arith) os l ws ss h)

  -- the answer takes up no more than the output, so the line is short
  module _ (fits : (i : ℕ) → get_or os₁ i 0 < 4294967296) where
    answer_short : length (answer_text r os₁) ≤ 57344
    unfolding answer_text
    answer_short = go r.answer refl
      where
        go : (k : ℕ) → r.answer ≡ k → length (answer_text r os₁) ≤ 57344
        go zero z =
            let a = readable z in
            let w : a.out.words ≡ os₁ = a.words_are ∙ ap (λ (x : Shown). x.output) shown in
            let t = rw (w, used_is) at (a.root.takes enough) in
            let i = a.outputs.within in
            let f = a.outputs.few in
            let p = printed-length os₁ fits enough (r.used - 1) in
            rw (z, answer_text) (omega arith)
        go (suc k) z = rw (z, answer_text) (omega arith)

    pub line_short : h < 4294967296 → length (line_text h r os₁) ≤ longest
    unfolding line_text start_text
    line_short low =
        let d = decimal_short h low in
        let a = answer_short in
        simp length-append (omega arith)

-- a reply's line is short
pub reply_short : (r : Reply) → r.answer < 4294967296 → r.place < 4294967296 → r.used < 4294967296 → length (reply_line r) ≤ longest
unfolding reply_line
reply_short r a p u =
    let x = decimal_short r.answer a in
    let y = decimal_short r.place p in
    let z = decimal_short r.used u in
    simp length-append (omega arith)
