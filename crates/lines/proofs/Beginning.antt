-- What reading and solving leave gives the program's lines.
use Rattle.std.specs.Prelude.{Some}
use Prim.Native.Nat.{ℕ, zero, suc, ◌*◌, ◌<◌, ◌≤◌}
use mathlib.Core.Path.{◌≡◌, refl, sym, ap, ◌∙◌}
use mathlib.Core.Bool.{true}
use mathlib.Core.List.{List, [], ◌∷◌, map}
use native.Mathlib.Omega.{arith}
use lib.ListN.{length, get_or, take, replicate, length-replicate}
use lib.Dec.{ltb}
use lib.Seq.{length-take-le, get_or-take}
use borrow.Author.Tests.{lt-ltb}
use Rattle.rules.specs.declared.Reply.{Reply}
use Rattle.rules.specs.Lists.{both, those, below}
use Rattle.rules.specs.Words.{HO, has}
use Rattle.rules.specs.Answers.{records}
use Rattle.rules.specs.Store.{Out, goes, fails, spent}
use Rattle.rules.specs.Solve.{Behind, refusal, leaves, solve, filled}
use Rattle.rules.specs.Show.{answer, shows, show}
use Rattle.rules.specs.File.{Read, read}
use Rattle.rules.specs.Text.{Bytes, reply_line, shown_text, hole_line, solved_lines, lines, program_lines}
use Rattle.laws.specs.Noted.{noted_member}
use Rattle.checks.specs.Refusing.{asks, is_hole}
use Rattle.solver.specs.Answering.{Answerable}
use Rattle.solver.specs.AnsweringLaws.{answerable}
use Rattle.solver.specs.UsedLaws.{read-used}
use Rattle.lines.specs.Holes.{Notable, Holes}
use Rattle.lines.specs.Lines.{Blank, solved, line_of, Lines}

-- lists of texts that agree at each place
map_same : (f g : ℕ → Bytes) (xs : List ℕ) → ((i : ℕ) → i < length xs → f (get_or xs i 0) ≡ g (get_or xs i 0)) → map f xs ≡ map g xs
map_same f g [] h = refl
map_same f g (x ∷ xs) h = rw (h 0 (omega arith), map_same f g xs (λ i l. h (suc i) (omega arith)))

-- a hole's line depends on the words left alone
line_same : (l m : Behind) (os : List ℕ) (h : ℕ) → l.table ≡ m.table → l.solutions ≡ m.solutions → l.said.answer ≡ 0 → m.said.answer ≡ 0 → hole_line h (shows l os h) ≡ hole_line h (shows m os h)
unfolding hole_line shown_text shows
line_same l m os h t s p q = go (answer (records os) m.table h (record { words = filled 0 (4 * records os) 0 os; solutions = m.solutions; used = 0 })) refl
  where
    go : (o : Out ℕ) → answer (records os) m.table h (record { words = filled 0 (4 * records os) 0 os; solutions = m.solutions; used = 0 }) ≡ o
        → hole_line h (shows l os h) ≡ hole_line h (shows m os h)
    go (goes x r) e = rw (p, q, shows, t, s, e)
    go (fails ws ss f) e = rw (p, q, shows, t, s, e)
    go spent e = rw (p, q, shows, t, s, e)

-- the case of an answer that is not 0
other_answer : (a b : List Bytes) (k : ℕ) → (k ≡ 0 → ⊥) → elim k [ zero ↦ a | suc j ↦ b ] ≡ b
other_answer a b zero ne = absurd (ne refl)
other_answer a b (suc k) ne = refl

-- the lines, from what was read
lines_from : ℕ → ℕ → ℕ → Read → List Bytes
lines_from R C O f =
    elim f.said.answer [
      | zero ↦ solved_lines f.table (replicate R 0) (replicate (2 * C) 0) (replicate (4 * O) 0) f.said.used
      | suc k ↦ reply_line f.said ∷ []
    ]

module _ (R C O : ℕ) (bs ws : List ℕ) (table : ws ≡ replicate (4 * R) 0) (ws₁ : List ℕ) (given : Reply) (got : read bs ws ≡ record { table = ws₁; said = given }) where
  lines-from : lines R C O bs ≡ lines_from R C O (record { table = ws₁; said = given })
  unfolding lines lines_from
  lines-from = ap (λ (f : Read). lines_from R C O f) (ap (λ (xs : List ℕ). read bs xs) (sym table) ∙ got)

  refused_lines : (given.answer ≡ 0 → ⊥) → lines R C O bs ≡ reply_line given ∷ []
  unfolding lines_from
  refused_lines ne = lines-from ∙ other_answer _ _ given.answer ne

  read-lines : given.answer ≡ 0 → (ss qs : List ℕ) → ss ≡ replicate R 0 → qs ≡ replicate (2 * C) 0 → lines R C O bs ≡ solved_lines ws₁ ss qs (replicate (4 * O) 0) given.used
  unfolding lines_from
  read-lines z ss qs s q = lines-from ∙ rw (z, lines_from, s, q)

module _ (ws ss qs os : List ℕ) (n : ℕ) (ws₁ ss₁ qs₁ : List ℕ) (r : Reply) (e : solve ws ss qs n ≡ record { table = ws₁; solutions = ss₁; queue = qs₁; said = r }) where
  failed_lines : (r.answer ≡ 0 → ⊥) → solved_lines ws ss qs os n ≡ reply_line r ∷ []
  unfolding solved_lines
  failed_lines ne = go r.answer refl
    where
      go : (k : ℕ) → r.answer ≡ k → solved_lines ws ss qs os n ≡ reply_line r ∷ []
      go zero z = absurd (ne z)
      go (suc k) z = rw (e, z, solved_lines)

  module _ (z : r.answer ≡ 0) where
    holes-lines : solved_lines ws ss qs os n ≡ reply_line r ∷ map (λ h. hole_line h (show ws ss qs os n h)) (those (λ h. has ws h HO) (below n))
    unfolding solved_lines
    holes-lines = rw (e, z, solved_lines)

    module _ (h : ℕ) (low : h < n) (is : has ws h HO ≡ true) where
      asked : both (ltb h n) (has ws h HO) ≡ true
      unfolding both
      asked = rw (lt-ltb _ _ low, is)

      shown_line : hole_line h (show ws ss qs os n h) ≡ hole_line h (shows (solved ws₁ ss₁) os h)
      unfolding show solve
      shown_line = rw (asked, e) (line_same (record { table = ws₁; solutions = ss₁; queue = qs₁; said = r }) (solved ws₁ ss₁) os h refl refl z refl)

      hole_answerable : Answerable ws₁ ss₁ h
      hole_answerable = answerable (Some h) ws ss qs n h ws₁ ss₁ qs₁ r left refl z
        where
          left : leaves (refusal (asks (Some h) ws n) ws ss n) ws ss qs n ≡ record { table = ws₁; solutions = ss₁; queue = qs₁; said = r }
          left = let a : asks (Some h) ws n ≡ true = unfold asks in unfold is_hole in asked in rw a (unfold solve in e)

module _ (bs ws ss qs hs : List ℕ) (b : Blank ws ss qs hs) (ws₁ : List ℕ) (given : Reply) (got : read bs ws ≡ record { table = ws₁; said = given }) where
  pub begins_refused : (given.answer ≡ 0 → ⊥) → Lines bs ws₁ ss hs (record { reply = given; holes = 0 })
  unfolding program_lines
  begins_refused ne = record { text = refused_lines 4096 1024 4096 bs ws b.table ws₁ given got ne; few = omega arith; answerable = λ i l. absurd (omega arith) }

  pub begins_notable : length ws₁ ≡ length ws → Notable ws₁ hs given.used
  begins_notable l =
      let u = read-used bs ws ws₁ given got in
      let k : length ws ≡ 16384 = ap length b.table ∙ length-replicate {A = ℕ} 16384 0 in
      let h = b.holes in
      record { inside = omega arith; few = u; room = omega arith }

  module _ (z : given.answer ≡ 0) (hs₁ : List ℕ) (k : ℕ) (noted : Holes ws₁ hs₁ k given.used) (long : length hs₁ ≡ length hs)
      (ws₂ ss₂ qs₂ : List ℕ) (r : Reply) (e : solve ws₁ ss qs given.used ≡ record { table = ws₂; solutions = ss₂; queue = qs₂; said = r }) where
    same : program_lines bs ≡ solved_lines ws₁ ss qs (replicate 16384 0) given.used
    unfolding program_lines
    same = read-lines 4096 1024 4096 bs ws b.table ws₁ given got z ss qs b.solutions b.queue

    pub begins_failed : (r.answer ≡ 0 → ⊥) → Lines bs ws₂ ss₂ hs₁ (record { reply = r; holes = 0 })
    begins_failed ne =
        record { text = same ∙ failed_lines ws₁ ss qs (replicate 16384 0) given.used ws₂ ss₂ qs₂ r e ne; few = omega arith; answerable = λ i l. absurd (omega arith) }

    pub begins_solved : r.answer ≡ 0 → Lines bs ws₂ ss₂ hs₁ (record { reply = r; holes = k })
    unfolding line_of
    begins_solved y =
        record {
          text = same ∙ holes-lines ws₁ ss qs (replicate 16384 0) given.used ws₂ ss₂ qs₂ r e y ∙ rw (← noted.noted)
              (ap (λ (ts : List Bytes). reply_line r ∷ ts) (map_same (λ h. hole_line h (show ws₁ ss qs (replicate 16384 0) given.used h)) (λ h. line_of ws₂ ss₂ h) (take k hs₁) each));
          few = held;
          answerable = λ i l. let m = member i l in hole_answerable ws₁ ss qs (replicate 16384 0) given.used ws₂ ss₂ qs₂ r e y (get_or hs₁ i 0) m.0 m.1;
        }
      where
        held : k ≤ length hs₁
        held = let f = noted.few in let u = read-used bs ws ws₁ given got in let h = b.holes in omega arith

        member : (i : ℕ) → i < k → (get_or hs₁ i 0 < given.used) × (has ws₁ (get_or hs₁ i 0) HO ≡ true)
        member i l = noted_member (λ h. has ws₁ h HO) hs₁ k given.used i noted.noted held l

        each : (i : ℕ) → i < length (take k hs₁) → hole_line (get_or (take k hs₁) i 0) (show ws₁ ss qs (replicate 16384 0) given.used (get_or (take k hs₁) i 0)) ≡ line_of ws₂ ss₂ (get_or (take k hs₁) i 0)
        each i l =
            let j : i < k = rw (length-take-le k hs₁ held) at l in
            let m = member i j in
            rw (get_or-take k hs₁ i 0 j) (shown_line ws₁ ss qs (replicate 16384 0) given.used ws₂ ss₂ qs₂ r e y (get_or hs₁ i 0) m.0 m.1)
