-- A line stands in the buffer whole.
use Prim.Native.Nat.{ℕ, zero, suc, ◌+◌, ◌-◌, ◌<◌, ◌≤◌}
use mathlib.Core.Path.{◌≡◌, refl, sym, ap, ◌∙◌}
use mathlib.Core.List.{List, [], ◌∷◌, map}
use native.Mathlib.Omega.{arith}
use lib.ListN.{length, get_or, take}
use lib.Seq.{take_at, get_or-take, length-take-le}
use mir.Syntax.{w32}
use mir.Val.{Fits}
use Rattle.rules.specs.declared.Reply.{Reply}
use Rattle.rules.specs.Answers.{reply}
use Rattle.rules.specs.Text.{Bytes, reply_line, program_lines}
use Rattle.solver.specs.Answering.{Answerable, Writes}
use Rattle.text.specs.Written.{most, written}
use Rattle.text.specs.WrittenLaws.{written-whole}
use Rattle.text.specs.Notation.{line_text}
use Rattle.text.specs.Printable.{Answered}
use Rattle.lines.specs.declared.Begun.{Begun}
use Rattle.lines.specs.Lines.{line_of, Lines}
use Rattle.lines.specs.Making.{longest, Stands, Makes, Made}
use Rattle.lines.proofs.Showing.{answered, shown_line, line_short, reply_short}

get_d_map : (f : ℕ → Bytes) (xs : List ℕ) (i : ℕ) → i < length xs → get_or (map f xs) i [] ≡ f (get_or xs i 0)
get_d_map f [] i h = absurd (omega arith)
get_d_map f (x ∷ xs) zero h = refl
get_d_map f (x ∷ xs) (suc i) h = get_d_map f xs i (omega arith)

-- a text that is short fits, and stands at the buffer's start
stands : (t : Bytes) (text text₁ : List ℕ) (r : ℕ) → length t ≤ longest → longest ≤ length text → length text ≤ most → written 0 t text ≡ (text₁, r) → Stands t text₁ r
stands t text text₁ r short room fits e =
    let w = sym e ∙ written-whole 0 t text (omega arith) fits in
    let q : r ≡ 0 + length t = ap (λ (y : List ℕ × ℕ). y.1) w in
    record { short = omega arith; whole = rw (ap (λ (y : List ℕ × ℕ). y.0) w, q) (take_at t _ (0 + length t) (omega arith)) }

pub reply_stands : (a p u : ℕ) → a < 4294967296 → p < 4294967296 → u < 4294967296 → (text text₁ : List ℕ) (r : ℕ) → longest ≤ length text → length text ≤ most
    → written 0 (reply_line (reply a p u)) text ≡ (text₁, r) → Stands (reply_line (reply a p u)) text₁ r
reply_stands a p u la lp lu text text₁ r room fits e = stands (reply_line (reply a p u)) text text₁ r (reply_short (reply a p u) la lp lu) room fits e

module _ (i : ℕ) (x : Begun) (ws ss hs : List ℕ) where
  module _ (bs : List ℕ) (l : Lines bs ws ss hs x) where
    first_is : get_or (program_lines bs) 0 [] ≡ reply_line x.reply
    first_is = rw l.text

    hole_is : (j : ℕ) → j < x.holes → get_or (program_lines bs) (suc j) [] ≡ line_of ws ss (get_or hs j 0)
    hole_is j low =
        let k : length (take x.holes hs) ≡ x.holes = length-take-le x.holes hs l.few in
        rw l.text (get_d_map (λ h. line_of ws ss h) (take x.holes hs) j (omega arith) ∙ ap (λ (h : ℕ). line_of ws ss h) (get_or-take x.holes hs j 0 low))

  module _ (text os : List ℕ) (m : Makes text i x ws ss hs os) where
    pub made_room : longest ≤ length text
    made_room = m.room

    pub made_reply : i ≡ 0 → (text₁ : List ℕ) (r : ℕ) → Stands (reply_line x.reply) text₁ r → Made i x ws ss hs text₁ r
    made_reply z text₁ r s = record { short = s.short; line = λ bs l. rw (z, first_is bs l) s }

    module _ (some : i ≡ 0 → ⊥) where
      pub hole_answerable : Answerable ws ss (get_or hs (i - 1) 0)
      hole_answerable = let s = m.some in m.lines.answerable (i - 1) (omega arith)

      module _ (os₁ : List ℕ) (r : Reply) (w : Writes ws ss (get_or hs (i - 1) 0) os os₁ r) where
        pub hole_answered : Answered r os₁
        hole_answered = answered ws ss (get_or hs (i - 1) 0) hole_answerable os os₁ r w

        pub made_hole : ((j : ℕ) → Fits w32 (get_or os₁ j 0)) → (text₁ : List ℕ) (k : ℕ) → length text ≤ most → written 0 (line_text (get_or hs (i - 1) 0) r os₁) text ≡ (text₁, k)
            → Made i x ws ss hs text₁ k
        made_hole words text₁ k fits e =
            let h = get_or hs (i - 1) 0 in
            let a = hole_answerable in
            let lo = a.hole in
            let wi = a.table.fine.within in
            let fe = a.table.fine.few in
            let so = m.some in
            let next : i ≡ suc (i - 1) = omega arith in
            let s = stands (line_text h r os₁) text text₁ k (line_short ws ss h a os os₁ r w (λ j. (words j).fits) (omega arith)) m.room fits e in
            record { short = s.short; line = λ bs l. rw (next, hole_is bs l (i - 1) (omega arith), ← shown_line ws ss h a os os₁ r w m.output) s }
