-- The text of a hole's line is the document's.
use Rattle.std.specs.Prelude.{ℕ, ◌≡◌, [], ◌∷◌, ◌++◌}
use Rattle.std.proofs.Common.{ap, append_assoc}
use Rattle.rules.specs.Text.{Bytes, decimal, shown_text, hole_line}
use Rattle.rules.specs.Show.{Shown}
use Rattle.text.specs.Notation.{start_text, answer_text, line_text}

-- this is the rules' line
pub line_is : (h : ℕ) (s : Shown) → line_text h s.behind.said s.output ≡ hole_line h s
unfolding line_text answer_text start_text hole_line shown_text
line_is h s = ap (λ (t : Bytes). 104 ∷ t) (append_assoc (decimal h) (32 ∷ 61 ∷ 32 ∷ []) (shown_text s ++ (10 ∷ [])))
