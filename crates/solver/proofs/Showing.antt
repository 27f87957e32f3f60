-- What solve leaves, and show, refused or answered.
use Rattle.std.specs.Prelude.{Option, Some, None}
use Prim.Native.Nat.{ℕ, zero, suc}
use mathlib.Core.Path.{◌≡◌, refl, ap, ◌∙◌}
use mathlib.Core.List.{List}
use native.Mathlib.Omega.{arith}
use mir.Syntax.{w32}
use mir.Val.{Fits}
use Rattle.rules.specs.declared.Reply.{Reply}
use Rattle.rules.specs.Solve.{refusal, Behind, leaves, solve}
use Rattle.rules.specs.Show.{Shown, shows, show}
use Rattle.checks.specs.Refusing.{asks, is_hole}
use Rattle.solving.specs.Checking.{AskedLeaves}
use Rattle.solver.specs.Answering.{Writes}
use Rattle.solver.specs.AnsweringLaws.{answerable}

pub solves : (ws ss qs : List ℕ) (n : ℕ) (l : Behind) → leaves (refusal (asks None ws n) ws ss n) ws ss qs n ≡ l → solve ws ss qs n ≡ l
unfolding solve asks
solves ws ss qs n l h = h

some_answer : (a b : Shown) (k : ℕ) → (k ≡ 0 → ⊥) → elim k [ zero ↦ a | suc j ↦ b ] ≡ b
some_answer a b zero ne = absurd (ne refl)
some_answer a b (suc k) ne = refl

shows_refused : (l : Behind) (os : List ℕ) (h : ℕ) → (l.said.answer ≡ 0 → ⊥) → shows l os h ≡ record { behind = l; output = os }
unfolding shows
shows_refused l os h ne = some_answer _ _ l.said.answer ne

module _ (asked : Option ℕ) (ws ss qs : List ℕ) (n h : ℕ) (ws₁ ss₁ qs₁ : List ℕ) (r : Reply)
    (e : AskedLeaves asked ws ss qs n ws₁ ss₁ qs₁ r) (is : asked ≡ Some h) where
  abbrev behind : Behind
  behind = record { table = ws₁; solutions = ss₁; queue = qs₁; said = r }

  left : leaves (refusal (is_hole ws n h) ws ss n) ws ss qs n ≡ behind
  unfolding asks
  left = rw is at e

  pub show_refused : (os : List ℕ) → (r.answer ≡ 0 → ⊥) → show ws ss qs os n h ≡ record { behind = behind; output = os }
  unfolding show is_hole
  show_refused os ne = ap (λ (l : Behind). shows l os h) left ∙ shows_refused behind os h ne

  pub show_answered : (os os₁ : List ℕ) (r₁ : Reply) → r.answer ≡ 0 → Writes ws₁ ss₁ h os os₁ r₁ → show ws ss qs os n h ≡ record { behind = record { table = ws₁; solutions = ss₁; queue = qs₁; said = r₁ }; output = os₁ }
  unfolding show is_hole
  show_answered os os₁ r₁ z w = ap (λ (l : Behind). shows l os h) left ∙ w.run behind refl refl z

  pub hole_fits : r.answer ≡ 0 → Fits w32 h
  hole_fits z = let a = answerable asked ws ss qs n h ws₁ ss₁ qs₁ r e is z in let l = a.hole in let w = a.table.fine.within in let f = a.table.fine.few in record { fits = omega arith }
