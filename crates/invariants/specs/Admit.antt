-- What an admitted input is, and which answers refuse one.
use Rattle.std.specs.Prelude.{ℕ, ◌≤◌, ◌≡◌, refl, List, Bool, true, false, length, eqb, ltb, Option, Some, None}
use Rattle.std.proofs.Common.{arith, ltb-false}
use Rattle.rules.specs.Lists.{either}
use Rattle.rules.specs.Words.{NONE}
use Rattle.rules.specs.Answers.{refusing, records}
use Rattle.rules.specs.Records.{broken}
use Rattle.rules.specs.Typing.{ill_typed}
use Rattle.rules.specs.Pattern.{no_pattern}
use Rattle.rules.specs.Solve.{Refusal, admitted, refused, refusal}
use Rattle.laws.specs.Sound.{Sound, broken_none}

-- the records fit, the solution words suffice, no record is broken
pub record Admitted (asked : Bool) (ws ss : List ℕ) (n : ℕ) : Type 0 where
  pub is : asked ≡ true
  pub in_table : n ≤ records ws
  pub held : records ws ≤ length ss
  pub sound : Sound ws n

-- an answer that refuses is 4 to 10
abbrev pub Says : Bool → List ℕ → List ℕ → ℕ → Refusal → Type 0
Says asked ws ss n admitted = Admitted asked ws ss n
Says asked ws ss n (refused x) = (4 ≤ (refusing x).answer) × ((refusing x).answer ≤ 10)

pub refusal_says : (asked : Bool) (ws ss : List ℕ) (n : ℕ) → Says asked ws ss n (refusal asked ws ss n)
unfolding refusal either
refusal_says asked ws ss n = go (ltb (records ws) n) refl (ltb (length ss) (records ws)) refl (broken ws n) refl asked refl (ill_typed ws n) refl (eqb (no_pattern ws n) NONE) refl
  where
    go : (a : Bool) → ltb (records ws) n ≡ a → (b : Bool) → ltb (length ss) (records ws) ≡ b → (c : Option ℕ) → broken ws n ≡ c → (d : Bool) → asked ≡ d → (e : Option ℕ) → ill_typed ws n ≡ e
        → (f : Bool) → eqb (no_pattern ws n) NONE ≡ f → Says asked ws ss n (refusal asked ws ss n)
    go true a b b₁ c c₁ d d₁ e e₁ f f₁ = rw (a, refusal) (omega arith, omega arith)
    go false a true b c c₁ d d₁ e e₁ f f₁ = rw (a, refusal, b) (omega arith, omega arith)
    go false a false b (Some x) c d d₁ e e₁ f f₁ = rw (a, refusal, b, c) (omega arith, omega arith)
    go false a false b None c false d e e₁ f f₁ = rw (a, refusal, b, c, d) (omega arith, omega arith)
    go false a false b None c true d (Some x) e f f₁ = rw (a, refusal, b, c, d, e) (omega arith, omega arith)
    go false a false b None c true d None e false f = rw (a, refusal, b, c, d, e, f) (omega arith, omega arith)
    go false a false b None c true d None e true f =
        rw (a, refusal, b, c, d, e, f) (record { is = refl; in_table = ltb-false _ _ a; held = ltb-false _ _ b; sound = broken_none ws n c })
