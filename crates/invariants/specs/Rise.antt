-- Where a walk goes on below a solved hole: the floor rises, so the measure falls.
use Rattle.std.specs.Prelude.{ℕ, suc, ◌+◌, ◌-◌, ◌*◌, ◌<◌, ◌≤◌, ◌≡◌, true, false, get_or, eqb}
use Rattle.std.proofs.Common.{arith, eq-eqb, ne_eqb}
use Rattle.std.proofs.Math.Decide.{ℕ_discrete}
use Rattle.rules.specs.Words.{NONE, tag, field_a, HA}
use Rattle.rules.specs.Store.{Store}
use Rattle.invariants.specs.Floor.{Sub, Fine}
use Rattle.invariants.specs.Grow.{solved_at}

-- the measure: the floor rises, or the record falls
abbrev pub reach : ℕ → ℕ → ℕ → ℕ
reach R F k = (R - F) * 4097 + k

-- the floor below a solved hole that is met at record q: n on a side, above q in a solution
unfoldable pub raised : ℕ → ℕ → ℕ → ℕ
raised n F q = elim (eqb F 0) [ true ↦ n | false ↦ q + 1 ]

pub raised-first : (n F q : ℕ) → F ≡ 0 → raised n F q ≡ n
unfolding raised
raised-first n F q e = rw (eq-eqb _ _ e, raised)

pub raised_on : (n F q : ℕ) → (F ≡ 0 → ⊥) → raised n F q ≡ q + 1
unfolding raised
raised_on n F q e = rw (ne_eqb _ _ e, raised)

-- below a solved hole that is met at record q, under floor F: t is its solution, and G the floor there
pub record Rises (R : ℕ) (home : ℕ → ℕ) (s : Store) (F q G t : ℕ) : Type 0 where
  pub sub : Sub s.words home G s.used t
  pub falls : reach R G (suc t) < reach R F q

pub rises : (R n : ℕ) (home : ℕ → ℕ) (s : Store) (F q : ℕ) → Fine R n home s → q < s.used → tag s.words q ≡ HA → F ≤ home q
    → (get_or s.solutions (field_a s.words q) NONE ≡ NONE → ⊥) → Rises R home s F q (raised n F q) (get_or s.solutions (field_a s.words q) NONE)
rises R n home s F q f lt nine le ne = go (ℕ_discrete F 0)
  where
    over : (G : ℕ) → F < G → G ≤ home (get_or s.solutions (field_a s.words q) NONE) → G ≤ s.used → Rises R home s F q G (get_or s.solutions (field_a s.words q) NONE)
    over G hi up in_use =
        let so = solved_at R n home s q f lt nine ne in
        let b = so.below in
        record { sub = record { below = b; term = so.term; up = up }; falls = omega arith }

    go : Dec (F ≡ 0) → Rises R home s F q (raised n F q) (get_or s.solutions (field_a s.words q) NONE)
    go (yes z) = let one = f.some in rw (raised-first n F q z) (over n (omega arith) (solved_at R n home s q f lt nine ne).since f.since)
    go (no z) =
        let own = (f.good q lt).own in
        let ab = f.above q lt nine (omega arith) ne in
        rw (raised_on n F q z) (over (q + 1) (omega arith) (omega arith) (omega arith))
