-- What is known where a term is copied or shown: every position of its context has a place. A copy appends, so what was known is known after it.
use Rattle.std.specs.Prelude.{ℕ, ◌+◌, ◌-◌, ◌<◌, ◌≤◌, ◌≡◌, Option, Some, None}
use Rattle.std.proofs.Common.{sym, ◌∙◌, arith, lt-ltb, le-ltb}
use Rattle.std.proofs.Math.Option.{some}
use Rattle.std.proofs.Math.Decide.{dec_lt}
use Rattle.rules.specs.Words.{tag, field_a, field_b, NONE, HA, variables}
use Rattle.rules.specs.Store.{Store, goes}
use Rattle.rules.specs.Map.{Map, lookup, place_of}
use Rattle.rules.specs.Rewrite.{copy}
use Rattle.invariants.specs.Floor.{All}
use Rattle.invariants.specs.Grow.{all_map}
use Rattle.trees.specs.Tree.{ren}
use Rattle.trees.specs.Free.{All-map}
use Rattle.promise.specs.Outcomes.{went}
use Rattle.promise.specs.Writing.{Wrote}
use Rattle.promise.specs.Maps.{option_at, place, place_zero}
use Rattle.promise.proofs.Copying.{copy_ends}
use Rattle.promise.specs.State.{holds_appends}
use Rattle.promise.specs.Parts.{applied_later}
use Rattle.promise.specs.TermKnown.{TermKnown, ListKnown}
use Rattle.promise.proofs.TermKnown.{known-arguments, known-first, known_second}
use Rattle.promise.specs.CopyKnown.{Full, HasPlace}

pub full_less : {m : Map} {c b : ℕ} → Full m c → b ≤ c → Full m b
full_less f le = record { place_at = λ j lt. f.place_at j (omega arith) }

-- and every variable under d lambdas
pub full_place : {m : Map} {c : ℕ} → Full m c → (d v : ℕ) → v < d + c → HasPlace m d v
unfolding place_of
full_place {m} {c} f d v h = go (dec_lt v d)
  where
    go : Dec (v < d) → HasPlace m d v
    go (yes l) = (v, rw (lt-ltb v d l, place_of))
    go (no l) =
        let p = f.place_at (v - d) (omega arith) in
        let e : lookup m (v - d) ≡ Some p.0 = option_at (lookup m (v - d)) p.0 (sym (place_zero m (v - d)) ∙ p.1) in
        (p.0 + d, rw (le-ltb v d (omega arith), place_of, e))

-- and every argument of an occurrence
pub full_arguments : {R : ℕ} {s : Store} {m : Map} {c d r : ℕ} → Full m c → TermKnown R s c d r → tag s.words r ≡ HA → All (HasPlace m d) (variables s.words r)
full_arguments {s = s} {d = d} {r} f k e = all_map _ _ (full_place f d) (variables s.words r) (known-arguments k e)

-- the place that was found, or 0
abbrev found : Option ℕ → ℕ
found (Some w) = w
found None = 0

placed : (m : Map) (d v : ℕ) → HasPlace m d v → place m d v ≡ some (found (place_of m d v))
placed m d v h = rw h.1

-- the rest of a list after its first argument was copied
pub copied_rest : {R : ℕ} {s : Store} {c d l : ℕ} → (l ≡ NONE → ⊥) → ListKnown R s c d l → (m : Map) → Full m c → (f : ℕ) {s₁ : Store} {y : ℕ}
    → copy f R m d (field_a s.words l) s ≡ goes s₁ y → ListKnown R s₁ c d (field_b s.words l)
copied_rest {R} {s} {c} {d} {l} ne k m full f {s₁} {y} e =
    let a = known-first ne k in
    let b = known_second ne k in
    let to : ℕ → ℕ = λ v. found (place_of m d v) in
    let w : Wrote R (ren to a.tree) s s₁ y =
    went (rw e at (copy_ends R f m d (field_a s.words l) s to a.tree a.holds.fits a.reads (All-map (λ v lt. placed m d v (full_place full d v lt)) a.tree a.scoped))) in
    record {
      sig = b.sig;
      sols = b.sols;
      holds = holds_appends b.holds w.appends;
      solved = b.solved;
      tree = b.tree;
      applied = applied_later w.appends.grew.same w.appends.grew.grown b.applied;
      inside = b.inside;
      scoped = b.scoped;
    }
