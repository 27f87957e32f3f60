-- What a loop that takes a term's lambdas off keeps, lambda by lambda, whatever is written below them.
use Rattle.std.specs.Prelude.{ℕ, ◌+◌, ◌-◌, ◌*◌, ◌<◌, ◌≤◌, ◌≡◌, List, Ok, length}
use Rattle.std.proofs.Common.{◌∙◌, arith, Fits}
use Rattle.std.specs.Int.{w32}
use Rattle.rules.specs.Words.{tag, LA}
use Rattle.rules.specs.Store.{Out, fails, ◌>>=◌}
use Rattle.rules.specs.declared.Failure.{Failure}
use Rattle.store.specs.declared.Written.{Written}
use Rattle.table.specs.declared.Record.{Record}
use Rattle.table.specs.Reading.{IsRecord}
use Rattle.store.specs.Said.{Answer, shown, under}
use Rattle.rewrite.specs.Lambdas.{lambdas, Under}
use Rattle.rewrite.specs.LambdasLaws.{lambdas_none, lambdas-one, lambdas_fails}

-- terms of the words ws are written to R records of os: what a term that is ready (depth, record) says of itself, and of its body
-- if it is a lambda, where `gives` says what is written (solutions, depth, record, outcome)
pub record Opens (ready : ℕ → ℕ → Type 0) (gives : List ℕ → ℕ → ℕ → Out ℕ → Type 0) (R : ℕ) (ws os : List ℕ) : Type 0 where
  pub depth : (d r : ℕ) → ready d r → Fits w32 (d + 1)
  pub read : (d r : ℕ) → ready d r → 4 * r + 3 < length ws
  pub room : (d r : ℕ) → ready d r → 4 * R ≤ length os
  pub less : (d r : ℕ) (w : Record) → IsRecord ws r w → w.tag ≡ LA → ready d r → w.a < r
  pub body : (d r : ℕ) (w : Record) → IsRecord ws r w → w.tag ≡ LA → ready d r → ready (d + 1) w.a
  pub over : (d r : ℕ) (w : Record) → IsRecord ws r w → w.tag ≡ LA → w.a < r → (ss : List ℕ) (o : Out ℕ) → gives ss (d + 1) w.a o → gives ss d r (o >>= under R LA 0)

-- at the term r at depth d, whose record is w: what is written from r₀ at d₀ is what is written from here and the lambdas between
pub record Below (ready : ℕ → ℕ → Type 0) (gives : List ℕ → ℕ → ℕ → Out ℕ → Type 0) (R : ℕ) (ws os : List ℕ) (d₀ r₀ d r : ℕ) (w : Record) : Type 0 where
  pub opens : Opens ready gives R ws os
  pub deep : d₀ ≤ d
  pub less : r ≤ r₀
  pub is : IsRecord ws r w
  pub on : ready d r
  pub leads : (ss : List ℕ) (o : Out ℕ) → gives ss d r o → gives ss d₀ r₀ (lambdas R (d - d₀) o)

module _ {ready : ℕ → ℕ → Type 0} {gives : List ℕ → ℕ → ℕ → Out ℕ → Type 0} {R : ℕ} {ws os : List ℕ} {d₀ r₀ : ℕ} where
  pub below-first : (w : Record) → Opens ready gives R ws os → IsRecord ws r₀ w → ready d₀ r₀ → Below ready gives R ws os d₀ r₀ d₀ r₀ w
  below-first w p e h =
      record {
        opens = p;
        deep = omega arith;
        less = omega arith;
        is = e;
        on = h;
        leads = λ ss o g. rw (lambdas_none R (d₀ - d₀) o (omega arith)) g;
      }

  module _ {d r : ℕ} {w : Record} (h : Below ready gives R ws os d₀ r₀ d r w) where
    -- a lambda
    pub below-depth : Fits w32 (d + 1)
    below-depth = h.opens.depth d r h.on

    module _ (t : w.tag ≡ LA) where
      pub below_less : w.a < r
      below_less = h.opens.less d r w h.is t h.on

      next : ready (d + 1) w.a
      next = h.opens.body d r w h.is t h.on

      pub below-read : 4 * w.a + 3 < length ws
      below-read = h.opens.read (d + 1) w.a next

      pub below_next : (w₁ : Record) → IsRecord ws w.a w₁ → Below ready gives R ws os d₀ r₀ (d + 1) w.a w₁
      below_next w₁ e =
          let k = below_less in
          let de = h.deep in
          let le = h.less in
          record {
            opens = h.opens;
            deep = omega arith;
            less = omega arith;
            is = e;
            on = next;
            leads = λ ss o g. rw (lambdas-one R ((d + 1) - d₀) (d - d₀) o (omega arith)) (h.leads ss (o >>= under R LA 0) (h.opens.over d r w h.is t k ss o g));
          }

    -- no lambda
    pub below_plain : (w.tag ≡ LA → ⊥) → tag ws r ≡ LA → ⊥
    below_plain ne q = ne (h.is.tag_is ∙ q)

    pub below_then : (os₁ : List ℕ) → length os₁ ≡ length os → 4 * R ≤ length os₁
    below_then os₁ e = let c = h.opens.room d r h.on in omega arith

    pub below_gives : (n : ℕ) (ss ss₁ os₁ : List ℕ) (x : Written) (os₂ : List ℕ) (y : Answer) → gives ss d r (shown os₁ ss₁ (Ok x)) → Under n R (d - d₀) os₁ x os₂ y → gives ss d₀ r₀ (shown os₂ ss₁ y)
    below_gives n ss ss₁ os₁ x os₂ y p q = rw (← q.run ss₁) (h.leads ss (shown os₁ ss₁ (Ok x)) p)

    pub below_fails : (ss ss₁ os₁ : List ℕ) (e : Failure) → gives ss d r (fails os₁ ss₁ e) → gives ss d₀ r₀ (fails os₁ ss₁ e)
    below_fails ss ss₁ os₁ e p = rw (← lambdas_fails R (d - d₀) os₁ ss₁ e) (h.leads ss (fails os₁ ss₁ e) p)
