-- What the walk of a term asks and says below its lambdas.
use Prim.Native.Nat.{ℕ, suc, ◌-◌, ◌*◌, ◌+◌, ◌<◌}
use mathlib.Core.Path.{◌≡◌}
use mathlib.Core.List.{List}
use native.Mathlib.Omega.{arith}
use Rattle.std.specs.Prelude.{Ok, Err, Option}
use Rattle.rules.specs.declared.Failure.{Failure}
use Rattle.store.specs.declared.Written.{Written}
use Rattle.store.specs.Said.{Answer}
use Rattle.store.specs.SaidLaws.{since_failed}
use Rattle.table.specs.declared.Record.{Record}
use Rattle.table.specs.declared.Hole.{Hole}
use Rattle.places.specs.declared.Map.{Map}
use Rattle.invariants.specs.Rise.{reach}
use Rattle.rewrite.specs.TermsLaws.{at_less}
use Rattle.rewrite.specs.Lambdas.{Under}
use Rattle.rewrite.specs.BelowLaws.{Opens, Below, below_gives, below_fails}
use Rattle.rewrite.specs.WritesLaws.{gives_lambda}
use Rattle.walk.proofs.Walks.{unrolls, Gives}
use Rattle.walk.specs.Walks.{map_at, WalksTerm}
use Rattle.walk.specs.Ready.{ReadyTerm}
use Rattle.walk.proofs.Ready.{to_read, to_depth, to_body}

module _ {R n : ℕ} {u : Option Hole} {m : Map} {ws ss : List ℕ} {used F : ℕ} where
  pub opens : Opens (ReadyTerm R n u m ws ss used F) (λ s. Gives R u m ws s used F) R ws ws
  opens =
      record {
        depth = λ d r h. to_depth h;
        read = λ d r h. to_read h;
        room = λ d r h. h.at.fine.room;
        less = λ d r w e t h. at_less h.at w e t;
        body = λ d r w e t h. to_body w e t h;
        over = λ d r w e t k s o g. gives_lambda (unrolls R u) R n F (map_at F m) d r ws s used w e o t k g;
      }

  module _ {d₀ r₀ d r : ℕ} {w : Record} (h : Below (ReadyTerm R n u m ws ss used F) (λ s. Gives R u m ws s used F) R ws ws d₀ r₀ d r w) where
    pub fall_body : (t : ℕ) → 3 * reach R F (suc r₀) + 1 ≡ t → 3 * reach R F (suc r) < t
    fall_body t z = let le = h.less in omega arith

    module _ (ws₁ ss₁ : List ℕ) (x : Answer) (p : WalksTerm R n u m ws ss used F d r ws₁ ss₁ x) where
      pub below_stops : (e : Failure) (y : Answer) → x ≡ Err e → y ≡ Err e → WalksTerm R n u m ws ss used F d₀ r₀ ws₁ ss₁ y
      below_stops e y q o = rw o (record { run = below_fails h ss ss₁ ws₁ e (rw q at p.run); grown = since_failed _ _ })

      pub below_ends : (v : Written) (ws₂ : List ℕ) (y : Answer) → x ≡ Ok v → Under n R (d - d₀) ws₁ v ws₂ y → WalksTerm R n u m ws ss used F d₀ r₀ ws₂ ss₁ y
      below_ends v ws₂ y q g = record { run = below_gives h n ss ss₁ ws₁ v ws₂ y (rw q at p.run) g; grown = g.grown }
