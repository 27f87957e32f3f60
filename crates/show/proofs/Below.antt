-- What showing a term asks and says below its lambdas.
use Prim.Native.Nat.{ℕ, ◌-◌}
use mathlib.Core.List.{List}
use mathlib.Core.Bool.{false}
use native.Mathlib.Omega.{arith}
use Rattle.std.specs.Prelude.{◌≡◌, Ok, Err}
use Rattle.rules.specs.declared.Failure.{Failure}
use Rattle.store.specs.declared.Written.{Written}
use Rattle.store.specs.Said.{Answer}
use Rattle.store.specs.SaidLaws.{since_failed}
use Rattle.table.specs.declared.Record.{Record}
use Rattle.places.specs.declared.Map.{Map}
use Rattle.places.specs.Maps.{map_of}
use Rattle.rewrite.specs.TermsLaws.{at_less}
use Rattle.rewrite.specs.Lambdas.{Under}
use Rattle.rewrite.specs.BelowLaws.{Opens, Below, below_gives, below_fails}
use Rattle.rewrite.specs.WritesLaws.{gives_lambda}
use Rattle.show.proofs.Shows.{unrolls, Gives}
use Rattle.show.specs.Shows.{ShowsTerm}
use Rattle.show.specs.Ready.{ReadyTerm}
use Rattle.show.proofs.Ready.{to_read, to_body}

module _ {O : ℕ} {m : Map} {ws ss os : List ℕ} (used : ℕ) {F : ℕ} where
  pub opens : Opens (ReadyTerm O m ws ss os F) (λ s. Gives O m ws s os used F) O ws os
  opens =
      record {
        depth = λ d r h. let f = h.on.fits in record { fits = omega arith };
        read = λ d r h. to_read h;
        room = λ d r h. h.on.room;
        less = λ d r w e t h. at_less h.at w e t;
        body = λ d r w e t h. to_body w e t h;
        over = λ d r w e t k s o g. gives_lambda (unrolls O ws) 4096 0 F (map_of false m) d r os s used w e o t k g;
      }

  module _ {d₀ r₀ d r : ℕ} {w : Record} (h : Below (ReadyTerm O m ws ss os F) (λ s. Gives O m ws s os used F) O ws os d₀ r₀ d r w) where
    module _ (os₁ : List ℕ) (x : Answer) (p : ShowsTerm O m ws ss os used F d r os₁ x) where
      pub below_stops : (e : Failure) (y : Answer) → x ≡ Err e → y ≡ Err e → ShowsTerm O m ws ss os used F d₀ r₀ os₁ y
      below_stops e y q o = rw o (record { run = below_fails h ss ss os₁ e (rw q at p.run); grown = since_failed _ _ })

      pub below_ends : (v : Written) (os₂ : List ℕ) (y : Answer) → x ≡ Ok v → Under 0 O (d - d₀) os₁ v os₂ y → ShowsTerm O m ws ss os used F d₀ r₀ os₂ y
      below_ends v os₂ y q g = record { run = below_gives h 0 ss ss os₁ v os₂ y (rw q at p.run) g; grown = g.grown }
