-- The big-step rules of a writer with fuel.
use Rattle.std.specs.Prelude.{ℕ, suc, ◌+◌, ◌<◌, ◌≤◌, ◌≡◌, List, Ok, Err}
use Rattle.std.proofs.Common.{◌∙◌, arith}
use Rattle.rules.specs.declared.Failure.{Failure}
use Rattle.store.specs.declared.Written.{Written}
use Rattle.table.specs.declared.Record.{Record}
use Rattle.table.specs.Reading.{IsRecord}
use Rattle.rules.specs.Words.{NONE, tag, LA, HA}
use Rattle.rules.specs.Store.{Store, Out, ◌>>=◌, push}
use Rattle.rules.specs.Map.{Map}
use Rattle.rules.specs.Rewrite.{Writer, write_term}
use Rattle.laws.specs.Lists.{size}
use Rattle.invariants.specs.Rise.{reach}
use Rattle.store.specs.Said.{Answer, store, shown, Since, Does, over, under}
use Rattle.store.specs.SaidLaws.{since_failed}
use Rattle.rewrite.specs.LevelsLaws.{fuel, Headed, level_lambda, level_rigid, level_leaf, level_hole}
use Rattle.rewrite.specs.Writes.{Gives, WritesTerm, WritesList}

-- each unit of fuel is a level of the term, in an output of R records
pub record Unrolls (write hole : ℕ → Writer) (reads : Store → List ℕ) (R : ℕ) : Type 0 where
  pub level : (f : ℕ) (m : Map) (d r : ℕ) (s : Store) → write (suc f) m d r s ≡ write_term (hole f) (write f) R (reads s) m d r s

module _ {write hole : ℕ → Writer} {reads : Store → List ℕ} {R : ℕ} (u : Unrolls write hole reads R) (T n F : ℕ) (m : Map) (d r : ℕ) (ws ss : List ℕ) (used : ℕ) where
  abbrev s : Store
  s = store ws ss used

  pub gives_level : (o : Out ℕ) → ((k : ℕ) → reach T F (suc r) ≤ k → write_term (hole k) (write k) R (reads s) m d r s ≡ o) → Gives write T F m d r s o
  gives_level o h f hf = let q = fuel f _ hf in rw q.1 (u.level q.0 m d r s ∙ h q.0 q.2)

  pub writes_hole : (ws₁ ss₁ : List ℕ) (x : Answer) → tag (reads s) r ≡ HA → Since n x → ((k : ℕ) → reach T F (suc r) ≤ k → hole k m d r s ≡ shown ws₁ ss₁ x) → WritesTerm write T n F m d r s ws₁ ss₁ x
  writes_hole ws₁ ss₁ x t g h = record { run = gives_level _ λ k hk. level_hole (hole k) (write k) R (reads s) m d r s t ∙ h k hk; grown = g }

  module _ (w : Record) (e : IsRecord (reads s) r w) where
    -- whatever the body is written as, the lambda is written after it
    pub gives_lambda : (o : Out ℕ) → w.tag ≡ LA → w.a < r → Gives write T F m (d + 1) w.a s o → Gives write T F m d r s (o >>= under R LA 0)
    gives_lambda o t lt h = gives_level _ λ k hk. level_lambda (hole k) (write k) R (reads s) m d r s w e t ∙ rw (h k (omega arith))

    -- a rigid head: its arguments fail, or are written and then the record
    module _ (v : ℕ) (ws₁ ss₁ : List ℕ) (x : Answer) (t : Headed m d w v) (lt : size w.b ≤ r) (h : WritesList write reads R T n F m d w.b s ws₁ ss₁ x) where
      level : (k : ℕ) → reach T F (suc r) ≤ k → write_term (hole k) (write k) R (reads s) m d r s ≡ (shown ws₁ ss₁ x >>= over R w.tag v)
      level k hk = level_rigid (hole k) (write k) R (reads s) m d r s w e v t ∙ rw (h.run k (omega arith))

      pub writes_stops : (f : Failure) (y : Answer) → x ≡ Err f → y ≡ Err f → WritesTerm write T n F m d r s ws₁ ss₁ y
      unfolding ◌>>=◌
      writes_stops f y q o = rw o (record { run = gives_level _ λ k hk. level k hk ∙ rw q; grown = since_failed _ _ })

      pub writes_rigid : (a : Written) (ws₂ : List ℕ) (y : Answer) → x ≡ Ok a → Does n (push R w.tag v a.root) ws₁ a.used ws₂ y → WritesTerm write T n F m d r s ws₂ ss₁ y
      unfolding ◌>>=◌
      writes_rigid a ws₂ y q p = record { run = gives_level _ λ k hk. level k hk ∙ rw q (p.run ss₁); grown = p.grown }

    pub writes_leaf : (v : ℕ) (ws₁ : List ℕ) (x : Answer) → Headed m d w v → w.b ≡ NONE → Does n (push R w.tag v NONE) ws used ws₁ x → WritesTerm write T n F m d r s ws₁ ss x
    writes_leaf v ws₁ x t z p = record { run = gives_level _ λ k hk. level_leaf (hole k) (write k) R (reads s) m d r s w e v t z ∙ p.run ss; grown = p.grown }
