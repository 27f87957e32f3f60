-- A table whose equations' sides are typed patterns at their types passes the checks of typing and of patterns.
use Prim.Native.Nat.{ℕ, ◌<◌, ◌≤◌}
use Rattle.std.specs.Prelude.{◌≡◌, List, [], ◌∷◌, map, Bool, not, None}
use Rattle.std.proofs.Math.Path.{refl}
use Rattle.std.proofs.Math.Bool.{true, false}
use native.Mathlib.Omega.{arith}
use borrow.Author.Tests.{eqb-true}
use Rattle.rules.specs.Lists.{both, those, from, below, least, enough}
use Rattle.rules.specs.Words.{tag, field_a, field_b, field_c, NONE, EQ, has, is_term}
use Rattle.rules.specs.Answers.{records}
use Rattle.rules.specs.Typing.{checks, typed, ill_typed}
use Rattle.rules.specs.Pattern.{offence, no_pattern}
use Rattle.laws.specs.Tests.{both_yes}
use Rattle.laws.specs.Search.{lowest_nowhere}
use Rattle.laws.specs.Sound.{Sound, equation_fields}
use Rattle.trees.specs.Tree.{at, HasTy}
use Rattle.promise.specs.Table.{type_of, tree_of, constants, holes}
use Rattle.promise.specs.Demand.{TypedPatterns}
use Rattle.promise.specs.Reading.{ty_nil}
use Rattle.promise.proofs.Checked.{clean_least, typed-checks}
use Rattle.promise.specs.TableLaws.{type_reads}
use Rattle.promise.specs.Declares.{constants-read, holes-read}
use Rattle.promise.specs.Admitting.{equation_type, offences, those-each}

least_bound : (bound : ℕ) (xs : List ℕ) → least bound xs ≤ bound
unfolding least
least_bound bound [] = omega arith
least_bound bound (x ∷ xs) = let k = least_bound bound xs in omega arith

module _ (ws : List ℕ) (n : ℕ) (g : Sound ws n) (low : n ≤ 4096) (e : ℕ) (l : e < n) (t : tag ws e ≡ EQ) where
  side-checks : (x : ℕ) → (x < e) × (is_term ws x ≡ true) → HasTy (constants ws n) (holes ws n) [] (tree_of ws x) (at (type_of ws (field_c ws e)))
      → (checks enough ws [] x (field_c ws e) ≡ true) × (NONE ≤ offence enough ws x)
  side-checks x f h =
      let y = equation_type ws n g low e l t in
      typed-checks ws n g low (constants ws n) (holes ws n) (constants-read ws n g low) (holes-read ws n g low) enough [] x (field_c ws e) [] y.0 (omega (arith, f.0)) f.1
      ty_nil y.1 (rw (← (type_reads enough (omega (arith, low)) y.1)) h)

  equation_checks : HasTy (constants ws n) (holes ws n) [] (tree_of ws (field_a ws e)) (at (type_of ws (field_c ws e)))
      → HasTy (constants ws n) (holes ws n) [] (tree_of ws (field_b ws e)) (at (type_of ws (field_c ws e))) → (typed ws e ≡ true) × (NONE ≤ offences ws e)
  unfolding typed
  equation_checks a b =
      let f = equation_fields ws n g e l t in
      let x = side-checks (field_a ws e) f.0 a in
      let z = side-checks (field_b ws e) f.1 b in
      let v = x.1 in
      let w = z.1 in
      (both_yes _ _ x.0 z.0, omega arith)

module _ (ws : List ℕ) (n : ℕ) (g : Sound ws n) (room : n ≤ records ws) (h : TypedPatterns ws n) where
  checked : (e : ℕ) → e < n → has ws e EQ ≡ true → (typed ws e ≡ true) × (NONE ≤ offences ws e)
  unfolding has records
  checked e l q =
      let t = eqb-true (tag ws e) EQ q in
      let x = h e l t in
      equation_checks ws n g (omega (arith, room)) e l t x.0 x.1

  pub typed_nowhere : ill_typed ws n ≡ None
  unfolding ill_typed both
  typed_nowhere = lowest_nowhere n (λ e. both (has ws e EQ) (not (typed ws e))) (λ e l. go e l (has ws e EQ) refl)
    where
      go : (e : ℕ) → e < n → (b : Bool) → has ws e EQ ≡ b → both (has ws e EQ) (not (typed ws e)) ≡ false
      go e l true q = rw (q, (checked e (omega arith) q).0)
      go e l false q = rw q

  pub typed_clean : no_pattern ws n ≡ NONE
  unfolding no_pattern below
  typed_clean =
      let xs = those (λ e. has ws e EQ) (from 0 n) in
      let a = clean_least NONE (offences ws) xs (those-each (λ e. has ws e EQ) (λ e. NONE ≤ offences ws e) 0 n (λ e _ l q. (checked e (omega arith) q).1)) (omega arith) in
      let b = least_bound NONE (map (offences ws) xs) in
      omega arith
