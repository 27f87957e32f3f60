-- What comes before the machine: what an admitted table is, and that past answers 4 and 5 every equation's sides are typed patterns at its type.
use Prim.Native.Nat.{ℕ, zero, suc, ◌+◌, ◌<◌, ◌≤◌, min}
use Rattle.std.specs.Prelude.{◌≡◌, List, [], ◌∷◌, Bool, not, length, eqb, ltb, Option, ℕ, Some, None}
use Rattle.std.proofs.Math.Path.{refl, ap}
use Rattle.std.proofs.Common.{sym, ◌∙◌}
use Rattle.std.proofs.Math.Bool.{true, false}
use native.Mathlib.Omega.{arith}
use Rattle.std.proofs.Math.Decide.{ℕ_discrete}
use borrow.Author.Tests.{ltb-false, eqb-true, eqb-false, eq-eqb}
use Rattle.rules.specs.declared.Refused.TheVariants.{NoRoom, Broken, IllTyped, NoPattern}
use Rattle.rules.specs.Lists.{both, either, those, from, below, enough}
use Rattle.rules.specs.Words.{tag, field_a, field_b, field_c, NONE, EQ, has, is_term}
use Rattle.rules.specs.Answers.{records}
use Rattle.rules.specs.Records.{broken}
use Rattle.rules.specs.Typing.{checks, typed, ill_typed}
use Rattle.rules.specs.Pattern.{offence, no_pattern}
use Rattle.rules.specs.Solve.{Refusal, admitted, refused, refusal}
use Rattle.laws.specs.Tests.{false_true, both_true, lowest_none}
use Rattle.laws.specs.Sound.{Sound, broken_none, equation_fields}
use Rattle.trees.specs.Tree.{Ty, Tree, AllL, at, HasTy}
use Rattle.promise.specs.Table.{constants, holes}
use Rattle.promise.specs.Demand.{TypedPatterns}
use Rattle.promise.specs.Reading.{one, Reads, ReadsTy, ty_nil, same_refl, reads_later, type_later}
use Rattle.promise.specs.Readable.{type_at}
use Rattle.promise.specs.Typed.{least_clean, typed_reads}
use Rattle.promise.specs.TableLaws.{type_reads, tree_reads}
use Rattle.promise.specs.Declares.{constants-read, holes-read}

-- what admitting a table says
pub record Admitted (ws ss : List ℕ) (n : ℕ) : Type 0 where
  pub room : n ≤ records ws
  pub answers : records ws ≤ length ss
  pub sound : Sound ws n
  pub typed : ill_typed ws n ≡ None
  pub pattern : no_pattern ws n ≡ NONE

-- the refusals
pub data Refuses (ws ss : List ℕ) (n : ℕ) : Refusal → Type 0 where
  admits : Admitted ws ss n → Refuses ws ss n admitted
  short : Refuses ws ss n (refused NoRoom)
  breaks : {r : ℕ} → Refuses ws ss n (refused (Broken r))
  ill : {r : ℕ} → n ≤ records ws → Sound ws n → ill_typed ws n ≡ Some r → Refuses ws ss n (refused (IllTyped r))
  offends : {r : ℕ} → n ≤ records ws → Sound ws n → no_pattern ws n ≡ r → (r ≡ NONE → ⊥) → Refuses ws ss n (refused (NoPattern r))

either_false : (a b : Bool) → either a b ≡ false → (a ≡ false) × (b ≡ false)
unfolding either
either_false true b e = absurd (false_true (sym e))
either_false false b e = (refl, e)

pub refusal_is : (ws ss : List ℕ) (n : ℕ) → Refuses ws ss n (refusal true ws ss n)
unfolding refusal
refusal_is ws ss n = go (either (ltb (records ws) n) (ltb (length ss) (records ws))) refl (broken ws n) refl (ill_typed ws n) refl (eqb (no_pattern ws n) NONE) refl
  where
    go : (a : Bool) → either (ltb (records ws) n) (ltb (length ss) (records ws)) ≡ a → (b : Option ℕ) → broken ws n ≡ b → (c : Option ℕ) → ill_typed ws n ≡ c → (d : Bool)
        → eqb (no_pattern ws n) NONE ≡ d → Refuses ws ss n (refusal true ws ss n)
    go true x b y c z d w = rw (x, refusal) short
    go false x (Some r) y c z d w = rw (x, refusal, y) breaks
    go false x None y (Some r) z d w = rw (x, refusal, y, z) (ill (ltb-false _ _ (either_false _ _ x).0) (broken_none ws n y) z)
    go false x None y None z false w =
        rw (x, refusal, y, z, w) (offends (ltb-false _ _ (either_false _ _ x).0) (broken_none ws n y) refl (eqb-false _ _ w))
    go false x None y None z true w =
        let f = either_false _ _ x in
        rw (x, refusal, y, z, w)
        (admits (record { room = ltb-false _ _ f.0; answers = ltb-false _ _ f.1; sound = broken_none ws n y; typed = z; pattern = eqb-true _ _ w }))

pub admitted_is : (ws ss : List ℕ) (n : ℕ) → refusal true ws ss n ≡ admitted → Admitted ws ss n
admitted_is ws ss n e = go (rw e at (refusal_is ws ss n))
  where
    go : Refuses ws ss n admitted → Admitted ws ss n
    go (admits a) = a

-- those of k numbers from i on that pass
module _ (ok : ℕ → Bool) (P : ℕ → Type 0) where
  pub those-each : (i k : ℕ) → ((j : ℕ) → i ≤ j → j < i + k → ok j ≡ true → P j) → AllL P (those ok (from i k))
  unfolding those from
  those-each i zero h = tt
  those-each i (suc k) h = go (ok i) refl (those-each (i + 1) k (λ j a b e. h j (omega arith) (omega arith) e))
    where
      go : (b : Bool) → ok i ≡ b → AllL P (those ok (from (i + 1) k)) → AllL P (those ok (i ∷ from (i + 1) k))
      go true q ih = rw (q, those) (h i (omega arith) (omega arith) q, ih)
      go false q ih = rw (q, those) ih

  those-one : (i k : ℕ) → AllL P (those ok (from i k)) → (j : ℕ) → i ≤ j → j < i + k → ok j ≡ true → P j
  unfolding those from
  those-one i zero a j l h e = absurd (omega arith)
  those-one i (suc k) a j l h e = go (ok i) refl (ℕ_discrete i j) (λ b m. those-one (i + 1) k b j m (omega arith) e)
    where
      go : (b : Bool) → ok i ≡ b → Dec (i ≡ j) → (AllL P (those ok (from (i + 1) k)) → i + 1 ≤ j → P j) → P j
      go true q (yes z) ih = rw (← z) (rw (q, those) at a).0
      go true q (no z) ih = ih (rw (q, those) at a).1 (omega arith)
      go false q (yes z) ih = absurd (false_true (sym q ∙ ap ok z ∙ e))
      go false q (no z) ih = ih (rw (q, those) at a) (omega arith)

-- the offences of an equation's sides
abbrev pub offences : List ℕ → ℕ → ℕ
offences ws e = min (offence enough ws (field_a ws e)) (offence enough ws (field_b ws e))

-- an equation whose sides read as trees, typed at its type
pub record Equation (ws : List ℕ) (n e : ℕ) : Type 0 where
  pub type : Ty
  pub is : ReadsTy ws n (field_c ws e) type
  pub left_side : Tree
  pub left : Reads ws n (one (field_a ws e)) left_side
  pub left_typed : HasTy (constants ws n) (holes ws n) [] left_side (at type)
  pub right_side : Tree
  pub right : Reads ws n (one (field_b ws e)) right_side
  pub right_typed : HasTy (constants ws n) (holes ws n) [] right_side (at type)

module _ (ws : List ℕ) (n : ℕ) (g : Sound ws n) (low : n ≤ 4096) (e : ℕ) (l : e < n) (t : tag ws e ≡ EQ) where
  pub equation_type : (A : Ty) × ReadsTy ws n (field_c ws e) A
  equation_type =
      let f = (equation_fields ws n g e l t).2 in
      let y = type_at ws n g low (field_c ws e) (omega (arith, f.0)) f.1 in
      (y.0, type_later same_refl (omega (arith, f.0)) y.1)

  side_reads : (x : ℕ) (A : Ty) → (x < e) × (is_term ws x ≡ true) → ReadsTy ws n (field_c ws e) A → checks enough ws [] x (field_c ws e) ≡ true → NONE ≤ offence enough ws x
      → (t : Tree) × Reads ws n (one x) t × HasTy (constants ws n) (holes ws n) [] t (at A)
  side_reads x A f d c o =
      let k : x < n = omega (arith, f.0) in
      let t = typed_reads ws n g low (constants ws n) (holes ws n) (constants-read ws n g low) (holes-read ws n g low) enough [] x (field_c ws e) [] A k f.1 ty_nil d c o in
      (t.0, reads_later same_refl k t.1, t.2)

  pub equation_reads : typed ws e ≡ true → NONE ≤ offences ws e → Equation ws n e
  unfolding typed
  equation_reads c o =
      let f = equation_fields ws n g e l t in
      let y = equation_type in
      let p = both_true _ _ c in
      let x = side_reads (field_a ws e) y.0 f.0 y.1 p.0 (omega arith) in
      let z = side_reads (field_b ws e) y.0 f.1 y.1 p.1 (omega arith) in
      record { type = y.0; is = y.1; left_side = x.0; left = x.1; left_typed = x.2; right_side = z.0; right = z.1; right_typed = z.2 }

module _ (ws ss : List ℕ) (n : ℕ) (a : Admitted ws ss n) where
  pub low : n ≤ 4096
  unfolding records
  low = omega (arith, a.room)

  is_typed : (e : ℕ) → e < n → has ws e EQ ≡ true → typed ws e ≡ true
  unfolding ill_typed both
  is_typed e l q = go (typed ws e) refl
    where
      go : (b : Bool) → typed ws e ≡ b → typed ws e ≡ true
      go true x = x
      go false x = absurd (false_true (sym (lowest_none n (λ j. both (has ws j EQ) (not (typed ws j))) a.typed e l) ∙ rw (q, x)))

  is_clean : (e : ℕ) → e < n → has ws e EQ ≡ true → NONE ≤ offences ws e
  unfolding no_pattern below
  is_clean e l q =
      those-one (λ j. has ws j EQ) (λ j. NONE ≤ offences ws j) 0 n
      (least_clean NONE (offences ws) (those (λ j. has ws j EQ) (from 0 n)) (omega (arith, a.pattern))).0 e (omega arith) (omega arith) q

  pub admitted_reads : (e : ℕ) → e < n → has ws e EQ ≡ true → Equation ws n e
  unfolding has
  admitted_reads e l q = equation_reads ws n a.sound low e l (eqb-true _ _ q) (is_typed e l q) (is_clean e l q)

  pub admitted_typed : TypedPatterns ws n
  unfolding has
  admitted_typed e l t =
      let x = admitted_reads e l (eq-eqb _ _ t) in
      let k : n ≤ enough = omega (arith, low) in
      rw (tree_reads k x.left, tree_reads k x.right, type_reads enough k x.is) (x.left_typed, x.right_typed)
