-- Where the machine starts: an admitted table's equations read as typed pairs, and its store says just the table's holes.
use Rattle.std.specs.Prelude.{ℕ, zero, suc, ◌+◌, ◌*◌, ◌-◌, ◌<◌, ◌≤◌, ◌≡◌, List, [], ◌∷◌, map, Bool, true, false, length, get_or, eqb}
use Rattle.std.proofs.Math.Path.{refl}
use Rattle.std.proofs.Common.{sym, ap, ap₂, ◌∙◌, arith, le_refl}
use Rattle.std.proofs.Math.Option.{none, some, none-ne-some}
use Rattle.std.proofs.Math.Decide.{dec_lt, ℕ_discrete}
use Rattle.rules.specs.Lists.{those, from, below}
use Rattle.rules.specs.Words.{tag, field_a, field_b, NONE, HO, EQ, has}
use Rattle.rules.specs.Answers.{records}
use Rattle.rules.specs.Machine.{Pair, equations}
use Rattle.rules.specs.Solve.{start}
use Rattle.invariants.specs.Start.{filled-length, filled-below, filled_within, records_few, records_room}
use Rattle.trees.specs.Tree.{Ty, AllL, at, Pairs, PairsTyped}
use Rattle.trees.specs.Moves.{nothing}
use Rattle.trees.specs.Free.{AllL-map}
use Rattle.trees.proofs.Leads.{declared_once}
use Rattle.promise.specs.Table.{constants, holes, sides}
use Rattle.promise.specs.Reading.{HoleAt, Same, same_tag, same_a, same_b, reads_later, hole_later}
use Rattle.promise.specs.State.{Holds}
use Rattle.promise.specs.Waiting.{PairsRead, p_nil, p_cons}
use Rattle.promise.specs.TableLaws.{pairs-read, holes_none}
use Rattle.promise.specs.Declares.{holes-read}
use Rattle.promise.specs.Admitting.{Admitted, Equation, those-each, low, admitted_reads}

-- the equations are those of a table whose first n records are the same
from-below : (i k m : ℕ) → i + k ≤ m → AllL (λ e. e < m) (from i k)
unfolding from
from-below i zero m h = tt
from-below i (suc k) m h = (omega arith, from-below (i + 1) k m (omega arith))

those_same : (f g : ℕ → Bool) (xs : List ℕ) → AllL (λ e. f e ≡ g e) xs → those f xs ≡ those g xs
unfolding those
those_same f g [] a = refl
those_same f g (x ∷ xs) a = go (g x) refl (those_same f g xs a.1)
  where
    go : (b : Bool) → g x ≡ b → those f xs ≡ those g xs → those f (x ∷ xs) ≡ those g (x ∷ xs)
    go true q ih = rw (a.0 ∙ q, q, those) (ap (x ∷◌) ih)
    go false q ih = rw (a.0 ∙ q, q, those) ih

map_same : {A : Type 0} (f g : ℕ → A) (xs : List ℕ) → AllL (λ e. f e ≡ g e) xs → map f xs ≡ map g xs
map_same f g [] a = refl
map_same f g (x ∷ xs) a = ap₂ ◌∷◌ a.0 (map_same f g xs a.1)

pub equations_same : (ws vs : List ℕ) (n : ℕ) → Same n ws vs → equations vs n ≡ equations ws n
unfolding equations below has
equations_same ws vs n s =
    let b = from-below 0 n n (omega arith) in
    let k = those_same (λ e. has vs e EQ) (λ e. has ws e EQ) (from 0 n) (AllL-map (λ e h. ap (λ z. eqb z EQ) (same_tag s h refl)) (from 0 n) b) in
    ap (map (λ e. (field_a vs e, field_b vs e))) k
    ∙ map_same (λ e. (field_a vs e, field_b vs e)) (λ e. (field_a ws e, field_b ws e)) (those (λ e. has ws e EQ) (from 0 n))
    (AllL-map (λ e h. ap₂ (λ x y. (x, y)) (same_a s h refl) (same_b s h refl)) (those (λ e. has ws e EQ) (from 0 n)) (those-each (λ e. has ws e EQ) (λ e. e < n) 0 n (λ e _ l _. omega arith)))

hole_as : {ws : List ℕ} {n h : ℕ} {C B : List Ty} {b c : ℕ} → C ≡ B → b ≡ c → HoleAt ws n h B c → HoleAt ws n h C b
hole_as e f d = rw (e, f) d

module _ (ws ss : List ℕ) (n : ℕ) (a : Admitted ws ss n) where
  -- all equations of the table
  equations-typed : (es : List ℕ) → AllL (Equation ws n) es
      → (ps : Pairs) × PairsRead ws n (map (λ e. (field_a ws e, field_b ws e)) es) ps × PairsTyped (constants ws n) (holes ws n) ps
  equations-typed [] h = ([], p_nil, tt)
  equations-typed (e ∷ es) (x, h) =
      let r = equations-typed es h in
      ((x.left_side, x.right_side) ∷ r.0, p_cons x.left x.right r.1, (([], at x.type, x.left_typed, x.right_typed), r.2))

  pub pairs-typed : (ps : Pairs) × PairsRead ws n (equations ws n) ps × PairsTyped (constants ws n) (holes ws n) ps
  unfolding equations below
  pairs-typed =
      equations-typed (those (λ e. has ws e EQ) (from 0 n))
      (those-each (λ e. has ws e EQ) (Equation ws n) 0 n (λ e _ l q. admitted_reads ws ss n a e (omega arith) q))

  -- the words where the machine starts
  pub start_same : Same n ws (start ws ss n).words
  unfolding start
  start_same = record { word = λ i h. filled-below (4 * n) (4 * (records ws - n)) 0 i ws (omega (arith, a.room, records_room ws)) h }

  start-length : length (start ws ss n).words ≡ length ws
  unfolding start
  start-length = filled-length (4 * n) (4 * (records ws - n)) 0 ws (omega (arith, a.room, records_room ws))

  start_answers : length (start ws ss n).solutions ≡ length ss
  unfolding start
  start_answers = filled-length 0 (records ws) NONE ss (omega (arith, a.answers))

  start_none : (h : ℕ) → h < records ws → get_or (start ws ss n).solutions h NONE ≡ NONE
  unfolding start
  start_none h l = filled_within 0 (records ws) NONE h NONE ss (omega arith) (omega arith) (omega arith)

  start-used : (start ws ss n).used ≡ n
  unfolding start
  start-used = refl

  -- the store where the machine starts says just the table's holes
  pub start-holds : Holds (records ws) (start ws ss n) (holes ws n) nothing
  start-holds = record {
    fits = record {
      small = records_few ws;
      table = omega (arith, records_room ws, start-length);
      full = omega (arith, a.room, start-used);
    };
    room = omega (arith, a.answers, start_answers);
    declared = λ h C b e. hole_start h C b e (dec_lt h n);
    all = λ h l t e. all' h (omega (arith, start-used)) t e;
    solves = λ h t e. absurd (none-ne-some t e);
    leaves = λ h l e. start_none h l;
    inside = λ h t e. absurd (none-ne-some t e);
  }
    where
      all' : (h : ℕ) → h < n → tag (start ws ss n).words h ≡ HO → holes ws n h ≡ none → ⊥
      all' h l t e = let x = holes-read ws n a.sound (low ws ss n a) h l (sym (same_tag start_same l refl) ∙ t) in none-ne-some (x.0, x.1) (sym e ∙ x.2)

      tagged : (h : ℕ) (C : List Ty) (b : ℕ) → holes ws n h ≡ some (C, b) → (o : Dec (tag ws h ≡ HO)) → tag ws h ≡ HO
      tagged h C b e (yes t) = t
      tagged h C b e (no t) = absurd (none-ne-some (C, b) (sym (holes_none ws n h (λ _ x. t x)) ∙ e))

      hole_start : (h : ℕ) (C : List Ty) (b : ℕ) → holes ws n h ≡ some (C, b) → Dec (h < n) → HoleAt (start ws ss n).words (start ws ss n).used h C b
      hole_start h C b e (no l) = absurd (none-ne-some (C, b) (sym (holes_none ws n h (λ x _. l x)) ∙ e))
      hole_start h C b e (yes l) =
          let x = holes-read ws n a.sound (low ws ss n a) h l (tagged h C b e (ℕ_discrete (tag ws h) HO)) in
          let z = declared_once (sym e ∙ x.2) in
          rw start-used (hole_as z.0 z.1 (hole_later start_same (le_refl n) x.3))

  pub start-pairs : (ps : Pairs) → PairsRead ws n (equations ws n) ps
      → PairsRead (start ws ss n).words (start ws ss n).used (equations (start ws ss n).words n) ps
  start-pairs ps r = rw (start-used, equations_same ws (start ws ss n).words n start_same) (moved r)
    where
      moved : {q : List Pair} {ps : Pairs} → PairsRead ws n q ps → PairsRead (start ws ss n).words n q ps
      moved p_nil = p_nil
      moved (p_cons x y z) = p_cons (reads_later start_same (le_refl n) x) (reads_later start_same (le_refl n) y) (moved z)

  pub sides-read : (ps : Pairs) → PairsRead ws n (equations ws n) ps → sides ws n ≡ ps
  unfolding sides
  sides-read ps r = pairs-read (omega (arith, low ws ss n a)) r
