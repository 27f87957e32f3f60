-- A record keeps the rules: its fields, and what else its kind asks.
use Prim.Native.Nat.{ℕ, ◌+◌, ◌<◌, ◌≤◌}
use mathlib.Core.Path.{◌≡◌, refl, sym, ◌∙◌}
use mathlib.Core.Bool.{Bool, true, false}
use mathlib.Core.List.{List}
use mathlib.Core.Logic.{◌⊎◌, inl, inr}
use native.Mathlib.Omega.{arith}
use native.Mathlib.Decide.{ℕ_discrete}
use borrow.Author.Tests.{ltb-true, leb-true, eqb-true, eq-eqb}
use lib.ListN.{length, get_or, get_or-eq_default}
use lib.Dec.{eqb, leb}
use Rattle.rules.specs.Lists.{both}
use Rattle.rules.specs.Words.{BT, AR, KO, HO, CE, LA, CA, VA, HA, EQ, tag, field_b, is_type}
use Rattle.rules.specs.Records.{never, shapes, shape, fits, shaped, listed, new_type, first_use, keeps}
use Rattle.laws.specs.Tests.{false_true, both_true, both-alone}
use Rattle.laws.specs.Sound.{Sound, type_tag}
use Rattle.table.specs.declared.Record.{Record}
use Rattle.table.specs.Reading.{IsRecord}
use Rattle.records.specs.declared.Field.{Field}
use Rattle.records.specs.Kinds.{field, Above}
use Rattle.records.specs.Marks.{Marked, used, within, CellAsks, CellSays}
use Rattle.records.specs.Chains.{ChainAsks, ChainSays}
use Rattle.records.specs.Rows.{RowAsks, RowSays, RecordAsks, RecordSays}
use Rattle.records.proofs.Joined.{both_outer}
use Rattle.records.proofs.Ranges.{kind_other}
use Rattle.records.proofs.Uses.{marked_next}
use Rattle.records.proofs.Lengths.{listed_other}
use Rattle.records.proofs.Earlier.{chains_other, new_other}

-- The rules one after the other

module _ (ws : List ℕ) (r : ℕ) where
  keeps_is : (k : Bool) → k ≡ both (shaped ws r) (first_use ws r) → keeps ws r ≡ both k (both (listed ws r) (new_type ws r))
  unfolding keeps
  keeps_is k e = rw e (both_outer (shaped ws r) (listed ws r) (new_type ws r) (first_use ws r))

  pub says_broken : (ms la be : List ℕ) (b : Bool) → RowSays ws ms r b → b ≡ false → RecordSays ws ms la be r b
  says_broken ms la be b s t = record {
    answer = t ∙ sym (keeps_is b s.answer ∙ (unfold both in rw t));
    next = λ v. absurd (false_true (sym t ∙ v));
  }

  row_shaped : (ms : List ℕ) (k : Bool) → RowSays ws ms r k → k ≡ true → shaped ws r ≡ true
  row_shaped ms k s t = (both_true _ _ (sym s.answer ∙ t)).0

  type_no_cell : is_type ws r ≡ true → tag ws r ≡ CE → ⊥
  type_no_cell e c = go (type_tag ws r e)
    where
      go : (tag ws r ≡ BT) ⊎ (tag ws r ≡ AR) → ⊥
      go (inl z) = omega arith
      go (inr z) = omega arith

  b_fits : shaped ws r ≡ true → fits ws r (shape ws r).1 (field_b ws r) ≡ true
  unfolding shaped
  b_fits h = (both_true _ _ (both_true _ _ h).1).0

  key_low : (tag ws r ≡ BT) ⊎ (tag ws r ≡ AR) → shaped ws r ≡ true → field_b ws r ≤ r
  unfolding shape shapes fits
  key_low (inl e) h = let z : field_b ws r ≡ 0 = eqb-true _ _ (rw e at (b_fits h)) in omega arith
  key_low (inr e) h = let z : field_b ws r < r = ltb-true _ _ (both_true _ _ (rw e at (b_fits h))).0 in omega arith

  cell_no_type : tag ws r ≡ CE → is_type ws r ≡ false
  unfolding is_type both
  cell_no_type c = rw c

  shape_at : (k : ℕ) → tag ws r ≡ k → (a b c : Field) → get_or shapes k (never, never, never) ≡ (field a, field b, field c) → shape ws r ≡ (field a, field b, field c)
  unfolding shape
  shape_at k e a b c h = rw e h

-- A record, by tag

past : (k m : ℕ) → m ≤ k → (k ≡ m → ⊥) → m < k
past k m h n = omega arith

module _ (ws ms la be : List ℕ) (r : ℕ) (p : RecordAsks ws ms la be r) where
  above : Above ws r
  above = record { inside = p.inside; few = p.few; lower = p.passed.lower }

  sound_next : keeps ws r ≡ true → Sound ws (r + 1)
  sound_next e i h = go (ℕ_discrete i r)
    where
      go : Dec (i ≡ r) → keeps ws i ≡ true
      go (yes q) = rw q e
      go (no q) = p.passed.lower i (omega arith)

  module _ (x : Record) (w : IsRecord ws r x) (k : ℕ) (e : x.tag ≡ k) where
    at_tag : tag ws r ≡ k
    at_tag = sym w.tag_is ∙ e

    pub row_asks : leb k EQ ≡ true → (a b c : Field) → get_or shapes k (never, never, never) ≡ (field a, field b, field c) → RowAsks ws ms r a b c
    row_asks l a b c h = let m = p.room.marks in let q = at_tag in let n = leb-true k EQ l in record {
      above = above;
      row = shape_at ws r k at_tag a b c h;
      tag_low = omega arith;
      room = omega arith;
      known = p.passed.marks;
    }

    kind_is : (t : Bool) → within BT AR k ≡ t → is_type ws r ≡ t
    unfolding is_type within
    kind_is t h = rw at_tag h

    -- the mark of a record that is no cell is its tag
    own-mark : (ms₁ : List ℕ) (b : Bool) → length ms₁ ≡ length ms → RowSays ws ms₁ r b → b ≡ true → (tag ws r ≡ CE → ⊥) → Marked ws ms₁ (used ws (r + 1)) (r + 1)
    own-mark ms₁ b l s t n =
        let m = p.room.marks in
        marked_next ws ms₁ (used ws (r + 1)) r (s.next t) (omega arith) (s.own t ∙ sym (kind_other ws r n))

    module _ (ms₁ : List ℕ) (b : Bool) (lm : length ms₁ ≡ length ms) (s : RowSays ws ms₁ r b) (t : b ≡ true) where
      pub chain-asks : within BT AR k ≡ true → ChainAsks ws la be r
      chain-asks h = let l = p.room.last in let m = p.room.before in record {
        inside = p.inside;
        few = p.few;
        type = kind_is true h;
        key = key_low ws r (type_tag ws r (kind_is true h)) (row_shaped ws r ms₁ b s t);
        room_last = omega arith;
        room_before = omega arith;
        known = p.passed.chains;
      }

      pub says_type : within BT AR k ≡ true → (la₁ be₁ : List ℕ) (y : Bool) → ChainSays ws la₁ be₁ r y → RecordSays ws ms₁ la₁ be₁ r y
      says_type h la₁ be₁ y q = record {
        answer = answer;
        next = λ v. record {
          lower = sound_next (sym answer ∙ v);
          marks = own-mark ms₁ b lm s t no_cell;
          chains = q.next v;
        };
      }
        where
          no_cell : tag ws r ≡ CE → ⊥
          no_cell = type_no_cell ws r (kind_is true h)

          answer : y ≡ keeps ws r
          answer = q.answer ∙ sym (keeps_is ws r b s.answer ∙ (unfold both in rw (t, ← listed_other ws r no_cell)))

    pub cell_asks : k ≡ CE → CellAsks ws ms r
    cell_asks c = let l = p.room.marks in record { above = above; cell = at_tag ∙ c; room = omega arith; known = p.passed.marks }

    pub says_cell : k ≡ CE → (ms₁ : List ℕ) (y : Bool) → CellSays ws ms₁ r y → RecordSays ws ms₁ la be r y
    says_cell c ms₁ y q = record {
      answer = answer;
      next = λ v. record {
        lower = sound_next (sym answer ∙ v);
        marks = q.next v;
        chains = chains_other ws la be r no_type p.passed.chains;
      };
    }
      where
        no_type : is_type ws r ≡ false
        no_type = cell_no_type ws r (at_tag ∙ c)

        answer : y ≡ keeps ws r
        answer = q.answer ∙ sym (keeps_is ws r (both (shaped ws r) (first_use ws r)) refl ∙ rw (new_other ws r no_type, both-alone (listed ws r)))

    pub says_row : within BT AR k ≡ false → eqb k CE ≡ false → (ms₁ : List ℕ) (y : Bool) → length ms₁ ≡ length ms → RowSays ws ms₁ r y → RecordSays ws ms₁ la be r y
    says_row t n ms₁ y lm s =
        let no_cell : tag ws r ≡ CE → ⊥ = λ q. false_true (sym n ∙ eq-eqb k CE (sym at_tag ∙ q)) in
        record {
          answer = answer no_cell;
          next = λ v. record {
            lower = sound_next (sym (answer no_cell) ∙ v);
            marks = own-mark ms₁ y lm s v no_cell;
            chains = chains_other ws la be r (kind_is false t) p.passed.chains;
          };
        }
      where
        answer : (tag ws r ≡ CE → ⊥) → y ≡ keeps ws r
        answer no_cell = sym (keeps_is ws r y s.answer ∙ rw (← listed_other ws r no_cell, new_other ws r (kind_is false t)) (unfold both in both-alone y))

  -- no tag of the table
  module _ (x : Record) (w : IsRecord ws r x) (no_bt : x.tag ≡ BT → ⊥) (no_ar : x.tag ≡ AR → ⊥) (no_ko : x.tag ≡ KO → ⊥) (no_ho : x.tag ≡ HO → ⊥) (no_ce : x.tag ≡ CE → ⊥)
      (no_la : x.tag ≡ LA → ⊥) (no_ca : x.tag ≡ CA → ⊥) (no_va : x.tag ≡ VA → ⊥) (no_ha : x.tag ≡ HA → ⊥) (no_eq : x.tag ≡ EQ → ⊥) where
    past_all : 0 < x.tag → EQ < x.tag
    past_all h = past _ EQ (past _ HA (past _ VA (past _ CA (past _ LA (past _ CE (past _ HO (past _ KO (past _ AR (past _ BT h no_bt) no_ar) no_ko) no_ho) no_ce) no_la) no_ca) no_va) no_ha) no_eq

    unknown : Dec (tag ws r ≡ 0) → shape ws r ≡ (never, never, never)
    unfolding shape shapes
    unknown (yes e) = rw e
    unknown (no z) =
        let e = w.tag_is in
        let l : EQ < x.tag = past_all (past _ 0 (omega arith) (λ q. z (sym e ∙ q))) in
        let m : length shapes ≤ tag ws r = omega arith in
        get_or-eq_default shapes (never, never, never) m

    pub says_unknown : RecordSays ws ms la be r false
    says_unknown = record {
      answer = let e = unknown (ℕ_discrete (tag ws r) 0) in unfold keeps in unfold shaped in unfold fits in unfold both in rw e;
      next = λ v. absurd (false_true v);
    }
