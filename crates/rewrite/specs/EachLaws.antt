-- What a loop that writes the arguments of a list keeps, argument by argument, whatever writes them.
use Rattle.std.specs.Prelude.{ℕ, suc, ◌+◌, ◌*◌, ◌<◌, ◌≤◌, ◌≡◌, refl, List, [], ◌∷◌, ◌++◌, length, Ok, Err}
use Rattle.std.proofs.Common.{ap, ◌∙◌, arith, length-append}
use Rattle.rules.specs.declared.Failure.{Failure}
use Rattle.store.specs.declared.Written.{Written}
use Rattle.table.specs.declared.Record.{Record}
use Rattle.table.specs.Reading.{IsRecord}
use Rattle.rules.specs.Words.{NONE, elements}
use Rattle.rules.specs.Store.{Store, goes, push_cells}
use Rattle.rules.specs.Map.{Map}
use Rattle.rules.specs.Rewrite.{Writer, write_all}
use Rattle.laws.specs.Lists.{size, elements_none}
use Rattle.invariants.specs.Rise.{reach}
use Rattle.store.specs.Said.{Answer, store, shown, Does}
use Rattle.store.specs.SaidLaws.{since_failed}
use Rattle.store.specs.EachLaws.{write_rest, writes_all, rest_end, rest_stops, rest_goes}
use Rattle.rewrite.specs.TermsLaws.{IsCell}
use Rattle.rewrite.specs.Writes.{WritesTerm, WritesList}

-- arguments at depth d of the words that are read are written under map m, to R records from n on; `term` and `list` say what is ready in a store
module _ (write : ℕ → Writer) (reads : Store → List ℕ) (term list : Store → ℕ → Type 0) (R T n F : ℕ) (m : Map) (d : ℕ) where
  -- what a list that is ready in a store says of itself, of its first element, and of its rest after that was written
  pub record Splits : Type 0 where
    pub room : (s : Store) (l : ℕ) → list s l → 4 * R ≤ length s.words
    pub since : (s : Store) (l : ℕ) → list s l → n ≤ s.used
    pub few : (s : Store) (l : ℕ) → list s l → length (elements (reads s) l) ≤ 16
    pub read : (s : Store) (l : ℕ) → list s l → (l ≡ NONE → ⊥) → 4 * l + 3 < length (reads s)
    pub cell : (s : Store) (l : ℕ) → list s l → (l ≡ NONE → ⊥) → (w : Record) → IsRecord (reads s) l w → IsCell (reads s) l w
    pub first : (s : Store) (l : ℕ) → list s l → (l ≡ NONE → ⊥) → (w : Record) → IsRecord (reads s) l w → IsCell (reads s) l w → term s w.a
    pub rest : (s : Store) (l : ℕ) → list s l → (l ≡ NONE → ⊥) → (w : Record) → IsRecord (reads s) l w → IsCell (reads s) l w
        → (s₁ : Store) (y : ℕ) → write (suc (reach T F (suc w.a))) m d w.a s ≡ goes s₁ y → length s₁.words ≡ length s.words
        → list s₁ w.b × (elements (reads s₁) w.b ≡ elements (reads s) w.b)

  -- after some arguments: what they were written as, and what is left
  pub record Turn (ws₀ ss₀ : List ℕ) (used₀ l₀ : ℕ) (ws ss noted : List ℕ) (used l : ℕ) : Type 0 where
    pub splits : Splits
    pub same : length ws ≡ length ws₀
    pub held : length ss ≡ length ss₀
    pub few : length noted + length (elements (reads (store ws ss used)) l) ≤ 16
    pub less : size l ≤ size l₀
    pub ready : list (store ws ss used) l
    pub leads : (f : ℕ) → reach T F (size l₀) ≤ f → write_all (write f) R m d (elements (reads (store ws₀ ss₀ used₀)) l₀) (store ws₀ ss₀ used₀)
        ≡ write_rest (write f) R m d noted (elements (reads (store ws ss used)) l) (store ws ss used)

module _ {write : ℕ → Writer} {reads : Store → List ℕ} {term list : Store → ℕ → Type 0} {R T n F : ℕ} {m : Map} {d : ℕ} {ws₀ ss₀ : List ℕ} {used₀ l₀ : ℕ} where
  pub turn_first : Splits write reads term list R T n F m d → (noted : List ℕ) → noted ≡ [] → list (store ws₀ ss₀ used₀) l₀ → Turn write reads term list R T n F m d ws₀ ss₀ used₀ l₀ ws₀ ss₀ noted used₀ l₀
  turn_first p noted z h =
      let c = p.few (store ws₀ ss₀ used₀) l₀ h in
      rw z (record { splits = p; same = refl; held = refl; few = omega arith; less = omega arith; ready = h; leads = λ f hf. writes_all (write f) R m d (elements (reads (store ws₀ ss₀ used₀)) l₀) (store ws₀ ss₀ used₀) })

  module _ {ws ss noted : List ℕ} {used l : ℕ} (h : Turn write reads term list R T n F m d ws₀ ss₀ used₀ l₀ ws ss noted used l) where
    abbrev s : Store
    s = store ws ss used

    pub turn_kept : (ws₁ : List ℕ) → length ws₁ ≡ length ws → length ws₁ ≡ length ws₀
    turn_kept ws₁ e = e ∙ h.same

    pub turn_holds : length ss ≡ length ss₀
    turn_holds = h.held

    -- nothing is left
    pub turn_asks : (4 * R ≤ length ws) × (n ≤ used)
    turn_asks = (h.splits.room s l h.ready, h.splits.since s l h.ready)

    pub turn_ends : (ys ws₁ : List ℕ) (x : Answer) → l ≡ NONE → ys ≡ noted → Does n (push_cells R ys) ws used ws₁ x → WritesList write reads R T n F m d l₀ (store ws₀ ss₀ used₀) ws₁ ss x
    turn_ends ys ws₁ x e q p = record { run = λ f hf. h.leads f hf ∙ rw (elements_none (reads s) l e, ← q) (rest_end (write f) R m d ys s ∙ p.run ss); grown = p.grown }

    -- a cell is left
    module _ (ne : l ≡ NONE → ⊥) where
      pub turn_read : 4 * l + 3 < length (reads s)
      turn_read = h.splits.read s l h.ready ne

      module _ (w : Record) (e : IsRecord (reads s) l w) where
        cell : IsCell (reads s) l w
        cell = h.splits.cell s l h.ready ne w e

        few : (length noted + 1) + length (elements (reads s) w.b) ≤ 16
        few = let c : length noted + length (w.a ∷ elements (reads s) w.b) ≤ 16 = rw cell.list at h.few in omega arith

        pub room_left : length noted < 16
        room_left = let f = few in omega arith

        pub turn_lower : suc w.a < size l₀
        turn_lower = let c = cell.lower.0 in let b = h.less in omega arith

        pub turn_less : size w.b < size l
        turn_less = cell.lower.1

        pub turn_head : term s w.a
        turn_head = h.splits.first s l h.ready ne w e cell

        module _ (ws₁ ss₁ : List ℕ) (x : Answer) (p : WritesTerm write T n F m d w.a s ws₁ ss₁ x) where
          gives : (f : ℕ) → reach T F (size l₀) ≤ f → write f m d w.a s ≡ shown ws₁ ss₁ x
          gives f hf = let a = turn_lower in p.run f (omega arith)

          pub turn_stops : (e₁ : Failure) (y : Answer) → x ≡ Err e₁ → y ≡ Err e₁ → WritesList write reads R T n F m d l₀ (store ws₀ ss₀ used₀) ws₁ ss₁ y
          turn_stops e₁ y q o =
              rw o (record {
                run = λ f hf. h.leads f hf ∙ rw cell.list (rest_stops (write f) R m d noted w.a (elements (reads s) w.b) s ws₁ ss₁ e₁ (gives f hf ∙ ap (shown ws₁ ss₁) q));
                grown = since_failed _ _;
              })

          pub turn_next : (v : Written) (noted₁ : List ℕ) → x ≡ Ok v → length ws₁ ≡ length ws → length ss₁ ≡ length ss → noted₁ ≡ noted ++ (v.root ∷ [])
              → Turn write reads term list R T n F m d ws₀ ss₀ used₀ l₀ ws₁ ss₁ noted₁ v.used w.b
          turn_next v noted₁ q lw ls t =
              let b = cell.lower.1 in
              let c = h.less in
              let one : length noted₁ ≡ length noted + 1 = rw t (length-append noted (v.root ∷ [])) in
              let f = few in
              let z = h.splits.rest s l h.ready ne w e cell (store ws₁ ss₁ v.used) v.root (p.run (suc (reach T F (suc w.a))) (omega arith) ∙ ap (shown ws₁ ss₁) q) lw in
              record {
                splits = h.splits;
                same = lw ∙ h.same;
                held = ls ∙ h.held;
                few = rw (z.1, one) f;
                less = omega arith;
                ready = z.0;
                leads = λ f hf. h.leads f hf ∙ rw (cell.list, t, z.1)
                    (rest_goes (write f) R m d noted w.a (elements (reads s) w.b) s (store ws₁ ss₁ v.used) v.root (gives f hf ∙ ap (shown ws₁ ss₁) q));
              }
