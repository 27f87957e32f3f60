-- What showing an argument list asks, argument by argument.
use Prim.Native.Nat.{ℕ, suc, ◌+◌, ◌*◌, ◌<◌}
use mathlib.Core.Path.{◌≡◌, refl}
use mathlib.Core.List.{List, [], ◌∷◌, ◌++◌}
use mathlib.Core.Bool.{false}
use native.Mathlib.Omega.{arith}
use lib.ListN.{length}
use Rattle.table.specs.declared.Record.{Record}
use Rattle.table.specs.Reading.{IsRecord, Follows}
use Rattle.places.specs.declared.Map.{Map}
use Rattle.rules.specs.Words.{tag, field_c}
use Rattle.rules.specs.Store.{Store}
use Rattle.rules.specs.Show.{show_term}
use Rattle.laws.specs.Lists.{size, Listed}
use Rattle.invariants.specs.Grow.{listed_of}
use Rattle.invariants.specs.Rise.{reach}
use Rattle.places.specs.Maps.{map_of}
use Rattle.rewrite.specs.TermsLaws.{list_read, list_cell, list_first, list_second}
use Rattle.rewrite.specs.EachLaws.{Splits, Turn as Loop, turn_head as head, turn_lower as lower, room_left as room, turn_stops as stops, turn_next as on}
use Rattle.std.specs.Prelude.{Ok, Err}
use Rattle.rules.specs.declared.Failure.{Failure}
use Rattle.store.specs.declared.Written.{Written}
use Rattle.store.specs.Said.{Answer, store}
use Rattle.show.specs.Shows.{ShowsTerm, ShowsList}
use Rattle.show.specs.Ready.{ReadyTerm, ReadyList}
use Rattle.show.proofs.Ready.{on_part}

module _ (O : ℕ) (m : Map) (ws ss : List ℕ) (F d : ℕ) where
  abbrev Term : Store → ℕ → Type 0
  Term s r = ReadyTerm O m ws ss s.words F d r

  abbrev All : Store → ℕ → Type 0
  All s l = ReadyList O m ws ss s.words F d l

  pub splits : Splits (λ f. show_term f O ws) (λ _. ws) Term All O 4096 0 F (map_of false m) d
  splits =
      record {
        room = λ s l h. h.on.room;
        since = λ s l h. omega arith;
        few = λ s l h. h.at.few;
        read = λ s l h. list_read h.at;
        cell = λ s l h. list_cell h.at;
        first = λ s l h ne w e c.
            let a = c.lower.0 in
            record { table = h.table; scope = h.scope; at = list_first h.at ne w e; on = on_part d (suc w.a) s.words h.on refl (omega arith); full = h.full };
        rest = λ s l h ne w e c s₁ y g lw.
            let b = c.lower.1 in
            (record { table = h.table; scope = h.scope; at = list_second h.at ne w e; on = on_part d (size w.b) s₁.words h.on lw (omega arith); full = h.full }, refl);
      }

-- after some arguments: what they were written as, and what is left
abbrev pub Turn : ℕ → Map → List ℕ → List ℕ → List ℕ → ℕ → ℕ → ℕ → ℕ → List ℕ → List ℕ → ℕ → ℕ → Type 0
Turn O m ws ss os₀ used₀ F d l₀ os noted used l = Loop (λ f. show_term f O ws) (λ _. ws) (Term O m ws ss F d) (All O m ws ss F d) O 4096 0 F (map_of false m) d os₀ ss used₀ l₀ os ss noted used l

pub list_listed : {O : ℕ} {m : Map} {ws ss os : List ℕ} {F d l : ℕ} → ReadyList O m ws ss os F d l → Listed ws l
list_listed {ws = ws} {ss = ss} {l = l} h = let t = h.table in listed_of t.R t.n t.home (store ws ss t.used) l h.at.fine h.at.is.here

module _ {O : ℕ} {m : Map} {ws ss os₀ : List ℕ} {used₀ F d l₀ : ℕ} {os noted : List ℕ} {used l : ℕ} (h : Turn O m ws ss os₀ used₀ F d l₀ os noted used l)
    {vs : List ℕ} (k : vs ≡ ws) {x next : ℕ} (f : Follows vs l x next) where
  abbrev cell : Record
  cell = record { tag = tag ws l; a = x; b = next; c = field_c ws l }

  is_cell : IsRecord ws l cell
  is_cell = let g : Follows ws l x next = rw k at f in record { tag_is = refl; a_is = g.element; b_is = g.rest; c_is = refl }

  pub turn_falls : (t : ℕ) → 2 * reach 4096 F (size l₀) ≡ t → 2 * reach 4096 F (suc x) + 1 < t
  turn_falls t z = let a = lower h f.some cell is_cell in omega arith

  pub turn_head : ReadyTerm O m ws ss os F d x
  turn_head = head h f.some cell is_cell

  pub turn_room : length noted < 16
  turn_room = room h f.some cell is_cell

  module _ (os₁ : List ℕ) (r : Answer) (p : ShowsTerm O m ws ss os used F d x os₁ r) where
    pub turn_stops : (e : Failure) (y : Answer) → r ≡ Err e → y ≡ Err e → ShowsList O m ws ss os₀ used₀ F d l₀ os₁ y
    turn_stops e y q o = stops h f.some cell is_cell os₁ ss r p e y q o

    pub turn_next : (v : Written) (noted₁ : List ℕ) → r ≡ Ok v → length os₁ ≡ length os → noted₁ ≡ noted ++ (v.root ∷ []) → Turn O m ws ss os₀ used₀ F d l₀ os₁ noted₁ v.used next
    turn_next v noted₁ q e z = on h f.some cell is_cell os₁ ss r p v noted₁ q e refl z
