-- What the walk of a rigid head asks and says.
use Rattle.std.specs.Prelude.{Option, ℕ, Some, Ok, Err}
use Prim.Native.Nat.{ℕ, suc, ◌*◌, ◌<◌, ◌≤◌}
use mathlib.Core.Path.{◌≡◌, sym, ◌∙◌}
use mathlib.Core.List.{List}
use mathlib.Core.Bool.{Bool, true}
use native.Mathlib.Omega.{arith}
use lib.ListN.{length}
use Rattle.rules.specs.declared.Failure.{Failure}
use Rattle.store.specs.declared.Written.{Written}
use Rattle.table.specs.declared.Record.{Record}
use Rattle.table.specs.Reading.{IsRecord}
use Rattle.table.specs.declared.Hole.{Hole}
use Rattle.places.specs.declared.Map.{Map}
use Rattle.rules.specs.Words.{NONE, HA}
use Rattle.rules.specs.Store.{push}
use Rattle.laws.specs.Lists.{size}
use Rattle.invariants.specs.Rise.{reach}
use Rattle.store.specs.Said.{Answer, Does}
use Rattle.rewrite.specs.LevelsLaws.{Headed}
use Rattle.walk.specs.Head.{head_of, is_leaf}
use Rattle.walk.proofs.Head.{head_at, leaf_parts}
use Rattle.walk.specs.Walks.{map_at, WalksTerm, WalksList}
use Rattle.walk.proofs.Walks.{walk_leaf}
use Rattle.walk.specs.Ready.{ReadyTerm, ReadyBody, ReadyArgs}
use Rattle.walk.proofs.Ready.{args_size, headed, to_args, walked_stops, walked_rigid}

-- a rigid head without arguments
pub leaf_walked : (R n : ℕ) (u : Option Hole) (m : Map) (ws ss : List ℕ) (used F d r : ℕ) (w : Record) → IsRecord ws r w → (b : Bool) (s : Option ℕ) (v : ℕ) (ws₁ : List ℕ) (x : Answer) → is_leaf w ≡ b → b ≡ true → head_of (map_at F m) d w ≡ s → s ≡ Some v → Does n (push R w.tag v NONE) ws used ws₁ x
    → WalksTerm R n u m ws ss used F d r ws₁ ss x
leaf_walked R n u m ws ss used F d r w e b s v ws₁ x l y p q g = let k = leaf_parts w (l ∙ y) in walk_leaf R n u m ws ss used F d r w e v ws₁ x (head_at _ _ _ s p v k.1 k.2 q) k.0 g

-- a rigid head, written as v
pub record Rigid (R n : ℕ) (u : Option Hole) (m : Map) (ws ss : List ℕ) (used F d r : ℕ) (w : Record) (v : ℕ) : Type 0 where
  pub on : ReadyTerm R n u m ws ss used F d r
  pub is : IsRecord ws r w
  pub head : Headed (map_at F m) d w v

module _ {R n : ℕ} {u : Option Hole} {m : Map} {ws ss : List ℕ} {used F d r : ℕ} where
  pub term_room : (ws₁ : List ℕ) → length ws₁ ≡ length ws → ReadyTerm R n u m ws ss used F d r → 4 * R ≤ length ws₁
  term_room ws₁ e h = let o = h.at.fine.room in omega arith

  pub term_since : ReadyTerm R n u m ws ss used F d r → n ≤ used
  term_since h = h.at.fine.since

  module _ (w : Record) (e : IsRecord ws r w) where
    pub body_rigid : ReadyBody R n u m ws ss used F d r → (s : Option ℕ) (v : ℕ) → (w.tag ≡ HA → ⊥) → head_of (map_at F m) d w ≡ s → s ≡ Some v → Rigid R n u m ws ss used F d r w v
    body_rigid h s v ne p q = record { on = h.on; is = e; head = headed w s v e (λ t. h.plain (sym e.tag_is ∙ t)) ne h.on p q }

  module _ {w : Record} {v : ℕ} (h : Rigid R n u m ws ss used F d r w v) where
    pub rigid_leaf : (ws₁ : List ℕ) (x : Answer) → w.b ≡ NONE → Does n (push R w.tag v NONE) ws used ws₁ x → WalksTerm R n u m ws ss used F d r ws₁ ss x
    rigid_leaf ws₁ x z g = walk_leaf R n u m ws ss used F d r w h.is v ws₁ x h.head z g

    -- its arguments
    pub rigid_args : (w.b ≡ NONE → ⊥) → ReadyArgs R n u m ws ss used F d w.b
    rigid_args ne = record { list = to_args w v h.is h.head h.on; some = ne }

    pub fall_args : (t : ℕ) → 3 * reach R F (suc r) ≡ t → 3 * reach R F (size w.b) < t
    fall_args t z = let s = args_size w v h.is h.head h.on in omega arith

    pub rigid_room : (ws₁ : List ℕ) → length ws₁ ≡ length ws → 4 * R ≤ length ws₁
    rigid_room ws₁ e = term_room ws₁ e h.on

    module _ (ws₁ ss₁ : List ℕ) (x : Answer) (l : WalksList R n u m ws ss used F d w.b ws₁ ss₁ x) where
      pub rigid_stops : (f : Failure) (y : Answer) → x ≡ Err f → y ≡ Err f → WalksTerm R n u m ws ss used F d r ws₁ ss₁ y
      rigid_stops = walked_stops w v h.is h.head h.on ws₁ ss₁ x l

      pub rigid_ends : (a : Written) (ws₂ : List ℕ) (y : Answer) → x ≡ Ok a → Does n (push R w.tag v a.root) ws₁ a.used ws₂ y → WalksTerm R n u m ws ss used F d r ws₂ ss₁ y
      rigid_ends = walked_rigid w v h.is h.head h.on ws₁ ss₁ x l
