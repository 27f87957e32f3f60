-- The walk's big-step rules.
use Rattle.std.specs.Prelude.{Option, ℕ, None, Some, Ok, Err}
use Prim.Native.Nat.{ℕ, suc, ◌<◌}
use mathlib.Core.Path.{◌≡◌, refl, sym, ◌∙◌}
use mathlib.Core.List.{List, [], ◌∷◌}
use mathlib.Core.Bool.{false}
use native.Mathlib.Omega.{arith}
use lib.ListN.{length, get_or, length-map}
use lib.Dec.{eqb}
use borrow.Author.Tests.{eq-eqb, ne_eqb}
use Rattle.rules.specs.declared.Failure.{Failure}
use Rattle.rules.specs.declared.Failure.TheVariants.{Escape, Occurs}
use Rattle.store.specs.declared.Written.{Written}
use Rattle.table.specs.declared.Record.{Record}
use Rattle.table.specs.Reading.{IsRecord}
use Rattle.table.specs.declared.Hole.{Hole}
use Rattle.places.specs.declared.Map.{Map}
use Rattle.rules.specs.Words.{NONE, tag, field_a, field_b, elements, arguments, variables, CE, HA}
use Rattle.rules.specs.Store.{Out, ◌>>=◌, fail, push, push_occurrence, solved, solution}
use Rattle.rules.specs.Map.{follow}
use Rattle.rules.specs.Rewrite.{write_all, keep_hole, copy}
use Rattle.rules.specs.Walk.{keep_placed, walk_hole, walk}
use Rattle.laws.specs.Lists.{size}
use Rattle.invariants.specs.Rise.{reach}
use Rattle.store.specs.Said.{Answer, Does, Does², store}
use Rattle.store.specs.SaidLaws.{since_failed}
use Rattle.store.specs.Solutions.{solution_in}
use Rattle.store.specs.SolutionsLaws.{word_none, word_some, word_real}
use Rattle.places.specs.Maps.{map_of, side}
use Rattle.places.specs.Lists.{vars_of}
use Rattle.places.specs.Follow.{Followed}
use Rattle.rewrite.specs.LevelsLaws.{Headed, level_escape}
use Rattle.rewrite.specs.Writes.{Gives as Writes}
use Rattle.rewrite.specs.WritesLaws.{Unrolls, gives_level, writes_hole, writes_leaf}
use Rattle.walk.specs.Head.{head_of}
use Rattle.walk.proofs.Head.{head_nowhere}
use Rattle.walk.specs.Walks.{writer, on_hole, map_at, WalksTerm, WalksList, WalksHole}

module _ (R : ℕ) (u : Option Hole) (f : ℕ) where
  module _ (e : u ≡ None) where
    pub copies : writer R u f ≡ copy f R
    unfolding writer
    copies = rw e

    keeps : on_hole R u f ≡ keep_hole R
    unfolding on_hole
    keeps = rw e

  module _ (h : Hole) (e : u ≡ Some h) where
    pub walks : writer R u f ≡ walk f R h.0
    unfolding writer
    walks = rw e

    solves : on_hole R u f ≡ walk_hole (walk f R h.0) R h.0
    unfolding on_hole
    solves = rw e

pub unrolls : (R : ℕ) (u : Option Hole) → Unrolls (writer R u) (on_hole R u) (λ s. s.words) R
unfolding writer on_hole copy walk
unrolls R None = record { level = λ f m d r s. refl }
unrolls R (Some h) = record { level = λ f m d r s. refl }

-- with fuel enough, the walk of a term is this
abbrev pub Gives : ℕ → Option Hole → Map → List ℕ → List ℕ → ℕ → ℕ → ℕ → ℕ → Out ℕ → Type 0
Gives R u m ws ss used F d r o = Writes (writer R u) R F (map_at F m) d r (store ws ss used) o

module _ (R n : ℕ) (u : Option Hole) (m : Map) (ws ss : List ℕ) (used F d r : ℕ) where
  module _ (w : Record) (e : IsRecord ws r w) where
    pub walk_leaf : (v : ℕ) (ws₁ : List ℕ) (x : Answer) → Headed (map_at F m) d w v → w.b ≡ NONE → Does n (push R w.tag v NONE) ws used ws₁ x → WalksTerm R n u m ws ss used F d r ws₁ ss x
    walk_leaf = writes_leaf (unrolls R u) R n F (map_at F m) d r ws ss used w e

    pub walk_escape : (s : Option ℕ) → head_of (map_at F m) d w ≡ s → s ≡ None → WalksTerm R n u m ws ss used F d r ws ss (Err Escape)
    unfolding fail
    walk_escape s p q =
        let z = head_nowhere (map_at F m) d w s p q in
        record { run = gives_level (unrolls R u) R n F (map_at F m) d r ws ss used _ λ k hk. level_escape (on_hole R u k) (writer R u k) R ws (map_at F m) d r (store ws ss used) w e z.0 z.1; grown = since_failed _ _ }

  pub walk_hole_lem : (ws₁ ss₁ : List ℕ) (x : Answer) → tag ws r ≡ HA → WalksHole R n u m ws ss used F d r ws₁ ss₁ x → WalksTerm R n u m ws ss used F d r ws₁ ss₁ x
  walk_hole_lem ws₁ ss₁ x t h = writes_hole (unrolls R u) R n F (map_at F m) d r ws ss used ws₁ ss₁ x t h.grown λ k hk. h.run k (omega arith)

  -- an only argument fails, or is written and then its cell
  module _ (l : ℕ) (el : elements ws l ≡ r ∷ []) (lt : suc r < size l) (ws₁ ss₁ : List ℕ) (x : Answer) (h : WalksTerm R n u m ws ss used F d r ws₁ ss₁ x) where
    pub walk_only_stops : (e : Failure) (y : Answer) → x ≡ Err e → y ≡ Err e → WalksList R n u m ws ss used F d l ws₁ ss₁ y
    unfolding write_all ◌>>=◌
    walk_only_stops e y q o = rw o (record { run = λ f hf. rw (el, h.run f (omega arith), q); grown = since_failed _ _ })

    pub walk_only : (v : Written) (ws₂ : List ℕ) (y : Answer) → x ≡ Ok v → Does n (push R CE v.root NONE) ws₁ v.used ws₂ y → WalksList R n u m ws ss used F d l ws₂ ss₁ y
    unfolding write_all ◌>>=◌
    walk_only v ws₂ y q p = record { run = λ f hf. rw (el, h.run f (omega arith), q) (p.run ss₁); grown = p.grown }

  -- an occurrence
  module _ (w : Record) (e : IsRecord ws r w) where
    pub hole_kept : (next : Map) (ws₁ : List ℕ) (x : Answer) → u ≡ None → (F ≡ 0 → ⊥) → Followed ws false m d w.b next → Does n (push_occurrence R w.a (side false (map_of false next))) ws used ws₁ x
        → WalksHole R n u m ws ss used F d r ws₁ ss x
    unfolding keep_hole variables arguments side
    hole_kept next ws₁ x z a f p =
        let f₁ : follow (map_of false m) d 0 (vars_of ws (field_b ws r)) ≡ map_of false next = rw (← e.b_is) (sym f.run) in
        record { run = λ k hk. rw (keeps R u k z, ne_eqb F 0 a, f₁, ← e.a_is) (p.run ss); grown = p.grown }

    module _ (h : Hole) (some : u ≡ Some h) where
      pub hole_occurs : w.a ≡ h.0 → WalksHole R n u m ws ss used F d r ws ss (Err Occurs)
      unfolding walk_hole fail
      hole_occurs q = record { run = λ f hf. rw (solves R u f h some, eq-eqb _ _ (sym e.a_is ∙ q), walk_hole); grown = since_failed _ _ }

      module _ (ne : w.a ≡ h.0 → ⊥) (next : Map) (f : Followed ws (eqb F 0) m d w.b next) (o : Option ℕ) (st : solution_in ss w.a ≡ o) where
        other : field_a ws r ≡ h.0 → ⊥
        other q = ne (e.a_is ∙ q)

        follows : follow (map_at F m) d 0 (vars_of ws (field_b ws r)) ≡ map_of false next
        follows = rw (← e.b_is) (sym f.run)

        pub hole_keeps : (ws₁ ss₁ : List ℕ) (x : Answer) → o ≡ None → Does² n (keep_placed R w.a next.len (map_of false next)) ws ss used ws₁ ss₁ x → WalksHole R n u m ws ss used F d r ws₁ ss₁ x
        unfolding walk_hole solved variables arguments
        hole_keeps ws₁ ss₁ x z p =
            let s₁ : get_or ss (field_a ws r) NONE ≡ NONE = rw (← e.a_is) (word_none _ o st z) in
            let c₀ : length (elements ws (field_b ws r)) ≡ next.len = rw (← e.b_is) (sym f.len) in
            let c₁ : length (vars_of ws (field_b ws r)) ≡ next.len = simp length-map c₀ in
            record { run = λ g hg. rw (solves R u g h some, ne_eqb _ _ other, walk_hole, s₁, follows, c₁, ← e.a_is) p.run; grown = p.grown }

        pub hole_hops : (t G : ℕ) (ws₁ ss₁ : List ℕ) (x : Answer) → o ≡ Some t → (G ≡ 0 → ⊥) → reach R G (suc t) < reach R F r
            → WalksTerm R n u next ws ss used G 0 t ws₁ ss₁ x → WalksHole R n u m ws ss used F d r ws₁ ss₁ x
        unfolding walk_hole solved solution variables arguments
        hole_hops t G ws₁ ss₁ x z g lt p =
            let s₁ : get_or ss (field_a ws r) NONE ≡ t = rw (← e.a_is) (word_some _ o st t z) in
            record { run = λ k hk. rw (solves R u k h some, ne_eqb _ _ other, walk_hole, s₁, ne_eqb _ _ (word_real _ o st t z), follows, s₁, ← ne_eqb G 0 g, ← walks R u k h some) (p.run k (omega arith)); grown = p.grown }
