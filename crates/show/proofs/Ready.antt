-- What showing asks still holds where the code goes on.
use Prim.Native.Nat.{ℕ, suc, ◌+◌, ◌*◌, ◌<◌, ◌≤◌}
use mathlib.Core.Path.{◌≡◌, refl, sym, ◌∙◌}
use mathlib.Core.List.{List}
use mathlib.Core.Bool.{false}
use native.Mathlib.Omega.{arith}
use lib.ListN.{length, get_or}
use mir.Syntax.{w32}
use mir.Val.{Fits}
use Rattle.std.specs.Prelude.{Option, Some, Ok, Err}
use Rattle.rules.specs.declared.Failure.{Failure}
use Rattle.rules.specs.Store.{push}
use Rattle.store.specs.declared.Written.{Written}
use Rattle.store.specs.Solutions.{solution_in}
use Rattle.store.specs.SolutionsLaws.{word_some, word_real}
use Rattle.table.specs.declared.Record.{Record}
use Rattle.table.specs.Reading.{IsRecord}
use Rattle.places.specs.declared.Map.{Map}
use Rattle.rules.specs.Words.{NONE, tag, field_a, arguments, variables, LA, VA, HA}
use Rattle.laws.specs.Lists.{size}
use Rattle.invariants.specs.Floor.{Sub}
use Rattle.invariants.specs.Places.{followed}
use Rattle.invariants.specs.Rise.{reach, raised_on, Rises, rises}
use Rattle.promise.proofs.CopyKnown.{full_place, full_arguments}
use Rattle.promise.proofs.ShowKnown.{full_hole}
use Rattle.store.specs.Said.{Answer, store, Does}
use Rattle.places.specs.Maps.{map_of}
use Rattle.places.specs.Looking.{Looks}
use Rattle.places.specs.Lists.{vars_of}
use Rattle.places.specs.Follow.{Followed}
use Rattle.rewrite.specs.Renamed.{Renaming}
use Rattle.rewrite.specs.Renamings.{Renamings}
use Rattle.rewrite.specs.LevelsLaws.{Headed, of_constant}
use Rattle.rewrite.specs.PartsLaws.{counts_at}
use Rattle.rewrite.specs.TermsLaws.{at_read, at_low, at_less, at_body, at_variable, at_size, at_args}
use Rattle.rewrite.specs.WritesLaws.{writes_stops, writes_rigid}
use Rattle.show.proofs.Shows.{unrolls, show-occurrence, hole_expanded}
use Rattle.show.specs.Shows.{ShowsTerm, ShowsList, ShowsHole}
use Rattle.show.specs.Ready.{On, ReadyTerm, ReadyBody, ReadyList, ReadyHole}

module _ {O : ℕ} {m : Map} {os : List ℕ} {F d k : ℕ} where
  looks_on : On O m os F d k → Looks false m d
  looks_on o = let f = o.fits in record { top = o.top; low = o.low; fits = omega arith }

  -- the same output and map, elsewhere and deeper
  pub on_part : (c j : ℕ) (os₁ : List ℕ) → On O m os F d k → length os₁ ≡ length os → c + reach 4096 F j ≤ d + reach 4096 F k → On O m os₁ F c j
  on_part c j os₁ o e le =
      let f = o.fits in
      let r = o.room in
      record { room = omega arith; top = o.top; low = o.low; fits = omega arith; floor = o.floor }

module _ {O : ℕ} {m : Map} {ws ss os : List ℕ} {F d r : ℕ} where
  pub to_read : ReadyTerm O m ws ss os F d r → 4 * r + 3 < length ws
  to_read h = at_read h.at

  -- the body of a lambda
  pub to_body : (w : Record) → IsRecord ws r w → w.tag ≡ LA → ReadyTerm O m ws ss os F d r → ReadyTerm O m ws ss os F (d + 1) w.a
  to_body w e k h =
      let l = at_less h.at w e k in
      record { table = h.table; scope = h.scope; at = at_body h.at w e k; on = on_part (d + 1) (suc w.a) os h.on refl (omega arith); full = h.full }

  -- a term that is no lambda
  module _ (h : ReadyBody O m ws ss os F d r) where
    pub to_push : 4 * O ≤ length os
    to_push = h.on.on.room

    pub to_then : (os₁ : List ℕ) → length os₁ ≡ length os → 4 * O ≤ length os₁
    to_then os₁ e = let c = h.on.on.room in omega arith

    pub to_above : Fits w32 (r + 1)
    to_above = let l = at_low h.on.at in record { fits = omega arith }

  module _ (w : Record) (e : IsRecord ws r w) (h : ReadyBody O m ws ss os F d r) where
    -- a rigid head
    pub to_name : w.tag ≡ VA → Renaming m d w.a
    to_name t = let p = full_place h.on.full d w.a (at_variable h.on.at w e t) in record { looks = looks_on h.on.on; to = p.0; has = p.1 }

    module _ (b : w.tag ≡ HA → ⊥) where
      a : w.tag ≡ LA → ⊥
      a q = h.plain (sym e.tag_is ∙ q)

      pub head-kept : (x : ℕ) → (w.tag ≡ VA → ⊥) → x ≡ w.a → Headed (map_of false m) d w x
      head-kept x c q = let p = h.plain in let lo = h.on.at.is.term.low in let hi = h.on.at.is.term.high in let z = e.tag_is in of_constant (omega arith) (sym q)

      -- the cycle's measure is twice the reach, and one more at a term whose lambdas are not yet taken off
      pub fall_args : (t : ℕ) → 2 * reach 4096 F (suc r) ≡ t → 2 * reach 4096 F (size w.b) < t
      fall_args t z = let s = at_size h.on.at w e a b in omega arith

      pub to_args : ReadyList O m ws ss os F d w.b
      to_args =
          let s = at_size h.on.at w e a b in
          record { table = h.on.table; scope = h.on.scope; at = at_args h.on.at w e a b; on = on_part d (size w.b) os h.on.on refl (omega arith); full = h.on.full }

      module _ (v : ℕ) (os₁ : List ℕ) (used : ℕ) (x : Answer) (t : Headed (map_of false m) d w v) (p : ShowsList O m ws ss os used F d w.b os₁ x) where
        pub shows_stops : (f : Failure) (y : Answer) → x ≡ Err f → y ≡ Err f → ShowsTerm O m ws ss os used F d r os₁ y
        shows_stops f y q o = writes_stops (unrolls O ws) 4096 0 F (map_of false m) d r os ss used w e v os₁ ss x t (at_size h.on.at w e a b) p f y q o

        pub shows_rigid : (c : Written) (os₂ : List ℕ) (y : Answer) → x ≡ Ok c → Does 0 (push O w.tag v c.root) os₁ c.used os₂ y → ShowsTerm O m ws ss os used F d r os₂ y
        shows_rigid c os₂ y q g = writes_rigid (unrolls O ws) 4096 0 F (map_of false m) d r os ss used w e v os₁ ss x t (at_size h.on.at w e a b) p c os₂ y q g

    -- an occurrence
    module _ (k : w.tag ≡ HA) where
      nine : tag ws r ≡ HA
      nine = sym e.tag_is ∙ k

      pub to_names : Renamings ws m d w.b
      unfolding variables arguments
      to_names =
          let t = h.on.table in
          record {
            counts = counts_at t.R t.n t.home ws ss t.used F r t.fine h.on.at.is w e nine;
            looks = looks_on h.on.on;
            have = rw e.b_is (full_arguments h.on.full h.on.at.known nine);
          }

      own : F ≤ r
      own = let u = h.on.at.is.up in let o = (h.on.table.fine.good r h.on.at.is.below).own in omega arith

      pub fall_hole : (t : ℕ) → 2 * reach 4096 F (suc r) ≡ t → 2 * reach 4096 (r + 1) 4097 < t
      fall_hole t z = let l = at_low h.on.at in let o = own in omega arith

      -- below a solved hole of a solution the floor is past the occurrence
      risen : (get_or ss w.a NONE ≡ NONE → ⊥) → Sub ws h.on.table.home (r + 1) h.on.table.used (get_or ss w.a NONE)
      risen ne =
          let t = h.on.table in
          let fl = h.on.on.floor in
          let z : F ≡ 0 → ⊥ = omega arith in
          let ne₁ : get_or ss (field_a ws r) NONE ≡ NONE → ⊥ = rw (← e.a_is) ne in
          let ri : Rises t.R t.home (store ws ss t.used) F r (r + 1) (get_or ss (field_a ws r) NONE) = rw (← raised_on t.n F r z) (rises t.R t.n t.home (store ws ss t.used) F r t.fine h.on.at.is.below nine h.on.at.is.up ne₁) in
          rw e.a_is ri.sub

      pub to_hole : (next : Map) → Followed ws false m d w.b next → ReadyHole O next ws ss os (r + 1) w.a
      unfolding variables arguments
      to_hole next f =
          let t = h.on.table in
          let o = ((t.fine.good r h.on.at.is.below).occ nine).below in
          let q = e.a_is in
          let b₀ = h.on.at.is.below in
          let wi = t.fine.within in
          let he = t.fine.held in
          let fi = h.on.on.fits in
          let l = at_low h.on.at in
          let ow = own in
          record {
            table = t;
            held = omega arith;
            is = risen;
            on = record {
              room = h.on.on.room;
              top = h.on.on.top + d;
              low = rw f.run (followed (map_of false m) d h.on.on.top 0 (vars_of ws w.b) h.on.on.low).low;
              fits = omega arith;
              floor = omega arith;
            };
            known = rw (f.run, e.a_is, e.b_is) (full_hole h.on.full h.on.at.known nine);
          }

      pub shows-occurrence : (next : Map) (used : ℕ) (os₁ : List ℕ) (x : Answer) → Followed ws false m d w.b next → ShowsHole O next ws ss os used (r + 1) w.a os₁ x → ShowsTerm O m ws ss os used F d r os₁ x
      shows-occurrence next used os₁ x f p = show-occurrence O m ws ss os used F d r w e next (r + 1) os₁ x nine f (let l = at_low h.on.at in let o = own in omega arith) p

-- holes
module _ {O : ℕ} {m : Map} {ws ss os : List ℕ} {F h : ℕ} (g : ReadyHole O m ws ss os F h) where
  pub to_solution : h < length ss
  to_solution = g.held

  module _ (o : Option ℕ) (is : solution_in ss h ≡ o) (t : ℕ) (some : o ≡ Some t) where
    st : get_or ss h NONE ≡ t
    st = word_some (get_or ss h NONE) o is t some

    ne : t ≡ NONE → ⊥
    ne = word_real (get_or ss h NONE) o is t some

    at : Sub ws g.table.home F g.table.used t
    at = rw st at (g.is (λ q. ne (sym st ∙ q)))

    low : reach 4096 F (suc t) < reach 4096 F 4097
    low = let b = at.below in let f = g.table.fine in let w = f.within in let c = f.few in omega arith

    pub fall_solution : (k : ℕ) → 2 * reach 4096 F 4097 ≡ k → 2 * reach 4096 F (suc t) + 1 < k
    fall_solution k z = let l = low in omega arith

    pub to_term : ReadyTerm O m ws ss os F 0 t
    to_term = let l = low in record { table = g.table; scope = g.known.scope; at = record { fine = g.table.fine; is = at; known = g.known.solution t st ne }; on = on_part 0 (suc t) os g.on refl (omega arith); full = g.known.full }

    pub shows-solution : (used : ℕ) (os₁ : List ℕ) (x : Answer) → ShowsTerm O m ws ss os used F 0 t os₁ x → ShowsHole O m ws ss os used F h os₁ x
    shows-solution used os₁ x p = hole_expanded O m ws ss os used F h t st os₁ x ne low p
