-- After an argument was walked: the rest of the list is as ready as it was.
use Rattle.std.specs.Prelude.{Option}
use Prim.Native.Nat.{ℕ, suc, ◌+◌}
use mathlib.Core.Path.{◌≡◌}
use mathlib.Core.List.{List}
use native.Mathlib.Omega.{arith}
use native.Mathlib.Nat.{le_refl}
use borrow.Author.Tests.{ne_eqb}
use Rattle.table.specs.declared.Record.{Record}
use Rattle.table.specs.Reading.{IsRecord}
use Rattle.table.specs.declared.Hole.{Hole}
use Rattle.places.specs.declared.Map.{Map}
use Rattle.rules.specs.Words.{NONE, elements}
use Rattle.rules.specs.Store.{Store, goes}
use Rattle.laws.specs.Lists.{size, elements-kept}
use Rattle.invariants.specs.Floor.{Fine, Ext, Grown}
use Rattle.invariants.specs.Grow.{args_kept}
use Rattle.invariants.specs.Rise.{reach}
use Rattle.invariants.proofs.Keep.{kept}
use Rattle.invariants.specs.Copy.{Nobody}
use Rattle.invariants.proofs.Copy.{copy_grows}
use Rattle.promise.specs.TermKnown.{ListKnown}
use Rattle.promise.proofs.TermKnown.{walked_rest}
use Rattle.promise.proofs.CopyKnown.{full_less, copied_rest}
use Rattle.store.specs.Said.{store}
use Rattle.rewrite.specs.TermsLaws.{list_cell, list_rest, list_first, list_second}
use Rattle.walk.specs.Walks.{map_at, writer}
use Rattle.walk.proofs.Walks.{copies, walks}
use Rattle.walk.specs.Ready.{Led, copying, solving, ReadyList}
use Rattle.walk.proofs.Ready.{on_part}

-- the store is fine again, and what was written stays
record Later (R n : ℕ) (home : ℕ → ℕ) (s s₁ : Store) : Type 0 where
  pub home₁ : ℕ → ℕ
  pub ext : Ext Nobody home s home₁ s₁
  pub fine : Fine R n home₁ s₁

later : {barred : ℕ → Type 0} {Q : (ℕ → ℕ) → Store → ℕ → Type 0} {R n : ℕ} {home : ℕ → ℕ} {s s₁ : Store} {y : ℕ} → Grown barred Q R n home s s₁ y → Later R n home s s₁
later g = record { home₁ = g.home₁; ext = record { grown = g.ext.grown; kept = g.ext.kept; labels = g.ext.labels; none = λ q a b t z. z }; fine = g.fine }

module _ {R n : ℕ} {u : Option Hole} {m : Map} {ws ss : List ℕ} {used F d l : ℕ} (h : ReadyList R n u m ws ss used F d l) (ne : l ≡ NONE → ⊥) (w : Record) (e : IsRecord ws l w) (ws₁ ss₁ : List ℕ) (u₁ y : ℕ)
    (g : writer R u (suc (reach R F (suc w.a))) (map_at F m) d w.a (store ws ss used) ≡ goes (store ws₁ ss₁ u₁) y) where
  abbrev fuel : ℕ
  fuel = suc (reach R F (suc w.a))

  -- by what is done: a copy, or the walk for hole u
  went : Later R n h.home (store ws ss used) (store ws₁ ss₁ u₁) × ListKnown R (store ws₁ ss₁ u₁) h.scope d w.b
  went = go h.on.led
    where
      go : Led R u m used F (h.on.top + d) (size l) → Later R n h.home (store ws ss used) (store ws₁ ss₁ u₁) × ListKnown R (store ws₁ ss₁ u₁) h.scope d w.b
      go (copying z a full fi) =
          let lo = (list_cell h.at ne w e).lower.0 in
          let p = (list_first h.at ne w e).is in
          let i = h.within a in
          let c = rw (copies R u fuel z) at g in (
            later (rw c at (copy_grows R n h.on.top fuel (map_at F m) d w.a (store ws ss used) h.home h.at.fine (record { below = p.below; term = p.term; up = omega arith }) h.on.low (omega arith) (omega arith))),
            rw e.b_is (copied_rest ne h.at.known (map_at F m) (rw (ne_eqb F 0 a) (full_less full i)) _ (rw e.a_is at c)),
          )
      go (solving u z lt fi) =
          let lo = (list_cell h.at ne w e).lower.0 in
          let c = rw (walks R _ fuel u z) at g in (
            later (rw c at (kept R n u.0 used F h.on.top fuel (map_at F m) d w.a (store ws ss used) h.home h.at.fine (le_refl _) lt (list_first h.at ne w e).is h.on.low (omega arith) (omega arith))),
            rw e.b_is (walked_rest ne h.at.known _ u.0 (map_at F m) (rw e.a_is at c)),
          )

  pub after_same : elements ws₁ w.b ≡ elements ws w.b
  after_same = elements-kept ws ws₁ used w.b went.0.ext.kept (λ c lt five. (h.at.fine.good c lt).cell five) (list_rest h.at ne w e).here

  pub after_ready : ReadyList R n u m ws₁ ss₁ u₁ F d w.b
  after_ready =
      let t = went in
      let a = (list_cell h.at ne w e).lower.1 in
      record {
        home = t.0.home₁;
        scope = h.scope;
        at = record { fine = t.0.fine; is = args_kept _ _ _ _ _ _ _ _ _ h.at.fine t.0.ext (list_rest h.at ne w e); few = rw after_same (list_second h.at ne w e).few; known = t.1 };
        on = on_part u₁ d (size w.b) h.on t.0.ext.grown (omega arith);
        within = h.within;
      }
