-- What is known of a side of a pair: it can be walked, and the solution of a hole at its head can be copied.
use Rattle.std.specs.Prelude.{ℕ, ◌≡◌, refl, List, length, get_or}
use Rattle.std.proofs.Common.{sym, ◌∙◌, arith}
use Rattle.std.proofs.Math.Option.{Option, none, some}
use Rattle.rules.specs.Words.{tag, field_a, NONE, HA, variables}
use Rattle.rules.specs.Store.{Store, goes}
use Rattle.rules.specs.Map.{to_variables}
use Rattle.rules.specs.Rewrite.{copy}
use Rattle.trees.specs.Tree.{Ty, base, Tree, hol, ren, nth, Kind, at, HasTy, t_hol}
use Rattle.trees.specs.Free.{All-map}
use Rattle.trees.specs.Typing.{vars_embed, ren-typed, typed_scoped, typed-holes}
use Rattle.trees.proofs.Leads.{declared_once}
use Rattle.trees.specs.Scopes.{sol_scoped}
use Rattle.promise.specs.Reading.{one, Reads}
use Rattle.promise.specs.Outcomes.{went}
use Rattle.promise.specs.Writing.{Wrote}
use Rattle.promise.specs.Maps.{place-variables}
use Rattle.promise.proofs.Copying.{copy_ends}
use Rattle.promise.specs.State.{declared_low, holds_appends}
use Rattle.promise.proofs.Expanding.{in_scope}
use Rattle.promise.specs.Parts.{hole_occurrence}
use Rattle.promise.specs.TermKnown.{TermKnown}
use Rattle.promise.proofs.TermKnown.{known-solution}
use Rattle.promise.specs.SideKnown.{SideKnown}

module _ {R : ℕ} {s : Store} {r : ℕ} (k : SideKnown R s r) where
  pub side_walks : TermKnown R s (length k.context) 0 r
  side_walks =
      record {
        sig = k.sig;
        sols = k.sols;
        holds = k.holds;
        solved = sol_scoped k.constants k.sig k.sols k.solved;
        tree = k.tree;
        reads = k.reads;
        inside = typed-holes k.constants k.sig k.typed;
        scoped = All-map (λ j h. omega arith) k.tree (typed_scoped k.constants k.sig k.typed);
      }

  -- an occurrence of a hole whose solution is record t
  module _ (e : tag s.words r ≡ HA) (t : ℕ) (q : get_or s.solutions (field_a s.words r) NONE ≡ t) (n : t ≡ NONE → ⊥) where
    abbrev vs : List ℕ
    vs = variables s.words r

    occurs : HasTy k.constants k.sig k.context (hol (field_a s.words r) vs) k.kind
    occurs = rw (hole_occurrence e k.reads) at k.typed

    -- its tree, typed in the scope of the arguments
    solution : (u : Tree) × (k.sols (field_a s.words r) ≡ some u) × Reads s.words s.used (one t) u
    solution = go (k.sols (field_a s.words r)) refl
      where
        go : (o : Option Tree) → k.sols (field_a s.words r) ≡ o → (u : Tree) × (k.sols (field_a s.words r) ≡ some u) × Reads s.words s.used (one t) u
        go none z =
            let d = typed-holes k.constants k.sig occurs in
            absurd (n (sym q ∙ k.holds.leaves (field_a s.words r) (declared_low k.holds (field_a s.words r) (d.0, d.1) d.2) z))
        go (some u) z = (u, z, rw q at (k.holds.solves (field_a s.words r) u z))

    -- what is known of it
    pub side-solution : TermKnown R s (length vs) 0 t
    side-solution = known-solution side_walks e t q n

    -- the copy is typed as the occurrence is
    renamed : {h : ℕ} {xs : List ℕ} {c : Kind} {C : List Ty} {b : ℕ} {u : Tree} → HasTy k.constants k.sig k.context (hol h xs) c → k.sig h ≡ some (C, b)
        → HasTy k.constants k.sig C u (at (base b)) → HasTy k.constants k.sig k.context (ren (nth xs) u) c
    renamed (t_hol z v d) f w =
        let o = declared_once (sym f ∙ z) in
        ren-typed k.constants k.sig _ (vars_embed v d) (rw (o.0, o.1) at w)

    pub side_copied : (f : ℕ) {s₁ : Store} {y : ℕ} → copy f R (to_variables 0 vs) 0 t s ≡ goes s₁ y → SideKnown R s₁ y
    side_copied f {s₁} {y} g =
        let u = solution in
        let w = k.solved (field_a s.words r) u.0 u.1 in
        let p = All-map (place-variables vs) u.0 (in_scope k.constants R k.sig k.sols occurs w.2 w.3) in
        let v : Wrote R (ren (nth vs) u.0) s s₁ y = went (rw g at (copy_ends R f (to_variables 0 vs) 0 t s (nth vs) u.0 k.holds.fits u.2 p)) in
        record {
          constants = k.constants;
          sig = k.sig;
          sols = k.sols;
          holds = holds_appends k.holds v.appends;
          solved = k.solved;
          tree = ren (nth vs) u.0;
          reads = v.reads;
          context = k.context;
          kind = k.kind;
          typed = renamed occurs w.2 w.3;
        }
