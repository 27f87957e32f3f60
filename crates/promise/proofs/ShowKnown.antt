-- What is known of a hole that is shown, at an occurrence or by itself: its solution, in a context whose every position has a place.
use Rattle.std.specs.Prelude.{ℕ, ◌+◌, ◌<◌, ◌≡◌, refl, List, length}
use Rattle.std.proofs.Common.{ap, ◌∙◌, arith}
use Rattle.std.proofs.Math.Option.{Option, none, some}
use Rattle.rules.specs.Lists.{from, below}
use Rattle.rules.specs.Words.{tag, field_a, HO, HA, elements, variables}
use Rattle.rules.specs.Store.{Store}
use Rattle.rules.specs.Map.{Map, to_variables, follow}
use Rattle.trees.specs.Tree.{Ty, Sig, nth}
use Rattle.trees.specs.Moves.{Solutions, SolTyped}
use Rattle.trees.specs.Filling.{nth-All}
use Rattle.trees.specs.Scopes.{sol_scoped}
use Rattle.promise.specs.Maps.{option, place-variables}
use Rattle.promise.specs.Following.{follow_after}
use Rattle.promise.specs.State.{Holds}
use Rattle.promise.specs.Showing.{length_from, nth-from}
use Rattle.promise.specs.Parts.{hole_occurrence, context-length}
use Rattle.promise.specs.TermKnown.{TermKnown}
use Rattle.promise.proofs.TermKnown.{known-solution, solution-known}
use Rattle.promise.specs.CopyKnown.{Full}
use Rattle.promise.proofs.CopyKnown.{full_place}
use Rattle.promise.specs.ShowKnown.{HoleKnown}

-- the hole of an occurrence, under the map that follows the arguments
module _ {R : ℕ} {s : Store} {m : Map} {c d r : ℕ} (f : Full m c) (k : TermKnown R s c d r) (e : tag s.words r ≡ HA) where
  pub full_hole : HoleKnown R s (follow m d 0 (variables s.words r)) (field_a s.words r)
  full_hole =
      let vs = variables s.words r in
      record {
        scope = length vs;
        full = record {
          place_at = λ j h.
              let p = full_place f d (nth vs j) (nth-All (λ v. v < d + c) vs (rw (hole_occurrence e k.reads) at k.scoped) j h) in
              (p.0, follow_after m d vs j h ∙ ap option p.1);
        };
        solution = known-solution k e;
      }

-- a hole of the table, over its context variables in order
pub hole_in_order : {R : ℕ} {s : Store} (S : ℕ → Option Ty) (D : Sig) (σ : Solutions) → Holds R s D σ → SolTyped S D σ → (h : ℕ) → h < s.used → tag s.words h ≡ HO
    → HoleKnown R s (to_variables 0 (below (length (elements s.words (field_a s.words h))))) h
unfolding below
hole_in_order {R} {s} S D σ i g h l t = go (D h) refl
  where
    go : (o : Option (List Ty × ℕ)) → D h ≡ o → HoleKnown R s (to_variables 0 (from 0 (length (elements s.words (field_a s.words h))))) h
    go none q = absurd (i.all h l t q)
    go (some (C, b)) q =
        let c : length (elements s.words (field_a s.words h)) ≡ length C = context-length (i.declared h C b q) in
        rw c
        (record {
          scope = length C;
          full = record {
            place_at = λ j k.
                let n : j < length (from 0 (length C)) = omega (arith, length_from 0 (length C)) in
                (j, place-variables (from 0 (length C)) j n ∙ ap some (omega (arith, nth-from 0 (length C) j k)));
          };
          solution = solution-known i (sol_scoped S D σ g) h C b q;
        })
