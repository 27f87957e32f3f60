-- A copy of a solution, its context variables renamed to the arguments of the occurrence.
use Rattle.std.specs.Prelude.{None}
use Prim.Native.Nat.{ℕ, ◌+◌, ◌*◌, ◌<◌}
use mathlib.Core.Path.{◌≡◌, refl, sym}
use mathlib.Core.List.{List}
use mathlib.Core.Bool.{false}
use native.Mathlib.Omega.{arith}
use lib.ListN.{length, length-map}
use Rattle.store.specs.Said.{Answer}
use Rattle.places.specs.declared.Map.{Map}
use Rattle.table.specs.declared.Record.{Record}
use Rattle.table.specs.Reading.{IsRecord}
use Rattle.rules.specs.Words.{NONE, field_b, elements, arguments, variables}
use Rattle.rules.specs.Map.{to_variables}
use Rattle.invariants.specs.Floor.{All, limit}
use Rattle.trees.specs.Tree.{nth}
use Rattle.promise.specs.Maps.{place-variables}
use Rattle.promise.specs.CopyKnown.{Full}
use Rattle.places.specs.Maps.{map_of}
use Rattle.places.specs.Lists.{Counts, vars_of}
use Rattle.places.specs.Arguments.{Arguments}
use Rattle.places.specs.ArgumentsLaws.{arguments_inside}
use Rattle.rewrite.specs.PartsLaws.{term_read, counts_at, names_at}
use Rattle.walk.proofs.Walks.{copies}
use Rattle.walk.specs.Walks.{WalksTerm}
use Rattle.walk.specs.Ready.{copying, ReadyTerm}
use Rattle.walk.specs.Solution.{Copying, CopiesSolution}
use Rattle.walk.specs.SolutionLaws.{names_low, names_fit}

module _ {R n : ℕ} {ws ss : List ℕ} {used r t : ℕ} (h : Copying R n ws ss used r t) where
  pub copying_read : 4 * r + 3 < length ws
  copying_read = term_read R n h.home ws ss used 0 r h.fine h.at

  module _ (w : Record) (e : IsRecord ws r w) where
    pub copying_counts : Counts ws w.b
    copying_counts = counts_at R n h.home ws ss used 0 r h.fine h.at w e h.nine

    names : All (λ v. v < NONE) (vars_of ws w.b)
    names = names_at R n h.home ws ss used 0 r h.fine h.at w e h.nine

    module _ (m : Map) (p : Arguments ws w.b m) where
      named : map_of false m ≡ to_variables 0 (variables ws r)
      unfolding variables arguments
      named = rw (← e.b_is) (arguments_inside ws w.b m p names)

      as_many : length (variables ws r) ≡ m.len
      unfolding variables arguments
      as_many = let k : length (elements ws (field_b ws r)) ≡ m.len = rw (← e.b_is) (sym p.len) in simp length-map k

      -- every argument is a variable, so every position has a place
      full : Full (map_of false m) m.len
      full = rw (named, ← as_many) (record { place_at = λ j lt. (nth (variables ws r) j, place-variables (variables ws r) j lt) })

      pub copying_ready : ReadyTerm R n None m ws ss used 1 0 t
      copying_ready =
          record {
            home = h.home;
            scope = length (variables ws r);
            at = record { fine = h.fine; is = h.is; known = h.known };
            on = record { top = limit r; low = rw named (names_low h); led = copying refl (λ z. omega arith) full (names_fit h) };
            within = λ _. let k = as_many in omega arith;
          }

      pub solution_copied : (ws₁ ss₁ : List ℕ) (x : Answer) → WalksTerm R n None m ws ss used 1 0 t ws₁ ss₁ x → CopiesSolution R n ws ss used r t ws₁ ss₁ x
      solution_copied ws₁ ss₁ x c = record { run = λ f hf. rw (← named, ← copies R None f refl) (c.run f hf); grown = c.grown }
