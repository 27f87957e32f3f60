-- The machine's end, by the functions of Table: from the sides of the equations a run of moves leads to the holes and solutions left behind.
use Rattle.std.specs.Prelude.{ℕ, ◌+◌, ◌<◌, ◌≡◌, Bool}
use Rattle.std.proofs.Math.Path.{refl, sym, subst, fun_ext}
use mathlib.Core.List.{List, []}
use Rattle.std.proofs.Math.Bool.{true, false}
use Rattle.std.proofs.Math.Option.{some}
use Rattle.std.proofs.Math.ListN.{length}
use Rattle.std.proofs.Math.Dec.{leb}
use Rattle.rules.specs.Answers.{records}
use Rattle.rules.specs.Store.{Store, fail, ◌>>=◌}
use Rattle.rules.specs.Machine.{Pair, join, steps, equations, machine}
use Rattle.rules.specs.Solve.{start}
use Rattle.trees.specs.Tree.{Tree, Holes, Pairs, PairsTyped}
use Rattle.trees.specs.Moves.{nothing, Good, Run, NoneFrozen}
use Rattle.trees.specs.Statements.{Expansion}
use Rattle.trees.specs.Filling.{Holes-map}
use Rattle.trees.specs.Typing.{typed-holes}
use Rattle.trees.proofs.Order.{stamped_ranked}
use Rattle.trees.proofs.Leads.{run-leads}
use Rattle.trees.proofs.Expand.{stamped_expands}
use Rattle.trees.proofs.Demand.{run-start}
use Rattle.promise.specs.Table.{constants, holes, sides, solution_of, filling}
use Rattle.promise.specs.Demand.{holes_in}
use Rattle.promise.specs.Outcomes.{Ends, failed, map_ends}
use Rattle.promise.specs.State.{Holds}
use Rattle.promise.specs.Waiting.{PairsRead, FailsBy, run_good}
use Rattle.promise.proofs.Running.{Solved, run_ends}
use Rattle.promise.specs.TableLaws.{holes_low, holds-holes, holds_solutions}
use Rattle.promise.specs.Admitting.{Admitted}
use Rattle.promise.specs.Starting.{pairs-typed, start-holds, start-pairs, sides-read}
use Rattle.promise.specs.Levels.{filling_is}
use Rattle.promise.specs.Ending.{Final}

module _ {ws : List ℕ} {n R : ℕ} {s : Store} (k : Final ws n R s) where
  pub final_good : Good (constants ws n) (holes_in s) (solution_of s) []
  final_good = (run-leads (constants ws n) NoneFrozen (run-start (constants ws n) NoneFrozen (holes ws n) (sides ws n) k.typed).good k.run).good

  -- the run's filling is the expansion
  pub final_expands : Expansion (holes_in s) (solution_of s) (filling s)
  final_expands =
      let r = stamped_ranked (solution_of s) final_good.2 in
      let F = stamped_expands (holes_in s) (solution_of s) final_good.2 in
      subst (Expansion (holes_in s) (solution_of s)) (sym (fun_ext (filling_is s r.0 r.1 low inside F.0 F.1))) F.1
    where
      low : (h : ℕ) (t : Tree) → solution_of s h ≡ some t → h < s.used
      low h t e = let x = final_good.0 h t e in holes_low s.words s.used h (x.0, x.1) x.2

      inside : (h : ℕ) (t : Tree) → solution_of s h ≡ some t → Holes (λ i _. i < s.used) t
      inside h t e = Holes-map (λ i _ d. holes_low s.words s.used i (d.0, d.1) d.2) t (typed-holes (constants ws n) (holes_in s) (final_good.0 h t e).3)

module _ (ws ss : List ℕ) (C n : ℕ) (a : Admitted ws ss n) where
  ps : Pairs
  ps = (pairs-typed ws ss n a).0

  sides_are : ps ≡ sides ws n
  unfolding ps
  sides_are = sym (sides-read ws ss n a (pairs-typed ws ss n a).0 (pairs-typed ws ss n a).1)

  pub sides-typed : PairsTyped (constants ws n) (holes ws n) (sides ws n)
  unfolding ps
  sides-typed = subst (PairsTyped (constants ws n) (holes ws n)) sides_are (pairs-typed ws ss n a).2

  begun : Good (constants ws n) (holes ws n) nothing (sides ws n)
  begun = (run-start (constants ws n) NoneFrozen (holes ws n) (sides ws n) sides-typed).good

  final : (s : Store) (q : List Pair) → Solved (constants ws n) (records ws) C (holes ws n) nothing (sides ws n) s q → Final ws n (records ws) s
  final s q k =
      let d : k.sig ≡ holes_in s = fun_ext (holds-holes k.holds) in
      let t : k.sols ≡ solution_of s = fun_ext (holds_solutions k.holds low) in
      record {
        typed = sides-typed;
        run =
            subst (λ x. Run (constants ws n) NoneFrozen (holes ws n) nothing (sides ws n) (holes_in s) x []) t
            (subst (λ x. Run (constants ws n) NoneFrozen (holes ws n) nothing (sides ws n) x k.sols []) d k.run);
        holds = subst (Holds (records ws) s (holes_in s)) t (subst (λ x. Holds (records ws) s x k.sols) d k.holds);
      }
    where
      low : (h : ℕ) (t : Tree) → k.sols h ≡ some t → h < s.used
      low h t e = let x = (run_good (constants ws n) begun k.run).0 h t e in (k.holds.declared h x.0 x.1 x.2).low

  pub machine_ends : Ends (λ s (q : List Pair). Final ws n (records ws) s) (FailsBy (constants ws n) (holes ws n) nothing (sides ws n)) (machine (records ws) C n (start ws ss n))
  unfolding machine join ◌>>=◌ fail
  machine_ends = go (leb (length {A = Pair} [] + length (equations (start ws ss n).words n)) C) refl
    where
      go : (b : Bool) → leb (length {A = Pair} [] + length (equations (start ws ss n).words n)) C ≡ b
          → Ends (λ s (q : List Pair). Final ws n (records ws) s) (FailsBy (constants ws n) (holes ws n) nothing (sides ws n)) (machine (records ws) C n (start ws ss n))
      go true e =
          rw (e, join)
          (map_ends (λ _ x. x) final
          (run_ends (constants ws n) (records ws) C (steps (records ws) C) (holes ws n) nothing (sides ws n) (equations (start ws ss n).words n) (start ws ss n)
          (start-holds ws ss n a) begun (start-pairs ws ss n a (sides ws n) (subst (PairsRead ws n (equations ws n)) sides_are (unfold ps in (pairs-typed ws ss n a).1)))))
      go false e = rw (e, join) (failed tt)
