-- The statements, each with its proof.
use Rattle.std.proofs.Common.{sym, ◌∙◌, ap}
use Rattle.std.proofs.Math.Option.{Option}
use Rattle.std.specs.Prelude.{ℕ, length}
use Rattle.trees.specs.Tree.{Ty, inst, Sig, Pairs, Both, PairsTyped}
use Rattle.trees.specs.Moves.{Solutions, nothing, Leads, Run}
use Rattle.trees.specs.Statements.{SolvedIsMostGeneral, LeftIsUnsolved, SolvedLeavesFrozen, FailedHasNoFilling, OrderIsFree, RunsKeepUnifiers, FailedIsStuck, OrderedHasOneAnswer}
use Rattle.trees.specs.Filling.{inst-itself}
use Rattle.trees.specs.Typing.{typed_scoped}
use Rattle.trees.specs.Pairs.{each_perm}
use Rattle.trees.proofs.Leads.{fills_less, run-leads}
use Rattle.trees.proofs.Walk.{fails_stuck}
use Rattle.trees.proofs.Expand.{stamped_expands, stamped_expands_once}
use Rattle.trees.proofs.Demand.{run-start, run-solved, run-left, run-leaves, run_stuck, general_perm}
pub use Rattle.trees.proofs.Walk.{walk_solves}

module _ (S : ℕ → Option Ty) (Frozen : ℕ → Type 0) where
  -- a run from equations with nothing solved
  run-from : (D : Sig) (ps : Pairs) {E : Sig} {τ : Solutions} {qs : Pairs} → PairsTyped S D ps → Run S Frozen D nothing ps E τ qs
      → Leads S Frozen D nothing ps E τ qs
  run-from D ps w r = run-leads S Frozen (run-start S Frozen D ps w).good r

  pub runs_keep_unifiers : RunsKeepUnifiers S Frozen
  runs_keep_unifiers D σ ps E τ qs g r = run-leads S Frozen g r

  pub failed_is_stuck : FailedIsStuck S Frozen
  failed_is_stuck D σ ps z g k = fails_stuck S Frozen z g k

  pub solved_is_most_general : SolvedIsMostGeneral S Frozen
  solved_is_most_general D ps E τ w r =
      let l = run-from D ps w r in (stamped_expands E τ l.good.2, λ F x. run-solved S Frozen D ps E τ F l x)

  pub left_is_unsolved : LeftIsUnsolved S Frozen
  left_is_unsolved D ps E τ F w r x = run-left S Frozen D ps E τ F (run-from D ps w r) x

  pub solved-leaves_frozen : SolvedLeavesFrozen S Frozen
  solved-leaves_frozen D ps E τ F w r x =
      let l = run-from D ps w r in
      let v = run-leaves S Frozen D ps E τ F l x in (
        v,
        λ θ ρ X f y n h C b z q.
            sym (inst-itself ρ (length C) h (typed_scoped S X (f h C b (l.declares h (C, b) q)))) ∙ ap (inst ρ) (sym (v h C b z q)) ∙ sym (y h (C, b) q)
            ∙ n h C b z q,
      )

  pub failed_has_no_filling : FailedHasNoFilling S Frozen
  failed_has_no_filling D ps E τ qs z w r k =
      let l = run-from D ps w r in
      run_stuck S Frozen D ps E τ qs z l (fails_stuck S Frozen (λ h f. let c = z h f in (c.0, l.declares h c.0 c.1)) l.good k)

  pub order_is_free : OrderIsFree S Frozen
  order_is_free D ps qs E τ F z w d r x =
      let l = run-from D ps w r in
      let m = general_perm S D ps qs E F d (run-solved S Frozen D ps E τ F l x) in (
        m,
        λ H υ rs other k.
            failed_has_no_filling D qs H υ rs z (each_perm (Both S D) d w) other k E F (fills_less S D E E F l.declares m.typed)
            (run-leaves S Frozen D ps E τ F l x) m.unifies,
      )

pub ordered-has-one-answer : OrderedHasOneAnswer
ordered-has-one-answer D σ st = (stamped_expands D σ st, stamped_expands_once D σ st)
