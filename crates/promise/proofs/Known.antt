-- The waiting pairs are known where the machine starts, after an expansion and after a step, and equal heads have equally many arguments.
use Rattle.std.specs.Prelude.{ℕ, ◌≤◌, ◌≡◌, List, [], ◌∷◌}
use Rattle.std.proofs.Math.Path.{sym, ap}
use Rattle.std.proofs.Common.{◌∙◌, arith}
use Rattle.std.proofs.Math.Option.{Option}
use Rattle.std.proofs.Math.Decide.{ℕ_discrete}
use Rattle.std.proofs.Math.ListN.{length}
use Rattle.rules.specs.Words.{tag, field_a, field_b, CA, VA, HA, elements, arguments, variables}
use Rattle.rules.specs.Answers.{records}
use Rattle.rules.specs.Store.{Store, goes}
use Rattle.rules.specs.Rewrite.{expand}
use Rattle.rules.specs.Machine.{Pair, Next, step, upcoming, equations}
use Rattle.rules.specs.Solve.{start}
use Rattle.trees.specs.Tree.{Ty, Tree, Sig, Pairs}
use Rattle.trees.specs.Moves.{Solutions, Good, NoneFrozen, nothing, move_swap}
use Rattle.trees.proofs.Demand.{run-start}
use Rattle.promise.specs.Table.{constants, holes}
use Rattle.promise.specs.Reading.{one, Reads, reads_later, listed-elements}
use Rattle.promise.specs.Outcomes.{went}
use Rattle.promise.specs.State.{Holds, grew_later, holds_appends}
use Rattle.promise.specs.Waiting.{PairsRead, p_cons, pairs_later, equally_many, Stepped, move, run_good}
use Rattle.promise.proofs.Expanding.{Expanded, expand_ends}
use Rattle.promise.specs.Meeting.{con_args, var_args}
use Rattle.promise.proofs.Running.{step_ends}
use Rattle.promise.specs.Admitting.{Admitted}
use Rattle.promise.specs.Starting.{pairs-typed, start-holds, start-pairs}
use Rattle.promise.specs.Parts.{constant_arguments, variable_arguments}
use Rattle.promise.proofs.TermKnown.{known-arity}
use Rattle.promise.specs.SideKnown.{SideKnown}
use Rattle.promise.proofs.SideKnown.{side_walks}
use Rattle.promise.specs.Known.{Known}

-- the equations of an admitted table, where the machine starts
pub known_start : (ws ss : List ℕ) (n : ℕ) → Admitted ws ss n → Known (records ws) (start ws ss n) (equations (start ws ss n).words n)
known_start ws ss n a =
    let p = pairs-typed ws ss n a in
    record {
      constants = constants ws n;
      sig = holes ws n;
      sols = nothing;
      holds = start-holds ws ss n a;
      pairs = p.0;
      good = (run-start (constants ws n) NoneFrozen (holes ws n) p.0 p.2).good;
      reads = start-pairs ws ss n a p.0 p.1;
    }

-- the pair in hand, and those that wait
record Hand (R : ℕ) (s : Store) (l r : ℕ) (q : List Pair) : Type 0 where
  constants : ℕ → Option Ty
  sig : Sig
  sols : Solutions
  holds : Holds R s sig sols
  left : Tree
  right : Tree
  pairs : Pairs
  good : Good constants sig sols ((left, right) ∷ pairs)
  reads_left : Reads s.words s.used (one l) left
  reads_right : Reads s.words s.used (one r) right
  reads : PairsRead s.words s.used q pairs

in_hand : {R : ℕ} {s : Store} {l r : ℕ} {q : List Pair} → Known R s ((l, r) ∷ q) → Hand R s l r q
in_hand {R} {s} {l} {r} {q} k = go k.pairs k.good k.reads
  where
    go : (ps : Pairs) → Good k.constants k.sig k.sols ps → PairsRead s.words s.used ((l, r) ∷ q) ps → Hand R s l r q
    go (c ∷ ps) g (p_cons x y w) =
        record { constants = k.constants; sig = k.sig; sols = k.sols; holds = k.holds; left = c.0; right = c.1; pairs = ps; good = g; reads_left = x; reads_right = y; reads = w }
    go [] g x = elim x [ ]

module _ {R : ℕ} {s : Store} {l r : ℕ} {q : List Pair} (k : Known R s ((l, r) ∷ q)) where
  pub known-left : SideKnown R s l
  known-left =
      let h = in_hand k in
      record { constants = h.constants; sig = h.sig; sols = h.sols; holds = h.holds; solved = h.good.0; tree = h.left; reads = h.reads_left; context = h.good.1.0.0; kind = h.good.1.0.1; typed = h.good.1.0.2 }

  pub known_right : SideKnown R s r
  known_right =
      let h = in_hand k in
      record { constants = h.constants; sig = h.sig; sols = h.sols; holds = h.holds; solved = h.good.0; tree = h.right; reads = h.reads_right; context = h.good.1.0.0; kind = h.good.1.0.1; typed = h.good.1.0.3 }

  -- the right side as the left one
  pub known_swap : Known R s ((r, l) ∷ q)
  known_swap =
      let h = in_hand k in
      record {
        constants = h.constants;
        sig = h.sig;
        sols = h.sols;
        holds = h.holds;
        pairs = (h.right, h.left) ∷ h.pairs;
        good = run_good h.constants h.good (move h.constants (move_swap {a = h.left} {b = h.right} {ps = h.pairs}));
        reads = p_cons h.reads_right h.reads_left h.reads;
      }

  -- step 1 for the left side
  pub known-expanded : (f : ℕ) {s₁ : Store} {l₁ : ℕ} → expand f R l s ≡ goes s₁ l₁ → Known R s₁ ((l₁, r) ∷ q)
  known-expanded f {s₁} {l₁} e =
      let h = in_hand k in
      let w : Expanded h.constants R h.sig h.sols h.left h.right h.pairs s s₁ l₁ =
      went (rw e at (expand_ends h.constants R h.sig h.sols f h.left h.right h.pairs l s h.holds h.good h.reads_left)) in
      let g = grew_later w.appends.grew in
      record {
        constants = h.constants;
        sig = h.sig;
        sols = h.sols;
        holds = holds_appends h.holds w.appends;
        pairs = (w.tree, h.right) ∷ h.pairs;
        good = run_good h.constants h.good w.run;
        reads = p_cons w.reads (reads_later g.same g.grown h.reads_right) (pairs_later g h.reads);
      }

  -- a step
  pub known_step : (C : ℕ) {s₁ : Store} {next : Next} → step R C q l r s ≡ goes s₁ next → Known R s₁ (upcoming q next)
  known_step C {s₁} {next} e =
      let h = in_hand k in
      let w : Stepped h.constants R h.sig h.sols ((h.left, h.right) ∷ h.pairs) q s s₁ next =
      went (rw e at (step_ends h.constants R C h.sig h.sols h.left h.right h.pairs q l r s h.holds h.good h.reads_left h.reads_right h.reads)) in
      record {
        constants = h.constants;
        sig = w.sig;
        sols = w.sols;
        holds = w.holds;
        pairs = w.pairs;
        good = run_good h.constants h.good w.run;
        reads = w.reads;
      }

  -- equal heads: equally many arguments
  module _ (e : field_a s.words l ≡ field_a s.words r) where
    listed_many : {xs ys : List ℕ} → elements s.words (field_b s.words l) ≡ xs → elements s.words (field_b s.words r) ≡ ys → length xs ≡ length ys
        → length (arguments s.words l) ≡ length (arguments s.words r)
    unfolding arguments
    listed_many x y z = ap length x ∙ z ∙ sym (ap length y)

    same_constants : tag s.words l ≡ CA → tag s.words r ≡ CA → length (arguments s.words l) ≡ length (arguments s.words r)
    same_constants a b =
        let h = in_hand k in
        let x = constant_arguments a h.reads_left in
        let y = constant_arguments b h.reads_right in
        let d = con_args (rw x.1 at h.good.1.0.2) in
        let g = con_args (rw (y.1, ← e) at h.good.1.0.3) in
        let z : g.0 ≡ d.0 = cc in
        listed_many (listed-elements x.2.listed) (listed-elements y.2.listed) (equally_many d.3 (rw z at g.3) x.2.reads y.2.reads)

    same_variables : tag s.words l ≡ VA → tag s.words r ≡ VA → length (arguments s.words l) ≡ length (arguments s.words r)
    same_variables a b =
        let h = in_hand k in
        let x = variable_arguments a h.reads_left in
        let y = variable_arguments b h.reads_right in
        let d = var_args (rw x.1 at h.good.1.0.2) in
        let g = var_args (rw (y.1, ← e) at h.good.1.0.3) in
        let z : g.0 ≡ d.0 = cc in
        listed_many (listed-elements x.2.listed) (listed-elements y.2.listed) (equally_many d.3 (rw z at g.3) x.2.reads y.2.reads)

    pub same_arguments : 7 ≤ tag s.words l → tag s.words l ≤ 8 → tag s.words r ≡ tag s.words l → length (arguments s.words l) ≡ length (arguments s.words r)
    same_arguments lo hi z = go (ℕ_discrete (tag s.words l) CA)
      where
        go : Dec (tag s.words l ≡ CA) → length (arguments s.words l) ≡ length (arguments s.words r)
        go (yes a) = same_constants a (z ∙ a)
        go (no a) = let b : tag s.words l ≡ VA = omega arith in same_variables b (z ∙ b)

    pub same_holes : tag s.words l ≡ HA → tag s.words r ≡ HA → length (variables s.words l) ≡ length (variables s.words r)
    same_holes a b = known-arity (side_walks known-left) a ∙ ap (λ h. length (elements s.words (field_a s.words h))) e ∙ sym (known-arity (side_walks known_right) b)
