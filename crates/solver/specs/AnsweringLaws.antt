-- Where solving answers 0, a hole's answer can be written.
use Rattle.std.specs.Prelude.{ℕ, ◌+◌, ◌-◌, ◌*◌, ◌<◌, ◌≤◌, ◌≡◌, Bool, length, Option, Some}
use Rattle.std.proofs.Math.Path.{refl, ap}
use Rattle.std.proofs.Common.{sym, ◌∙◌, inl, inr}
use mathlib.Core.List.{List}
use Rattle.std.proofs.Math.Bool.{true}
use native.Mathlib.Omega.{arith}
use Rattle.std.proofs.Math.Decide.{ℕ_discrete}
use Rattle.std.proofs.Math.ListN.{get_or}
use borrow.Author.Tests.{ltb-true, eqb-true}
use Rattle.rules.specs.declared.Failure.{Failure}
use Rattle.rules.specs.declared.Failure.TheVariants.{Clash, Escape, Occurs, QueueFull, TableFull}
use Rattle.rules.specs.declared.Reply.{Reply}
use Rattle.rules.specs.Words.{NONE, HO, CE, tag, field_a, has, elements}
use Rattle.rules.specs.Answers.{number, refusing, records, pairs}
use Rattle.rules.specs.Store.{Store, Out, goes, fails, spent}
use Rattle.rules.specs.Machine.{Pair, machine}
use Rattle.rules.specs.Solve.{Refusal as Refuses, admitted, refused, refusal, start, Behind, leaves}
use Rattle.laws.specs.Tests.{both_true}
use Rattle.laws.specs.Sound.{hole_context}
use Rattle.laws.specs.Lists.{elements_none, elements-kept}
use Rattle.laws.specs.Members.{cell}
use Rattle.invariants.specs.Floor.{Grows, Grown}
use Rattle.invariants.specs.Grow.{listed_of}
use Rattle.invariants.specs.Input.{few_cells}
use Rattle.invariants.specs.Start.{records_few, records_room, filled-below}
use Rattle.invariants.specs.Admit.{Admitted, Says, refusal_says}
use Rattle.invariants.proofs.Machine.{machine_grows}
use Rattle.invariants.specs.Run.{Any}
use Rattle.invariants.specs.Copy.{Nobody}
use Rattle.promise.specs.Table.{constants, solution_of}
use Rattle.promise.specs.Demand.{holes_in}
use Rattle.promise.specs.Outcomes.{went}
use Rattle.promise.specs.Admitting.{admitted_is}
use Rattle.promise.specs.Ending.{Final as Ran}
use Rattle.promise.proofs.Ending.{final_good, machine_ends}
use Rattle.promise.proofs.ShowKnown.{hole_in_order}
use Rattle.checks.specs.Refusing.{asks, is_hole}
use Rattle.solving.specs.Checking.{AskedLeaves}
use Rattle.solver.specs.Answering.{Answerable}

-- the machine's end on an input hole
module _ (ws ss : List ℕ) (n h : ℕ) (a : Admitted (is_hole ws n h) ws ss n) where
  input_hole : (h < n) × (tag ws h ≡ HO)
  unfolding is_hole has
  input_hole = let p = both_true _ _ a.is in (ltb-true _ _ p.0, eqb-true _ _ p.1)

  listed : (field_a ws h ≡ NONE → ⊥) → (field_a ws h < n) × (tag ws (field_a ws h) ≡ CE)
  listed ne = elim (hole_context ws n a.sound h input_hole.0 input_hole.1) [ inl z ↦ absurd (ne z) | inr z ↦ (let b = z.0 in let c = input_hole.0 in omega arith, z.1) ]

  few_given : length (elements ws (field_a ws h)) ≤ 16
  few_given = go (ℕ_discrete (field_a ws h) NONE)
    where
      go : Dec (field_a ws h ≡ NONE) → length (elements ws (field_a ws h)) ≤ 16
      go (yes e) = rw (elements_none ws (field_a ws h) e) (omega arith)
      go (no e) =
          let f = records_few ws in
          let r = records_room ws in
          let i = a.in_table in
          few_cells ws n a.sound (omega arith) (omega arith) (field_a ws h) (listed e).0 (listed e).1

  pub goes_answerable : (s : Store) (q : List Pair) → Grown Nobody (Any {A = List Pair}) (records ws) n (λ i. 0) (start ws ss n) s q → Ran ws n (records ws) s
      → Answerable s.words s.solutions h
  unfolding start
  goes_answerable s q g k =
      let lt = input_hole.0 in
      let si = g.fine.since in
      let l = field_a ws h in
      let fa : field_a s.words h ≡ field_a ws h = same (4 * h + 1) (omega arith) in
      let el = elements-kept ws s.words n l same (λ c k five. cell ws n a.sound c k five) listed in
      record {
        table = record { R = records ws; n = n; used = s.used; home = g.home₁; fine = g.fine };
        hole = omega arith;
        context = rw fa (record {
          list = listed_of (records ws) n g.home₁ s l g.fine (λ ne. let b = listed ne in let b₀ = b.0 in (omega arith, same (4 * l) (omega arith) ∙ b.1));
          few = rw el few_given;
        });
        known = hole_in_order (constants ws n) (holes_in s) (solution_of s) k.holds (final_good k).0 h (omega arith) (same (4 * h) (omega arith) ∙ input_hole.1);
      }
    where
      same : (i : ℕ) → i < 4 * n → get_or s.words i 0 ≡ get_or ws i 0
      same i k = let r = records_room ws in let b = a.in_table in g.ext.kept i k ∙ filled-below (4 * n) (4 * (records ws - n)) 0 i ws (omega arith) k

number_some : (e : Failure) → 1 ≤ number e
unfolding number
number_some Clash = omega arith
number_some Escape = omega arith
number_some Occurs = omega arith
number_some QueueFull = omega arith
number_some TableFull = omega arith

module _ (asked : Option ℕ) (ws ss qs : List ℕ) (n h : ℕ) (ws₁ ss₁ qs₁ : List ℕ) (r : Reply)
    (e : AskedLeaves asked ws ss qs n ws₁ ss₁ qs₁ r) (is : asked ≡ Some h) where
  abbrev behind : Behind
  behind = record { table = ws₁; solutions = ss₁; queue = qs₁; said = r }

  left : leaves (refusal (is_hole ws n h) ws ss n) ws ss qs n ≡ behind
  unfolding asks
  left = rw is at e

  -- where solving answers 0, an answer can be written
  pub answerable : r.answer ≡ 0 → Answerable ws₁ ss₁ h
  unfolding leaves
  answerable z = go (refusal (is_hole ws n h) ws ss n) refl (refusal_says (is_hole ws n h) ws ss n)
    where
      ends : Admitted (is_hole ws n h) ws ss n → refusal (is_hole ws n h) ws ss n ≡ admitted → (s : Store) (q : List Pair) → machine (records ws) (pairs qs) n (start ws ss n) ≡ goes s q
          → Ran ws n (records ws) s
      ends a f s q m =
          let t : refusal true ws ss n ≡ admitted = ap (λ (b : Bool). refusal b ws ss n) (sym a.is) ∙ f in
          went (rw m at (machine_ends ws ss (pairs qs) n (admitted_is ws ss n t)))

      ran : Admitted (is_hole ws n h) ws ss n → refusal (is_hole ws n h) ws ss n ≡ admitted → (o : Out (List Pair)) → machine (records ws) (pairs qs) n (start ws ss n) ≡ o
          → Grows Nobody Any (records ws) n (λ i. 0) (start ws ss n) o → Answerable ws₁ ss₁ h
      ran a f (goes s q) m g =
          let b = rw (f, leaves, m) at left in
          rw (← ap (λ (l : Behind). l.table) b, ← ap (λ (l : Behind). l.solutions) b) (goes_answerable ws ss n h a s q g (ends a f s q m))
      ran a f (fails ws₂ ss₂ x) m g =
          let b = rw (f, leaves, m) at left in
          let c : number x ≡ r.answer = ap (λ (l : Behind). l.said.answer) b in
          let k = number_some x in
          absurd (omega arith)
      ran a f spent m g = absurd g

      go : (f : Refuses) → refusal (is_hole ws n h) ws ss n ≡ f → Says (is_hole ws n h) ws ss n f → Answerable ws₁ ss₁ h
      go (refused x) f s =
          let b = rw f at left in
          let c : (refusing x).answer ≡ r.answer = ap (λ (l : Behind). l.said.answer) b in
          let d = s.0 in
          absurd (omega arith)
      go admitted f a =
          let lt = (input_hole ws ss n h a).0 in
          ran a f (machine (records ws) (pairs qs) n (start ws ss n)) refl (machine_grows (is_hole ws n h) ws ss n (pairs qs) a (omega arith))
