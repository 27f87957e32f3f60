-- What the answers of solving mean.
use Rattle.std.specs.Prelude.{ℕ, ◌≤◌, ◌≡◌, refl, List, true, Some, None}
use Rattle.std.proofs.Common.{sym, ◌∙◌, inl, inr, arith}
use Rattle.rules.specs.declared.Failure.{Failure}
use Rattle.rules.specs.declared.Failure.TheVariants.{Clash, Escape, Occurs, QueueFull, TableFull}
use Rattle.rules.specs.declared.Refused.{Refused}
use Rattle.rules.specs.declared.Refused.TheVariants.{NoRoom, Broken, IllTyped, NoPattern}
use Rattle.rules.specs.Answers.{number, reply, refusing, records, pairs}
use Rattle.rules.specs.Store.{Store, Out, goes, fails, spent}
use Rattle.rules.specs.Machine.{Pair, machine}
use Rattle.rules.specs.Solve.{Refusal, admitted, refused, refusal, start, emptied, Behind, leaves, solve}
use Rattle.trees.specs.Tree.{Tree, Sig, PairsTyped}
use Rattle.trees.specs.Moves.{nothing, NoneFrozen}
use Rattle.trees.proofs.Leads.{run-leads}
use Rattle.trees.proofs.Expand.{stamped_expands_once}
use Rattle.trees.proofs.Demand.{run-start}
use Rattle.trees.proofs.Theorems.{solved_is_most_general, left_is_unsolved, failed_has_no_filling}
use Rattle.promise.specs.Table.{constants, holes, sides, solution_of, filling}
use Rattle.promise.specs.Demand.{TypedPatterns, Unifies, MostGeneral, Means, holes_in}
use Rattle.promise.specs.Outcomes.{Ends, ended, failed, unsaid}
use Rattle.promise.specs.Waiting.{RunFails, FailsBy}
use Rattle.promise.specs.Admitting.{Admitted, Refuses, admits, short, breaks, ill, offends, refusal_is, admitted_typed}
use Rattle.promise.proofs.Admitting.{typed_nowhere, typed_clean}
use Rattle.promise.specs.Ending.{Final}
use Rattle.promise.proofs.Ending.{final_expands, machine_ends, sides-typed}

found_not : (r : ℕ) → Some r ≡ None → ⊥
found_not r e = let z : ◌≡◌ {A = ℕ} 0 1 = cc in omega arith

-- points 1 and 2
final_general : {ws : List ℕ} {n R : ℕ} {s : Store} → Final ws n R s → MostGeneral ws n s
final_general {ws} {n} {R} {s} k =
    let S = constants ws n in
    let D = holes ws n in
    let E = holes_in s in
    let l = run-leads S NoneFrozen (run-start S NoneFrozen D (sides ws n) k.typed).good k.run in
    let x = final_expands k in
    let b = (solved_is_most_general S NoneFrozen D (sides ws n) E (solution_of s) k.typed k.run).1 (filling s) x in
    record {
      input = l.declares;
      expands = x;
      only = λ F y. stamped_expands_once E (solution_of s) l.good.2 (filling s) F x y;
      unsolved = λ g o. left_is_unsolved S NoneFrozen D (sides ws n) E (solution_of s) (filling s) k.typed k.run x g (o.0, o.1.0, o.1.1, o.2);
      typed = b.typed;
      equal = b.unifies;
      idempotent = b.stable;
      follows = λ X θ u. let f = b.factors X θ u.typed u.equal in (f.0, λ g _. f.1 g, λ h i. f.2 h i.0 i.1);
      one = λ X θ ρ π c y d z g o.
          b.unique X θ ρ π (λ i v. c i (v.0, (v.1, v.2), v.3)) (λ i v. d i (v.0, (v.1, v.2), v.3)) (λ h e v. y h (e, v)) (λ h e v. z h (e, v)) g
          (o.0, o.1.0, o.1.1, o.2);
    }

-- point 3
no_filling : (ws : List ℕ) (n : ℕ) → PairsTyped (constants ws n) (holes ws n) (sides ws n) → RunFails (constants ws n) (holes ws n) nothing (sides ws n) → (X : Sig) (θ : ℕ → Tree)
    → ¬ (Unifies ws n X θ)
no_filling ws n w k X θ u =
    failed_has_no_filling (constants ws n) NoneFrozen (holes ws n) (sides ws n) k.sig k.sols k.pairs (λ h z. absurd z) w k.run k.fails X θ u.typed
    (λ h C b z _. absurd z) u.equal

refuted_by : (ws : List ℕ) (n : ℕ) → PairsTyped (constants ws n) (holes ws n) (sides ws n) → (e : Failure) → FailsBy (constants ws n) (holes ws n) nothing (sides ws n) e
    → number e ≤ 3 → (X : Sig) (θ : ℕ → Tree) → ¬ (Unifies ws n X θ)
unfolding number
refuted_by ws n w Clash k h = no_filling ws n w k
refuted_by ws n w Escape k h = no_filling ws n w k
refuted_by ws n w Occurs k h = no_filling ws n w k
refuted_by ws n w QueueFull k h = absurd (omega arith)
refuted_by ws n w TableFull k h = absurd (omega arith)

-- no failure is answered 0, 6 or 7
number_other : (e : Failure) → (1 ≤ number e) × (6 ≤ number e → number e ≤ 7 → ⊥)
unfolding number
number_other Clash = (omega arith, λ x y. omega arith)
number_other Escape = (omega arith, λ x y. omega arith)
number_other Occurs = (omega arith, λ x y. omega arith)
number_other QueueFull = (omega arith, λ x y. omega arith)
number_other TableFull = (omega arith, λ x y. omega arith)

admitted_means : (ws ss qs : List ℕ) (n : ℕ) → Admitted ws ss n → Means ws n (leaves admitted ws ss qs n)
unfolding leaves
admitted_means ws ss qs n a = go (machine (records ws) (pairs qs) n (start ws ss n)) refl (machine_ends ws ss (pairs qs) n a)
  where
    go : (o : Out (List Pair)) → machine (records ws) (pairs qs) n (start ws ss n) ≡ o
        → Ends (λ s (q : List Pair). Final ws n (records ws) s) (FailsBy (constants ws n) (holes ws n) nothing (sides ws n)) o → Means ws n (leaves admitted ws ss qs n)
    go (goes s q) e (ended k) = rw (e, leaves) (record {
      solved = λ _. final_general k;
      refuted = λ x y. absurd (omega arith);
      refused = λ x y. absurd (omega arith);
      passed = λ _. admitted_typed ws ss n a;
    })
    go (fails vs rs f) e (failed k) = rw (e, leaves) (record {
      solved = λ x. absurd (omega (arith, (number_other f).0));
      refuted = λ x y. refuted_by ws n (sides-typed ws ss (pairs qs) n a) f k y;
      refused = λ x y. absurd ((number_other f).1 x y);
      passed = λ _. admitted_typed ws ss n a;
    })
    go spent e unsaid = rw (e, leaves) (record {
      solved = λ x. absurd (omega arith);
      refuted = λ x y. absurd (omega arith);
      refused = λ x y. absurd (omega arith);
      passed = λ _. admitted_typed ws ss n a;
    })

-- answers 4 to 7
refused_means : (ws : List ℕ) (n : ℕ) (why : Refused) (ts ss qs : List ℕ) → 4 ≤ (refusing why).answer → (refusing why).answer ≤ 7
    → (6 ≤ (refusing why).answer → TypedPatterns ws n → ⊥) → Means ws n (record { table = ts; solutions = ss; queue = qs; said = refusing why })
refused_means ws n why ts ss qs a b c = record {
  solved = λ x. absurd (omega arith);
  refuted = λ x y. absurd (omega arith);
  refused = λ x y. c x;
  passed = elim [ inl x ↦ absurd (omega arith) | inr x ↦ absurd (omega arith) ];
}

pub solve_means : (ws ss qs : List ℕ) (n : ℕ) → Means ws n (solve ws ss qs n)
unfolding solve leaves
solve_means ws ss qs n = go (refusal_is ws ss n)
  where
    go : {o : Refusal} → Refuses ws ss n o → Means ws n (leaves o ws ss qs n)
    go (admits a) = admitted_means ws ss qs n a
    go short = refused_means ws n NoRoom ws ss qs (omega arith) (omega arith) (λ x. absurd (omega arith))
    go (breaks {r}) = refused_means ws n (Broken r) ws ss qs (omega arith) (omega arith) (λ x. absurd (omega arith))
    go (ill {r} h g e) = refused_means ws n (IllTyped r) ws ss qs (omega arith) (omega arith) (λ _ t. found_not r (sym e ∙ typed_nowhere ws n g h t))
    go (offends {r} h g e k) = refused_means ws n (NoPattern r) ws ss qs (omega arith) (omega arith) (λ _ t. k (sym e ∙ typed_clean ws n g h t))

-- what solving leaves behind with answer 0
abbrev pub behind : Store → List ℕ → Behind
behind s qs = record { table = s.words; solutions = s.solutions; queue = qs; said = reply 0 0 s.used }

-- the answer 0 of solving comes of the machine's end only
pub record Solution (ws ss qs : List ℕ) (n : ℕ) : Type 0 where
  pub allowed : Admitted ws ss n
  pub store : Store
  pub final : Final ws n (records ws) store
  pub is : solve ws ss qs n ≡ behind store (emptied qs)

pub solve_final : (ws ss qs : List ℕ) (n : ℕ) → (solve ws ss qs n).said.answer ≡ 0 → Solution ws ss qs n
unfolding solve leaves
solve_final ws ss qs n e = refused_or (refusal true ws ss n) refl (refusal_is ws ss n)
  where
    ends : Admitted ws ss n → refusal true ws ss n ≡ admitted → (o : Out (List Pair)) → machine (records ws) (pairs qs) n (start ws ss n) ≡ o
        → Ends (λ s (q : List Pair). Final ws n (records ws) s) (FailsBy (constants ws n) (holes ws n) nothing (sides ws n)) o → Solution ws ss qs n
    ends a r (goes s q) m (ended k) = record { allowed = a; store = s; final = k; is = rw (r, m, leaves) refl }
    ends a r (fails vs rs f) m (failed k) = absurd (let z : number f ≡ 0 = rw (r, m, leaves) at e in omega (arith, (number_other f).0))
    ends a r spent m unsaid = absurd (let z : ◌≡◌ {A = ℕ} 4294967295 0 = rw (r, m, leaves) at e in omega arith)

    no : (x : Refused) → refusal true ws ss n ≡ refused x → 4 ≤ (refusing x).answer → Solution ws ss qs n
    no x r h = absurd (let z : (refusing x).answer ≡ 0 = rw (r, leaves) at e in omega arith)

    refused_or : (o : Refusal) → refusal true ws ss n ≡ o → Refuses ws ss n o → Solution ws ss qs n
    refused_or admitted r (admits a) = ends a r (machine (records ws) (pairs qs) n (start ws ss n)) refl (machine_ends ws ss (pairs qs) n a)
    refused_or (refused x) r short = no x r (omega arith)
    refused_or (refused x) r breaks = no x r (omega arith)
    refused_or (refused x) r (ill h g k) = no x r (omega arith)
    refused_or (refused x) r (offends h g k m) = no x r (omega arith)
