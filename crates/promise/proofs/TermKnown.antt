-- What is known of the parts of a term that is walked, copied or shown, and of the solutions of its holes.
use Rattle.std.specs.Prelude.{ℕ, zero, suc, ◌+◌, ◌<◌, ◌≡◌, refl, List, ◌∷◌, length, get_or}
use Rattle.std.proofs.Common.{sym, ap, ◌∙◌, arith}
use Rattle.std.proofs.Math.Option.{Option, none, some}
use Rattle.rules.specs.Words.{tag, field_a, field_b, NONE, LA, CA, VA, HA, elements, variables}
use Rattle.rules.specs.Store.{Store, goes}
use Rattle.rules.specs.Map.{Map}
use Rattle.rules.specs.Walk.{walk}
use Rattle.invariants.specs.Floor.{All}
use Rattle.trees.specs.Tree.{Ty, Tree, lam, con, var, hol, nil, cons, lift_p, Holes, Sig}
use Rattle.trees.specs.Moves.{Solutions, NoneFrozen}
use Rattle.trees.specs.Free.{Scoped, All-map}
use Rattle.trees.specs.Typing.{Declared}
use Rattle.trees.proofs.Leads.{declared_once}
use Rattle.trees.proofs.Walk.{declared_later}
use Rattle.trees.specs.Scopes.{SolScoped, walk_scoped}
use Rattle.promise.specs.Reading.{Listed, one, many, Reads, r_cons}
use Rattle.promise.specs.Outcomes.{went}
use Rattle.promise.specs.Maps.{place}
use Rattle.promise.specs.State.{Holds, declared_low}
use Rattle.promise.specs.Walked.{Walked}
use Rattle.promise.proofs.Walking.{walk_ends}
use Rattle.promise.specs.Parts.{Applied, applied_later, lambda_body, constant_arguments, variable_arguments, hole_occurrence, occurrence-each, listed_parts, context-length}
use Rattle.promise.specs.TermKnown.{TermKnown, ListKnown}

-- the solution of a solved hole, in the hole's context
pub solution-known : {R : ℕ} {s : Store} {D : Sig} {σ : Solutions} → Holds R s D σ → SolScoped D σ → (h : ℕ) (C : List Ty) (b : ℕ) → D h ≡ some (C, b)
    → (t : ℕ) → get_or s.solutions h NONE ≡ t → (t ≡ NONE → ⊥) → TermKnown R s (length C) 0 t
solution-known {R} {s} {D} {σ} i v h C b d t q n = go (σ h) refl
  where
    go : (o : Option Tree) → σ h ≡ o → TermKnown R s (length C) 0 t
    go none z = absurd (n (sym q ∙ i.leaves h (declared_low i h (C, b) d) z))
    go (some u) z =
        let w = v h u z in
        let l = ap length (declared_once (sym w.2 ∙ d)).0 in
        record {
          sig = D;
          sols = σ;
          holds = i;
          solved = v;
          tree = u;
          reads = rw q at (i.solves h u z);
          inside = i.inside h u z;
          scoped = All-map (λ j x. omega arith) u w.3;
        }

scope_in : (c d j : ℕ) → lift_p (λ i. i < d + c) j → j < d + 1 + c
scope_in c d zero h = omega arith
scope_in c d (suc j) h = omega arith

module _ {R : ℕ} {s : Store} {c d r : ℕ} (k : TermKnown R s c d r) where
  pub known_body : tag s.words r ≡ LA → TermKnown R s c (d + 1) (field_a s.words r)
  known_body e =
      let b = lambda_body e k.reads in
      record {
        sig = k.sig;
        sols = k.sols;
        holds = k.holds;
        solved = k.solved;
        tree = b.0;
        reads = b.2;
        inside = rw b.1 at k.inside;
        scoped = All-map (scope_in c d) b.0 (rw b.1 at k.scoped);
      }

  -- the arguments of a rigid head
  under-head : (ts : Tree) → Applied s.words s.used (field_b s.words r) ts → Holes (Declared k.sig) ts → Scoped (d + c) ts → ListKnown R s c d (field_b s.words r)
  under-head ts a i p = record { sig = k.sig; sols = k.sols; holds = k.holds; solved = k.solved; tree = ts; applied = a; inside = i; scoped = p }

  pub known_constant : tag s.words r ≡ CA → ListKnown R s c d (field_b s.words r)
  known_constant e = let a = constant_arguments e k.reads in under-head a.0 a.2 (rw a.1 at k.inside) (rw a.1 at k.scoped)

  pub known_variable : tag s.words r ≡ VA → (field_a s.words r < d + c) × ListKnown R s c d (field_b s.words r)
  known_variable e =
      let a = variable_arguments e k.reads in
      let p : (field_a s.words r < d + c) × Scoped (d + c) a.0 = rw a.1 at k.scoped in
      (p.0, under-head a.0 a.2 (rw a.1 at k.inside) p.1)

  -- an occurrence
  module _ (e : tag s.words r ≡ HA) where
    declares : Declared k.sig (field_a s.words r) (variables s.words r)
    declares = rw (hole_occurrence e k.reads) at k.inside

    -- the arguments
    pub known-arguments : All (λ v. v < d + c) (variables s.words r)
    known-arguments = occurrence-each (λ j p. p) e k.reads k.scoped

    -- as many arguments as the hole's context has elements
    pub known-arity : length (variables s.words r) ≡ length (elements s.words (field_a s.words (field_a s.words r)))
    known-arity = let d = declares in d.3 ∙ sym (context-length (k.holds.declared (field_a s.words r) d.0 d.1 d.2))

    -- the solution of a solved hole
    pub known-solution : (t : ℕ) → get_or s.solutions (field_a s.words r) NONE ≡ t → (t ≡ NONE → ⊥) → TermKnown R s (length (variables s.words r)) 0 t
    known-solution t q n = let d = declares in rw d.3 (solution-known k.holds k.solved (field_a s.words r) d.0 d.1 d.2 t q n)

module _ {R : ℕ} {s : Store} {c d l : ℕ} (ne : l ≡ NONE → ⊥) (k : ListKnown R s c d l) where
  abbrev Parts : Type 0
  Parts = (t : Tree) × (a : Tree) × Reads s.words s.used (one (field_a s.words l)) t × Applied s.words s.used (field_b s.words l) a
      × (Holes (Declared k.sig) t × Holes (Declared k.sig) a) × (Scoped (d + c) t × Scoped (d + c) a)

  parts : Parts
  parts = go k.tree (rw p.1 at k.applied.reads) k.inside k.scoped
    where
      p : (ys : List ℕ) × (k.applied.records ≡ field_a s.words l ∷ ys) × Listed s.words s.used (field_b s.words l) ys
      p = listed_parts ne k.applied.listed

      go : (t : Tree) → Reads s.words s.used (many (field_a s.words l ∷ p.0)) t → Holes (Declared k.sig) t → Scoped (d + c) t → Parts
      go (cons t a) (r_cons x y) q z = (t, a, x, record { records = p.0; listed = p.2; reads = y }, q, z)
      go (lam _) x q z = elim x [ ]
      go (con _ _) x q z = elim x [ ]
      go (var _ _) x q z = elim x [ ]
      go (hol _ _) x q z = elim x [ ]
      go nil x q z = elim x [ ]

  pub known-first : TermKnown R s c d (field_a s.words l)
  known-first =
      let p = parts in
      record { sig = k.sig; sols = k.sols; holds = k.holds; solved = k.solved; tree = p.0; reads = p.2; inside = p.4.0; scoped = p.5.0 }

  -- the rest, in the same store
  pub known_second : ListKnown R s c d (field_b s.words l)
  known_second =
      let p = parts in
      record { sig = k.sig; sols = k.sols; holds = k.holds; solved = k.solved; tree = p.1; applied = p.3; inside = p.4.1; scoped = p.5.1 }

  -- after the walk of the first argument
  pub walked_rest : (f u : ℕ) (m : Map) {s₁ : Store} {y : ℕ} → walk f R u m d (field_a s.words l) s ≡ goes s₁ y → ListKnown R s₁ c d (field_b s.words l)
  walked_rest f u m {s₁} {y} e =
      let p = parts in
      let w : Walked R u k.sig k.sols (place m d) p.0 s s₁ y =
      went (rw e at (walk_ends R u f 1 m d (field_a s.words l) s k.sig k.sols p.0 k.holds p.2 p.4.0 tt)) in
      record {
        sig = w.sig;
        sols = w.sols;
        holds = w.holds;
        solved = walk_scoped NoneFrozen u w.walk k.solved;
        tree = p.1;
        applied = applied_later w.later.same w.later.grown p.3;
        inside = declared_later k.sig w.sig w.declares p.1 p.4.1;
        scoped = p.5.1;
      }
