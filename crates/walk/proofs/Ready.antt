-- What the walk asks still holds where the code goes on.
use Rattle.std.specs.Prelude.{Option, ℕ, Some, Ok, Err, None}
use Prim.Native.Nat.{ℕ, suc, ◌+◌, ◌*◌, ◌<◌, ◌≤◌}
use mathlib.Core.Path.{◌≡◌, refl, sym, ◌∙◌}
use mathlib.Core.List.{List}
use mathlib.Core.Bool.{Bool, false}
use native.Mathlib.Omega.{arith}
use native.Mathlib.Decide.{ℕ_discrete}
use lib.ListN.{length, get_or, length-map}
use lib.Dec.{eqb}
use mir.Syntax.{w32}
use mir.Val.{Fits}
use borrow.Author.Tests.{ne_eqb, eqb-false}
use Rattle.rules.specs.declared.Failure.{Failure}
use Rattle.store.specs.declared.Written.{Written}
use Rattle.store.specs.Solutions.{solution_in}
use Rattle.store.specs.SolutionsLaws.{word_some, word_real}
use Rattle.table.specs.declared.Record.{Record}
use Rattle.table.specs.Reading.{IsRecord}
use Rattle.table.specs.declared.Hole.{Hole}
use Rattle.places.specs.declared.Map.{Map}
use Rattle.rules.specs.Words.{NONE, field_a, field_b, elements, arguments, variables, LA, VA, HA}
use Rattle.rules.specs.Store.{push, push_occurrence}
use Rattle.laws.specs.Lists.{size}
use Rattle.invariants.specs.Grow.{all_map}
use Rattle.invariants.specs.Places.{followed}
use Rattle.invariants.specs.Rise.{reach, raised, raised-first, raised_on, Rises, rises}
use Rattle.invariants.specs.Keep.{highest}
use Rattle.promise.proofs.TermKnown.{known-arguments, known-arity, known-solution}
use Rattle.promise.specs.CopyKnown.{Full}
use Rattle.promise.proofs.CopyKnown.{full_less, full_arguments}
use Rattle.store.specs.Said.{Answer, store, Does}
use Rattle.places.specs.Maps.{map_of, side}
use Rattle.places.specs.Looking.{Looks, Within}
use Rattle.places.specs.Lists.{vars_of}
use Rattle.places.specs.Follow.{Following, Followed}
use Rattle.narrow.specs.Narrowing.{Narrowing}
use Rattle.narrow.specs.NarrowingLaws.{narrows}
use Rattle.rewrite.specs.Renamings.{Renamings}
use Rattle.rewrite.specs.LevelsLaws.{Headed}
use Rattle.rewrite.specs.WritesLaws.{writes_stops, writes_rigid}
use Rattle.rewrite.specs.PartsLaws.{counts_at, hole_held}
use Rattle.rewrite.specs.TermsLaws.{at_read, at_low, at_less, at_body, at_variable, at_size, at_args}
use Rattle.walk.specs.Head.{head_of}
use Rattle.walk.proofs.Head.{head_at, head_plain}
use Rattle.walk.proofs.Walks.{unrolls, walk_hole_lem, hole_kept, hole_hops}
use Rattle.walk.specs.Walks.{map_at, WalksTerm, WalksList, WalksHole}
use Rattle.walk.specs.Ready.{Led, copying, solving, On, ReadyTerm, ReadyList, ReadyHole}

module _ {R : ℕ} {u : Option Hole} {m : Map} {used F x k : ℕ} where
  pub led-part : (v x₁ k₁ : ℕ) → Led R u m used F x k → used ≤ v → x₁ + k₁ ≤ x + k → Led R u m v F x₁ k₁
  led-part v x₁ k₁ (copying z a f h) l le = copying z a f (omega arith)
  led-part v x₁ k₁ (solving g z a h) l le = solving g z (omega arith) (omega arith)

  led_low : Led R u m used F x k → used ≤ 4096 → x < 134217728
  led_low (copying z a f h) l = omega arith
  led_low (solving g z a h) l = omega arith

  pub led-solving : (g : Hole) → Led R u m used F x k → u ≡ Some g → (g.0 < used) × (x + reach R F k ≤ highest)
  led-solving g (copying z a f h) e = let c : None ≡ Some g = sym z ∙ e in absurd (cc)
  led-solving g (solving g₁ z a h) e = let c : Some g₁ ≡ Some g = sym z ∙ e in let s : g₁ ≡ g = cc in (rw s at a, h)

  led_copying : Led R u m used F x k → u ≡ None → (F ≡ 0 → ⊥) × Full (map_of false m) m.len
  led_copying (copying z a f h) e = (a, f)
  led_copying (solving g z a h) e = let c : None ≡ Some g = sym e ∙ z in absurd (cc)

-- at an occurrence w of a solved hole: the map that follows its arguments, the solution t, the floor G there
pub record Hopping (R n : ℕ) (u : Option Hole) (m : Map) (ws ss : List ℕ) (used F d r : ℕ) (w : Record) (next : Map) (t G : ℕ) : Type 0 where
  pub on : ReadyHole R n u m ws ss used F d r
  pub is : IsRecord ws r w
  pub hole : Hole
  pub some : u ≡ Some hole
  pub other : w.a ≡ hole.0 → ⊥
  pub follows : Followed ws (eqb F 0) m d w.b next
  pub solution : solution_in ss w.a ≡ Some t
  pub floor : raised n F r ≡ G

pub on_part : {R : ℕ} {u : Option Hole} {m : Map} {used F d k : ℕ} (v d₁ k₁ : ℕ) → On R u m used F d k → used ≤ v → d₁ + k₁ ≤ d + k → On R u m v F d₁ k₁
on_part v d₁ k₁ o l h = record { top = o.top; low = o.low; led = led-part v (o.top + d₁) k₁ o.led l (omega arith) }

-- the cycle's measure is three times the reach at a list, at an occurrence and at a body, one more at a term, and two more at an argument
pub fall_argument : (R F r t : ℕ) → 3 * reach R F (suc r) + 2 ≡ t → 3 * reach R F (suc r) + 1 < t
fall_argument R F r t z = omega arith

pub fall_hole : (R F r t : ℕ) → 3 * reach R F (suc r) ≡ t → 3 * reach R F r < t
fall_hole R F r t z = omega arith

-- the map that follows an occurrence's arguments has a position for each
as_many : {ws : List ℕ} {b : Bool} {m : Map} {d r : ℕ} {w : Record} {next : Map} → IsRecord ws r w → Followed ws b m d w.b next → length (variables ws r) ≡ next.len
unfolding variables arguments
as_many {ws} {r = r} {next = next} e g = let k : length (elements ws (field_b ws r)) ≡ next.len = rw (← e.b_is) (sym g.len) in simp length-map k

module _ {R n : ℕ} {u : Option Hole} {m : Map} {ws ss : List ℕ} {used F d r : ℕ} where
  pub to_read : ReadyTerm R n u m ws ss used F d r → 4 * r + 3 < length ws
  to_read h = at_read h.at

  pub look : ReadyTerm R n u m ws ss used F d r → Looks (eqb F 0) m d
  look h = let f = h.at.fine in let w = f.within in let r = f.few in record { top = h.on.top; low = h.on.low; fits = led_low h.on.led (omega arith) }

  pub to_depth : ReadyTerm R n u m ws ss used F d r → Fits w32 (d + 1)
  to_depth h = let f = (look h).fits in record { fits = omega arith }

  -- a variable in scope is bound inside or, below a solved hole, has a position
  inside : (h : ReadyTerm R n u m ws ss used F d r) (v : ℕ) → v < d + h.scope → Within (eqb F 0) m d v
  inside h v lt = record { within = λ z. let k = h.within (eqb-false F 0 z) in omega arith }

  -- the body of a lambda
  pub to_body : (w : Record) → IsRecord ws r w → w.tag ≡ LA → ReadyTerm R n u m ws ss used F d r → ReadyTerm R n u m ws ss used F (d + 1) w.a
  to_body w e k h =
      let l = at_less h.at w e k in
      record { home = h.home; scope = h.scope; at = at_body h.at w e k; on = on_part used (d + 1) (suc w.a) h.on (omega arith) (omega arith); within = h.within }

  -- a rigid head
  pub in_scope : (w : Record) → IsRecord ws r w → ReadyTerm R n u m ws ss used F d r → w.tag ≡ VA → Within (eqb F 0) m d w.a
  in_scope w e h t = inside h w.a (at_variable h.at w e t)

  pub headed : (w : Record) (s : Option ℕ) (v : ℕ) → IsRecord ws r w → (w.tag ≡ LA → ⊥) → (w.tag ≡ HA → ⊥) → ReadyTerm R n u m ws ss used F d r → head_of (map_at F m) d w ≡ s → s ≡ Some v → Headed (map_at F m) d w v
  headed w s v e a b h p q = let lo = h.at.is.term.low in let hi = h.at.is.term.high in let z = e.tag_is in head_at _ _ _ s p v (omega arith) (omega arith) q

  module _ (w : Record) (v : ℕ) (e : IsRecord ws r w) (g : Headed (map_at F m) d w v) (h : ReadyTerm R n u m ws ss used F d r) where
    pub args_size : size w.b ≤ r
    args_size = at_size h.at w e (head_plain _ _ _ v g).0 (head_plain _ _ _ v g).1

    pub to_args : ReadyList R n u m ws ss used F d w.b
    to_args =
        let s = args_size in
        record {
          home = h.home;
          scope = h.scope;
          at = at_args h.at w e (head_plain _ _ _ v g).0 (head_plain _ _ _ v g).1;
          on = on_part used d (size w.b) h.on (omega arith) (omega arith);
          within = h.within;
        }

    module _ (ws₁ ss₁ : List ℕ) (x : Answer) (p : WalksList R n u m ws ss used F d w.b ws₁ ss₁ x) where
      pub walked_stops : (f : Failure) (y : Answer) → x ≡ Err f → y ≡ Err f → WalksTerm R n u m ws ss used F d r ws₁ ss₁ y
      walked_stops = writes_stops (unrolls R u) R n F (map_at F m) d r ws ss used w e v ws₁ ss₁ x g args_size p

      pub walked_rigid : (a : Written) (ws₂ : List ℕ) (y : Answer) → x ≡ Ok a → Does n (push R w.tag v a.root) ws₁ a.used ws₂ y → WalksTerm R n u m ws ss used F d r ws₂ ss₁ y
      walked_rigid = writes_rigid (unrolls R u) R n F (map_at F m) d r ws ss used w e v ws₁ ss₁ x g args_size p

  -- an occurrence
  pub to_hole : (w : Record) → IsRecord ws r w → w.tag ≡ HA → ReadyTerm R n u m ws ss used F d r → ReadyHole R n u m ws ss used F d r
  to_hole w e t h = record { on = h; occ = sym e.tag_is ∙ t }

  pub walked_hole : (w : Record) (ws₁ ss₁ : List ℕ) (x y : Answer) → y ≡ x → IsRecord ws r w → w.tag ≡ HA → WalksHole R n u m ws ss used F d r ws₁ ss₁ x → WalksTerm R n u m ws ss used F d r ws₁ ss₁ y
  walked_hole w ws₁ ss₁ x y q e t p = rw q (walk_hole_lem R n u m ws ss used F d r ws₁ ss₁ x (sym e.tag_is ∙ t) p)

  -- in a copy every argument has a place
  pub to_names : (w : Record) → IsRecord ws r w → u ≡ None → ReadyHole R n u m ws ss used F d r → Renamings ws m d w.b
  unfolding variables arguments
  to_names w e z h =
      let c = led_copying h.on.on.led z in
      let i = h.on.within c.0 in
      record {
        counts = counts_at R n h.on.home ws ss used F r h.on.at.fine h.on.at.is w e h.occ;
        looks = rw (ne_eqb F 0 c.0) at (look h.on);
        have = rw e.b_is (full_arguments (full_less c.1 i) h.on.at.known h.occ);
      }

  pub walked_kept : (w : Record) (next : Map) (ws₁ : List ℕ) (x : Answer) → IsRecord ws r w → u ≡ None → ReadyHole R n u m ws ss used F d r → Followed ws false m d w.b next
      → Does n (push_occurrence R w.a (side false (map_of false next))) ws used ws₁ x → WalksHole R n u m ws ss used F d r ws₁ ss x
  walked_kept w next ws₁ x e z h f p = hole_kept R n u m ws ss used F d r w e next ws₁ x z (led_copying h.on.on.led z).0 f p

  pub to_follow : (w : Record) → IsRecord ws r w → ReadyHole R n u m ws ss used F d r → Following ws (eqb F 0) m d w.b
  unfolding variables arguments
  to_follow w e h =
      record {
        counts = counts_at R n h.on.home ws ss used F r h.on.at.fine h.on.at.is w e h.occ;
        looks = look h.on;
        within = rw e.b_is (all_map _ _ (inside h.on) (variables ws r) (known-arguments h.on.at.known h.occ));
      }

  pub to_solution : (w : Record) → IsRecord ws r w → ReadyHole R n u m ws ss used F d r → w.a < length ss
  to_solution w e h = hole_held R n h.on.home ws ss used F r h.on.at.fine h.on.at.is w e h.occ

  pub to_keep : (w : Record) (next : Map) → IsRecord ws r w → ReadyHole R n u m ws ss used F d r → Followed ws (eqb F 0) m d w.b next → Narrowing ws ss n used R w.a next
  to_keep w next e h g =
      narrows R n h.on.home ws ss used F r h.on.at.fine h.on.at.is w e h.occ next (sym (known-arity h.on.at.known h.occ) ∙ as_many e g)

  pub to_raise : ReadyHole R n u m ws ss used F d r → r < 4096
  to_raise h = at_low h.on.at

  -- below a solved hole the floor has risen, and is no higher than the solution's home
  risen : (w : Record) (t G : ℕ) → IsRecord ws r w → get_or ss w.a NONE ≡ t → (t ≡ NONE → ⊥) → raised n F r ≡ G → (h : ReadyHole R n u m ws ss used F d r) → Rises R h.on.home (store ws ss used) F r G t
  risen w t G e st z g h =
      let st₁ : get_or ss (field_a ws r) NONE ≡ t = rw (← e.a_is) st in
      rw (g, st₁) at (rises R n h.on.home (store ws ss used) F r h.on.at.fine h.on.at.is.below h.occ h.on.at.is.up (λ q. z (sym st₁ ∙ q)))

  -- the floor there is no 0
  above : (G : ℕ) → raised n F r ≡ G → ReadyHole R n u m ws ss used F d r → G ≡ 0 → ⊥
  above G g h q = go (ℕ_discrete F 0)
    where
      go : Dec (F ≡ 0) → ⊥
      go (yes z) = let one = h.on.at.fine.some in let e = raised-first n F r z in absurd (omega arith)
      go (no z) = let e = raised_on n F r z in absurd (omega arith)

  -- what is known where the walk goes on below a solved hole
  module _ {w : Record} {next : Map} {t G : ℕ} (k : Hopping R n u m ws ss used F d r w next t G) where
    word : get_or ss w.a NONE ≡ t
    word = word_some _ (Some t) k.solution t refl

    solved : t ≡ NONE → ⊥
    solved = word_real _ (Some t) k.solution t refl

    goes_up : Rises R k.on.on.home (store ws ss used) F r G t
    goes_up = risen w t G k.is word solved k.floor k.on

    pub fall_hop : (j : ℕ) → 3 * reach R F r ≡ j → 3 * reach R G (suc t) + 1 < j
    fall_hop j y = let a = goes_up.falls in omega arith

    pub to_hop : ReadyTerm R n u next ws ss used G 0 t
    to_hop =
        let fh = goes_up.falls in
        let o = k.on.on.on in
        let l = led-solving k.hole o.led k.some in
        let hi = l.1 in
        let many = as_many k.is k.follows in
        record {
          home = k.on.on.home;
          scope = length (variables ws r);
          at = record { fine = k.on.on.at.fine; is = goes_up.sub; known = known-solution k.on.on.at.known k.on.occ t (rw (← k.is.a_is) word) solved };
          on = record {
            top = o.top + d;
            low = rw (ne_eqb G 0 (above G k.floor k.on), k.follows.run) (followed (map_at F m) d o.top 0 (vars_of ws w.b) o.low).low;
            led = solving k.hole k.some l.0 (omega arith);
          };
          within = λ _. omega arith;
        }

    pub hops : (ws₁ ss₁ : List ℕ) (x : Answer) → WalksTerm R n u next ws ss used G 0 t ws₁ ss₁ x → WalksHole R n u m ws ss used F d r ws₁ ss₁ x
    hops ws₁ ss₁ x p =
        hole_hops R n u m ws ss used F d r w k.is k.hole k.some k.other next k.follows (Some t) k.solution t G ws₁ ss₁ x refl (above G k.floor k.on) goes_up.falls p
