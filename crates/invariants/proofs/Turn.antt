-- Steps 2 to 5 and the whole step keep the state of the run, and less is ahead after them.
use Rattle.std.specs.Prelude.{ℕ, ◌+◌, ◌<◌, ◌≤◌, ◌≡◌, Bool, ◌⊎◌, eqb, leb}
use Rattle.std.proofs.Math.Path.{refl}
use Rattle.std.proofs.Common.{ap, inl, inr, le_refl, length-append, leb-true}
use mathlib.Core.List.{List, [], ◌∷◌, ◌++◌}
use Rattle.std.proofs.Math.Bool.{true, false}
use native.Mathlib.Omega.{arith}
use Rattle.std.proofs.Math.ListN.{length}
use Rattle.rules.specs.Lists.{both, either, enough}
use Rattle.rules.specs.Words.{tag, field_a, field_b, LA, CA, VA, HA, has, elements, arguments, variables}
use Rattle.rules.specs.Store.{Store, Out, goes, fail, ◌>>=◌}
use Rattle.rules.specs.Rewrite.{expand}
use Rattle.rules.specs.Walk.{narrow, assign}
use Rattle.rules.specs.Machine.{weight, Pair, Next, on, done, zip, join, agreeing, same_hole, solve_one, same_head, meet, step, upcoming}
use Rattle.laws.specs.Tests.{both_true, either_true, tag_is}
use Rattle.invariants.specs.Forms.{variables_few}
use Rattle.invariants.specs.Floor.{Sub, All, limit, Rule, Fine, Ext, Grows, Rooted}
use Rattle.invariants.specs.Outside.{fine_stopped}
use Rattle.invariants.specs.Grow.{all_map, sub_less, args_less, sub-kept}
use Rattle.invariants.specs.Push.{ext_refl, bind_grows, map_grows}
use Rattle.invariants.specs.Write.{stays}
use Rattle.invariants.proofs.Narrow.{Fresh, narrow_grows, grows_weaken}
use Rattle.invariants.specs.Copy.{Nobody, Expanded}
use Rattle.invariants.proofs.Copy.{expand_grows}
use Rattle.invariants.proofs.Assign.{assign_grows}
use Rattle.invariants.specs.Pairs.{sides-kept, all_append, zip-sides, agreeing_few}
use Rattle.invariants.specs.Running.{Sides, Running, Stepped, weights, ahead}
use Rattle.invariants.proofs.Falls.{weight_lower, weights-append, zip_lower, lighter, dropped, written}

-- a tag that is tested
-- the pair in hand, after step 1
module _ (R C n l r : ℕ) (q : List Pair) (home : ℕ → ℕ) (s : Store) (h : Running R C n home s ((l, r) ∷ q)) where
  abbrev Meets : Out Next → Type 0
  Meets o = Grows Nobody (Stepped R C n s.used l r q) R n home s o

  fine : Fine R n home s
  fine = h.fine (h.some (omega arith))

  left : Sub s.words home 0 s.used l
  left = h.sides.0.left

  right : Sub s.words home 0 s.used r
  right = h.sides.0.right

  rule : (x : ℕ) → Sub s.words home 0 s.used x → Rule s.words home x
  rule x i = fine.good x i.below

  -- 2: the bodies
  bodies : tag s.words l ≡ LA → tag s.words r ≡ LA → Meets (goes s (on (field_a s.words l) (field_a s.words r)))
  unfolding upcoming weights
  bodies el er =
      let a = (rule l left).lam el in
      let b = (rule r right).lam er in
      let a₀ = a.below in
      let lb = left.below in
      let rb = right.below in
      let w = weight_lower (field_a s.words l) l a₀ in
      stays Nobody (Stepped R C n s.used l r q) R n home s (on (field_a s.words l) (field_a s.words r)) fine
      (record {
        running = record {
          some = λ k. h.some (omega arith);
          fine = λ k. fine;
          sides = (record { left = sub_less _ _ (home l) 0 l s.used _ a (omega arith) (omega arith); right = sub_less _ _ (home r) 0 r s.used _ b (omega arith) (omega arith) }, h.sides.1);
          few = h.few;
        };
        falls = lighter R C s.used ((field_a s.words l, field_a s.words r) ∷ q) ((l, r) ∷ q) (omega arith);
      })

  subs : (x : ℕ) → Sub s.words home 0 s.used x → 7 ≤ tag s.words x → All (Sub s.words home 0 s.used) (arguments s.words x)
  unfolding arguments
  subs x i lo =
      (args_less s.words home (home x) 0 x s.used (field_b s.words x) ((rule x i).app lo i.term.high) (omega arith) (omega arith)).all

  parts_lower : 7 ≤ tag s.words l → weights (zip (arguments s.words l) (arguments s.words r)) < weight l
  unfolding arguments
  parts_lower lo =
      zip_lower l (elements s.words (field_b s.words l)) (elements s.words (field_b s.words r)) ((rule l left).few lo left.term.high)
      (all_map (Sub s.words home (home l) l) (λ x. x < l) (λ x p. p.below) (elements s.words (field_b s.words l)) ((rule l left).app lo left.term.high).all)

  -- 3: the arguments
  arguments-join : 7 ≤ tag s.words l → 7 ≤ tag s.words r → Meets (join C q (zip (arguments s.words l) (arguments s.words r)) s >>= (λ p. goes p.0 (done p.1)))
  unfolding join fail ◌>>=◌ upcoming weights
  arguments-join ll lr = go (leb (length q + length new) C) refl
    where
      new : List Pair
      new = zip (arguments s.words l) (arguments s.words r)

      go : (b : Bool) → leb (length q + length new) C ≡ b → Meets (join C q new s >>= (λ p. goes p.0 (done p.1)))
      go false e = rw (e, join) (fine_stopped R n home s fine)
      go true e =
          let c = leb-true _ _ e in
          let w = parts_lower ll in
          let aw = weights-append q new in
          rw (e, join)
          (stays Nobody (Stepped R C n s.used l r q) R n home s (done (q ++ new)) fine
          (record {
            running = record {
              some = λ k. h.some (omega arith);
              fine = λ k. fine;
              sides = all_append (Sides home s) q new h.sides.1 (zip-sides home s (arguments s.words l) (arguments s.words r) (subs l left ll) (subs r right lr));
              few = rw length-append c;
            };
            falls = lighter R C s.used (q ++ new) ((l, r) ∷ q) (omega arith);
          }))

  -- the pair is done with, in a store that has grown
  finished : (home₁ : ℕ → ℕ) (s₁ : Store) → Ext Nobody home s home₁ s₁ → Fine R n home₁ s₁ → Stepped R C n s.used l r q home₁ s₁ (done q)
  unfolding upcoming
  finished home₁ s₁ e f =
      let few = h.few in
      record { running = record { some = λ k. h.some (omega arith); fine = λ k. f; sides = sides-kept R n home s home₁ s₁ q e h.sides.1; few = omega arith }; falls = dropped R C s.used s₁.used l r q e.grown }

  finish : (Q : (ℕ → ℕ) → Store → ℕ → Type 0) (o : Out ℕ) → Grows Nobody Q R n home s o → Meets (o >>= (λ p. goes p.0 (done q)))
  finish Q o g =
      bind_grows Nobody Q (Stepped R C n s.used l r q) R n home s o _ g
      λ home₁ s₁ x e₁ f₁ p₁. stays Nobody (Stepped R C n s.used l r q) R n home₁ s₁ (done q) f₁ (finished home₁ s₁ e₁ f₁)

  -- 4: the same unsolved hole twice
  same_hole_lem : tag s.words l ≡ HA → Meets (same_hole R q l r s)
  unfolding same_hole
  same_hole_lem nine = go (eqb (length (agreeing 0 (variables s.words l) (variables s.words r))) (length (variables s.words l))) refl
    where
      few : length (variables s.words l) ≤ 16
      few = variables_few s.words l ((rule l left).few (omega arith) (omega arith))

      go : (b : Bool) → eqb (length (agreeing 0 (variables s.words l) (variables s.words r))) (length (variables s.words l)) ≡ b → Meets (same_hole R q l r s)
      go true e = rw (e, same_hole) (stays Nobody (Stepped R C n s.used l r q) R n home s (done q) fine (finished home s (ext_refl Nobody home s) fine))
      go false e =
          let o = (rule l left).occ nine in
          let b = o.below in
          let lb = left.below in
          let ag = agreeing_few 0 (variables s.words l) (variables s.words r) in
          let ag₀ = ag.0 in
          let fw = few in
          rw (e, same_hole)
          (finish (Fresh s.used) (narrow R (field_a s.words l) (agreeing 0 (variables s.words l) (variables s.words r)) s)
          (narrow_grows Nobody R n (field_a s.words l) (agreeing 0 (variables s.words l) (variables s.words r)) home s fine (λ v z. absurd z) (omega arith) o.hole (omega arith)
          (all_map (λ k. k < 0 + length (variables s.words l)) (λ k. k ≤ limit s.used) (λ k z. omega arith) (agreeing 0 (variables s.words l) (variables s.words r)) ag.1)))

  -- 5: an unsolved hole on one side
  solve-one : Meets (solve_one R l r s >>= (λ p. goes p.0 (done q)))
  unfolding solve_one fail ◌>>=◌
  solve-one = go (has s.words l HA) (has s.words r HA) refl refl
    where
      solves : (x y : ℕ) → Sub s.words home 0 s.used x → Sub s.words home 0 s.used y → has s.words x HA ≡ true → Meets (assign R x y s >>= (λ p. goes p.0 (done q)))
      solves x y i j e =
          finish (Rooted s.used) (assign R x y s)
          (grows_weaken Nobody (λ v. v ≡ field_a s.words x) (Rooted s.used) R n home s (assign R x y s) (λ v z. absurd z) (assign_grows R n x y home s fine i.below (tag_is s.words x HA e) j))

      go : (a b : Bool) → has s.words l HA ≡ a → has s.words r HA ≡ b → Meets (solve_one R l r s >>= (λ p. goes p.0 (done q)))
      go true b e f = rw (e, solve_one) (solves l r left right e)
      go false true e f = rw (e, solve_one, f) (solves r l right left f)
      go false false e f = rw (e, solve_one, f) (fine_stopped R n home s fine)

  pub meet_grows : Meets (meet R C q l r s)
  unfolding meet same_head
  meet_grows = go₂ (both (has s.words l LA) (has s.words r LA)) refl
    where
      go₄ : (x : Bool) → same_head s.words HA l r ≡ x → Meets (elim x [ true ↦ same_hole R q l r s | false ↦ solve_one R l r s >>= (λ p. goes p.0 (done q)) ])
      go₄ true e = same_hole_lem (tag_is s.words l HA (both_true _ _ e).0)
      go₄ false e = solve-one

      heads : (k : ℕ) → 7 ≤ k → same_head s.words k l r ≡ true → (7 ≤ tag s.words l) × (7 ≤ tag s.words r)
      heads k lo e =
          let p = both_true _ _ e in
          let a = tag_is s.words l k p.0 in
          let b = tag_is s.words r k (both_true _ _ p.1).0 in
          (omega arith, omega arith)

      applied : (same_head s.words CA l r ≡ true) ⊎ (same_head s.words VA l r ≡ true) → (7 ≤ tag s.words l) × (7 ≤ tag s.words r)
      applied (inl e) = heads CA (omega arith) e
      applied (inr e) = heads VA (omega arith) e

      go₃ : (x : Bool) → either (same_head s.words CA l r) (same_head s.words VA l r) ≡ x
          → Meets (elim x [
            | true ↦ join C q (zip (arguments s.words l) (arguments s.words r)) s >>= (λ p. goes p.0 (done p.1))
            | false ↦ elim (same_head s.words HA l r) [ true ↦ same_hole R q l r s | false ↦ solve_one R l r s >>= (λ p. goes p.0 (done q)) ]
          ])
      go₃ true e = let a = applied (either_true _ _ e) in arguments-join a.0 a.1
      go₃ false e = go₄ (same_head s.words HA l r) refl

      go₂ : (x : Bool) → both (has s.words l LA) (has s.words r LA) ≡ x → Meets (meet R C q l r s)
      go₂ true e = let p = both_true _ _ e in rw (e, meet) (bodies (tag_is s.words l LA p.0) (tag_is s.words r LA p.1))
      go₂ false e = rw (e, meet) (go₃ (either (same_head s.words CA l r) (same_head s.words VA l r)) refl)

-- the left sides of pairs are below R
pub lefts_low : (R C n : ℕ) (home : ℕ → ℕ) (s : Store) (q : List Pair) → Running R C n home s q → All (λ p. p.0 ≤ R) q
lefts_low R C n home s [] h = tt
lefts_low R C n home s (p ∷ q) h =
    let w = (h.fine (h.some (omega arith))).within in
    all_map (Sides home s) (λ p. p.0 ≤ R) (λ p i. let b = i.left.below in omega arith) (p ∷ q) h.sides

-- a step keeps the state of the run, and less is ahead after it
pub step_grows : (R C n l r : ℕ) (q : List Pair) (home : ℕ → ℕ) (s : Store) → Running R C n home s ((l, r) ∷ q) → Grows Nobody (Stepped R C n s.used l r q) R n home s (step R C q l r s)
unfolding step
step_grows R C n l r q home s h =
    let fine = h.fine (h.some (omega arith)) in
    let wi = fine.within in
    let fe = fine.few in
    bind_grows Nobody (Expanded s l) (Stepped R C n s.used l r q) R n home s (expand enough R l s) _ (expand_grows R n enough l s home fine h.sides.0.left (omega arith))
    λ home₁ s₁ l₁ e₁ f₁ p₁.
    let w₁ = f₁.within in
    let sides₁ = sides-kept R n home s home₁ s₁ ((l, r) ∷ q) e₁ h.sides in
    bind_grows Nobody (Expanded s₁ r) (Stepped R C n s.used l r q) R n home₁ s₁ (expand enough R r s₁) _ (expand_grows R n enough r s₁ home₁ f₁ sides₁.0.right (omega arith))
    λ home₂ s₂ r₁ e₂ f₂ p₂.
    let sides₂ = sides-kept R n home₁ s₁ home₂ s₂ q e₂ sides₁.1 in
    let left₂ = sub-kept Nobody R n home₁ s₁ home₂ s₂ 0 s₁.used s₂.used l₁ e₂ (le_refl _) e₂.grown p₁.sub in
    let h₂ : Running R C n home₂ s₂ ((l₁, r₁) ∷ q) = record { some = h.some; fine = λ k. f₂; sides = (record { left = left₂; right = p₂.sub }, sides₂); few = h.few } in
    map_grows Nobody (Stepped R C n s₂.used l₁ r₁ q) (Stepped R C n s.used l r q) R n home₂ s₂ (meet R C q l₁ r₁ s₂) (meet_grows R C n l₁ r₁ q home₂ s₂ h₂)
    (λ home₃ s₃ x e₃ f₃ p₃. let fa = p₃.falls in let le = no_more s₁ s₂ l₁ r₁ home₂ p₁.less p₂.less h₂ in record { running = p₃.running; falls = omega arith })
  where
    less : (s₂ : Store) (l₁ r₁ : ℕ) (home₂ : ℕ → ℕ) → s.used < s₂.used → Running R C n home₂ s₂ ((l₁, r₁) ∷ q) → ahead R C s₂.used ((l₁, r₁) ∷ q) ≤ ahead R C s.used ((l, r) ∷ q)
    less s₂ l₁ r₁ home₂ lt h₂ =
        let w = written R C s.used s₂.used ((l₁, r₁) ∷ q) ((l, r) ∷ q) lt (h₂.fine (h₂.some (omega arith))).within h₂.few (lefts_low R C n home₂ s₂ ((l₁, r₁) ∷ q) h₂) in
        omega arith

    -- step 1 leaves no more ahead
    no_more : (s₁ s₂ : Store) (l₁ r₁ : ℕ) (home₂ : ℕ → ℕ) → ((s₁ ≡ s) × (l₁ ≡ l)) ⊎ (s.used < s₁.used) → ((s₂ ≡ s₁) × (r₁ ≡ r)) ⊎ (s₁.used < s₂.used) → Running R C n home₂ s₂ ((l₁, r₁) ∷ q)
        → ahead R C s₂.used ((l₁, r₁) ∷ q) ≤ ahead R C s.used ((l, r) ∷ q)
    no_more s₁ s₂ l₁ r₁ home₂ (inl a) (inl b) h₂ = rw (b.0, a.0, a.1, b.1) (le_refl _)
    no_more s₁ s₂ l₁ r₁ home₂ (inl a) (inr b) h₂ = let u = ap (λ (x : Store). x.used) a.0 in less s₂ l₁ r₁ home₂ (omega arith) h₂
    no_more s₁ s₂ l₁ r₁ home₂ (inr a) (inl b) h₂ = let u = ap (λ (x : Store). x.used) b.0 in less s₂ l₁ r₁ home₂ (omega arith) h₂
    no_more s₁ s₂ l₁ r₁ home₂ (inr a) (inr b) h₂ = less s₂ l₁ r₁ home₂ (omega arith) h₂
