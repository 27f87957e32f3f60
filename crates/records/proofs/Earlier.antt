-- Types are new: equal types have equal b, so a search goes down one chain.
use Prim.Native.Nat.{ℕ, zero, suc, ◌+◌, ◌-◌, ◌*◌, ◌<◌, ◌≤◌}
use mathlib.Core.Path.{◌≡◌, refl, sym, ap, ◌∙◌}
use mathlib.Core.Bool.{Bool, true, false, not}
use mathlib.Core.List.{List}
use native.Mathlib.Omega.{arith}
use native.Mathlib.Numerals.{add-one}
use native.Mathlib.Decide.{ℕ_discrete}
use borrow.Author.Tests.{eq-eqb, ne_eqb, eqb-true}
use lib.ListN.{length, get_or, set, length-set}
use lib.Seq.{get_or-set_same, get_or-set_other}
use lib.Dec.{eqb}
use Rattle.rules.specs.Lists.{both, either, all, from, below}
use Rattle.rules.specs.Words.{tag, field_a, field_b, has, is_type}
use Rattle.rules.specs.Records.{new_type}
use Rattle.laws.specs.Tests.{false_true, both_true, both-alone}
use Rattle.table.specs.declared.Record.{Record}
use Rattle.table.specs.Reading.{IsRecord}
use Rattle.records.specs.Chains.{equals, latest, Chains, ChainAsks, ChainSays}
use Rattle.records.proofs.Joined.{all-below}

-- Two records of a chain

module _ (ws : List ℕ) (j : ℕ) (x : Record) where
  pub equals-tag : (t : ℕ) → t ≡ tag ws j → (t ≡ x.tag → ⊥) → eqb t x.tag ≡ equals ws j x
  unfolding equals both
  equals-tag t e n = rw (← e, ne_eqb _ _ n)

  pub equals-a : tag ws j ≡ x.tag → (a : ℕ) → a ≡ field_a ws j → eqb a x.a ≡ equals ws j x
  unfolding equals both
  equals-a k a e = rw (eq-eqb _ _ k, e)

-- record j differs from record r
unfoldable pub differs : List ℕ → ℕ → ℕ → Bool
differs ws r j = not (both (has ws j (tag ws r)) (both (eqb (field_a ws j) (field_a ws r)) (eqb (field_b ws j) (field_b ws r))))

-- of one chain only the tag and a can differ
differs_is : (ws : List ℕ) (r j : ℕ) (x : Record) → IsRecord ws r x → eqb (field_b ws j) (field_b ws r) ≡ true → differs ws r j ≡ not (equals ws j x)
unfolding differs equals has
differs_is ws r j x i e = rw (i.tag_is, i.a_is, e, both-alone (eqb (field_a ws j) (field_a ws r)))

module _ (ws : List ℕ) (r j : ℕ) where
  kind-differs : is_type ws r ≡ true → is_type ws j ≡ false → differs ws r j ≡ true
  unfolding differs has both
  kind-differs e n = rw (ne_eqb (tag ws j) (tag ws r) (λ q. false_true (sym n ∙ kind q ∙ e)))
    where
      kind : tag ws j ≡ tag ws r → is_type ws j ≡ is_type ws r
      kind q = unfold is_type in rw q

  key_differs : eqb (field_b ws j) (field_b ws r) ≡ false → differs ws r j ≡ true
  unfolding differs
  key_differs n = rw n (no_third (has ws j (tag ws r)) (eqb (field_a ws j) (field_a ws r)))
    where
      no_third : (h a : Bool) → not (both h (both a false)) ≡ true
      no_third true true = unfold both in refl
      no_third true false = unfold both in refl
      no_third false a = unfold both in refl

  other_differs : is_type ws r ≡ true → both (is_type ws j) (eqb (field_b ws j) (field_b ws r)) ≡ false → differs ws r j ≡ true
  other_differs e n = go (is_type ws j) refl
    where
      go : (t : Bool) → is_type ws j ≡ t → differs ws r j ≡ true
      go true q = key_differs (unfold both in (rw (q, both) at n))
      go false q = kind-differs e q

-- The latest type with a b

module _ (ws : List ℕ) (b : ℕ) where
  latest_yes : (i : ℕ) → both (is_type ws i) (eqb (field_b ws i) b) ≡ true → latest ws b (suc i) ≡ suc i
  unfolding latest
  latest_yes i q = rw (q, latest)

  latest_no : (i : ℕ) → both (is_type ws i) (eqb (field_b ws i) b) ≡ false → latest ws b (suc i) ≡ latest ws b i
  unfolding latest
  latest_no i q = rw (q, latest)

  latest_low : (i : ℕ) → latest ws b i ≤ i
  latest_low zero = unfold latest in omega arith
  latest_low (suc i) = go (both (is_type ws i) (eqb (field_b ws i) b)) refl (latest_low i)
    where
      go : (t : Bool) → both (is_type ws i) (eqb (field_b ws i) b) ≡ t → latest ws b i ≤ i → latest ws b (suc i) ≤ suc i
      go true q h = rw (latest_yes i q) (omega arith)
      go false q h = rw (latest_no i q) (omega arith)

  latest-own : (i : ℕ) → latest ws b (latest ws b i) ≡ latest ws b i
  latest-own zero = unfold latest in refl
  latest-own (suc i) = go (both (is_type ws i) (eqb (field_b ws i) b)) refl (latest-own i)
    where
      go : (t : Bool) → both (is_type ws i) (eqb (field_b ws i) b) ≡ t → latest ws b (latest ws b i) ≡ latest ws b i → latest ws b (latest ws b (suc i)) ≡ latest ws b (suc i)
      go true q h = ap (latest ws b) (latest_yes i q)
      go false q h = rw (latest_no i q) h

  latest_member : (i : ℕ) → latest ws b (suc i) ≡ suc i → both (is_type ws i) (eqb (field_b ws i) b) ≡ true
  latest_member i e = go (both (is_type ws i) (eqb (field_b ws i) b)) refl
    where
      go : (t : Bool) → both (is_type ws i) (eqb (field_b ws i) b) ≡ t → both (is_type ws i) (eqb (field_b ws i) b) ≡ true
      go true q = q
      go false q = let h = latest_low i in let z = sym (latest_no i q) ∙ e in absurd (omega arith)

-- no type above the latest equals record r
latest-all : (ws : List ℕ) (r : ℕ) → is_type ws r ≡ true → (i : ℕ) → all (differs ws r) (below i) ≡ all (differs ws r) (below (latest ws (field_b ws r) i))
latest-all ws r e zero = unfold latest in refl
latest-all ws r e (suc i) = go (both (is_type ws i) (eqb (field_b ws i) (field_b ws r))) refl (latest-all ws r e i)
  where
    go : (t : Bool) → both (is_type ws i) (eqb (field_b ws i) (field_b ws r)) ≡ t → all (differs ws r) (below i) ≡ all (differs ws r) (below (latest ws (field_b ws r) i))
        → all (differs ws r) (below (suc i)) ≡ all (differs ws r) (below (latest ws (field_b ws r) (suc i)))
    go true q h = rw (latest_yes ws (field_b ws r) i q)
    go false q h = rw (latest_no ws (field_b ws r) i q, all-below (differs ws r) i, other_differs ws r i e q) (unfold both in h)

-- The chains

pub chains_other : (ws la be : List ℕ) (r : ℕ) → is_type ws r ≡ false → Chains la be ws r → Chains la be ws (r + 1)
chains_other ws la be r e p = record {
  last = λ b h. p.last b h ∙ rw add-one (sym (latest_no ws b r (unfold both in rw e)));
  before = λ j h t. p.before j (lower j t h) t;
}
  where
    lower : (j : ℕ) → is_type ws j ≡ true → j < r + 1 → j < r
    lower j t h = go (ℕ_discrete j r)
      where
        go : Dec (j ≡ r) → j < r
        go (yes q) = absurd (false_true (sym e ∙ ap (is_type ws) (sym q) ∙ t))
        go (no q) = omega arith

chains_next : (ws la be : List ℕ) (r : ℕ) (k t : ℕ) → is_type ws r ≡ true → k ≡ field_b ws r → k < length la → r < length be → t ≡ get_or la k 0
    → Chains la be ws r → Chains (set la k (r + 1)) (set be r t) ws (r + 1)
chains_next ws la be r k t e ek hk hr et p = record {
  last = λ b h. newest b (ℕ_discrete b k) (simp length-set at h);
  before = λ j h y. older j (ℕ_discrete j r) h y;
}
  where
    newest : (b : ℕ) → Dec (b ≡ k) → b < length la → get_or (set la k (r + 1)) b 0 ≡ latest ws b (r + 1)
    newest b (yes q) h =
        let own : both (is_type ws r) (eqb (field_b ws r) b) ≡ true = unfold both in rw (e, eq-eqb (field_b ws r) b (sym (q ∙ ek))) in
        ap (λ i. get_or (set la k (r + 1)) i 0) q ∙ get_or-set_same la k (r + 1) 0 hk ∙ rw add-one (sym (latest_yes ws b r own))
    newest b (no q) h =
        let other : both (is_type ws r) (eqb (field_b ws r) b) ≡ false = unfold both in rw (e, ne_eqb (field_b ws r) b (λ z. q (sym z ∙ sym ek))) in
        get_or-set_other la k b (r + 1) 0 q ∙ p.last b h ∙ rw add-one (sym (latest_no ws b r other))

    older : (j : ℕ) → Dec (j ≡ r) → j < r + 1 → is_type ws j ≡ true → get_or (set be r t) j 0 ≡ latest ws (field_b ws j) j
    older j (yes q) h y = rw q (get_or-set_same be r t 0 hr ∙ et ∙ p.last k hk ∙ rw ek)
    older j (no q) h y = get_or-set_other be r j t 0 q ∙ p.before j (omega arith) y

-- A search down a chain

-- what is left of the search for an equal of record r at j: the types below it, the one before j first
pub record Searched (ws : List ℕ) (r j : ℕ) : Type 0 where
  pub low : j ≤ r
  pub own : latest ws (field_b ws r) j ≡ j
  pub left : new_type ws r ≡ all (differs ws r) (below j)

module _ (ws : List ℕ) (r : ℕ) where
  pub new_other : is_type ws r ≡ false → new_type ws r ≡ true
  unfolding new_type either
  new_other e = rw e

  new_is : is_type ws r ≡ true → new_type ws r ≡ all (differs ws r) (below r)
  unfolding new_type either differs
  new_is e = rw e

module _ (ws la be : List ℕ) (r : ℕ) (p : ChainAsks ws la be r) (x : Record) (w : IsRecord ws r x) where
  pub key_low : x.b < length la
  key_low = let k = p.key in let h = p.room_last in let e = w.b_is in omega arith

  pub key_few : x.b < 4096
  key_few = let k = p.key in let f = p.few in let e = w.b_is in omega arith

  top_is : get_or la x.b 0 ≡ latest ws (field_b ws r) r
  top_is = p.known.last x.b key_low ∙ ap (λ b. latest ws b r) w.b_is

  pub search_start : Searched ws r (get_or la x.b 0)
  search_start = rw top_is (record {
    low = latest_low ws (field_b ws r) r;
    own = latest-own ws (field_b ws r) r;
    left = new_is ws r p.type ∙ latest-all ws r p.type r;
  })

  module _ (j : ℕ) (s : Searched ws r j) (n : j ≡ 0 → ⊥) where
    one_less : j ≡ suc (j - 1)
    one_less = omega arith

    at_low : j - 1 < r
    at_low = let l = s.low in omega arith

    pub at_few : j - 1 < 4096
    at_few = let l = at_low in let f = p.few in omega arith

    pub at_inside : 4 * (j - 1) + 3 < length ws
    at_inside = let l = at_low in let i = p.inside in omega arith

    pub at_room : j - 1 < length be
    at_room = let l = at_low in let h = p.room_before in omega arith

    member : both (is_type ws (j - 1)) (eqb (field_b ws (j - 1)) (field_b ws r)) ≡ true
    member = latest_member ws (field_b ws r) (j - 1) (rw one_less at s.own)

    before_is : get_or be (j - 1) 0 ≡ latest ws (field_b ws r) (j - 1)
    before_is = let m = both_true _ _ member in p.known.before (j - 1) at_low m.0 ∙ ap (λ k. latest ws k (j - 1)) (eqb-true _ _ m.1)

    pub search_falls : get_or be (j - 1) 0 < j
    search_falls = let e = before_is in let l = latest_low ws (field_b ws r) (j - 1) in omega arith

    module _ (b : Bool) (eb : b ≡ equals ws (j - 1) x) where
      step : new_type ws r ≡ both (not b) (all (differs ws r) (below (j - 1)))
      step = s.left ∙ ap (λ i. all (differs ws r) (below i)) one_less ∙ all-below (differs ws r) (j - 1) ∙ rw (differs_is ws r (j - 1) x w (both_true _ _ member).1, ← eb)

      pub search_stop : b ≡ true → ChainSays ws la be r false
      search_stop t = record { answer = sym (step ∙ unfold both in rw t); next = λ q. absurd (false_true q) }

      pub search_on : b ≡ false → Searched ws r (get_or be (j - 1) 0)
      search_on t = rw before_is (record {
        low = let l = latest_low ws (field_b ws r) (j - 1) in let h = at_low in omega arith;
        own = latest-own ws (field_b ws r) (j - 1);
        left = passed ∙ latest-all ws r p.type (j - 1);
      })
        where
          passed : new_type ws r ≡ all (differs ws r) (below (j - 1))
          passed = step ∙ (unfold both in rw t)

  pub search_end : (j : ℕ) → Searched ws r j → j ≡ 0 → ChainSays ws (set la x.b (r + 1)) (set be r (get_or la x.b 0)) r true
  search_end j s z = record {
    answer = sym (s.left ∙ ap (λ i. all (differs ws r) (below i)) z ∙ (unfold below in unfold from in unfold all in refl));
    next = λ _. chains_next ws la be r x.b (get_or la x.b 0) p.type w.b_is key_low p.room_before refl p.known;
  }
