-- Variables and occurrences written from a map.
use Prim.Native.Nat.{ℕ, ◌+◌, ◌*◌, ◌<◌, ◌≤◌}
use mathlib.Core.Path.{◌≡◌, refl, sym, ap, ◌∙◌}
use lib.Seq.{get_or-take}
use mathlib.Core.List.{List, [], ◌∷◌, ◌++◌}
use mathlib.Core.Bool.{Bool, true, false}
use native.Mathlib.Omega.{arith}
use lib.ListN.{length, get_or, drop, length-append}
use Rattle.rules.specs.declared.Failure.{Failure}
use Rattle.store.specs.declared.Written.{Written}
use Rattle.places.specs.declared.Map.{Map}
use Rattle.rules.specs.Words.{NONE, CE, VA}
use Rattle.rules.specs.Store.{Store, ◌>>=◌, push, push_cells, push_variables, push_occurrence}
use Rattle.rules.specs.Map.{Map as Pairs}
use Rattle.rules.specs.Rewrite.{Writer, write_all}
use Rattle.store.specs.Said.{Answer, store, Does, over}
use Rattle.store.specs.SaidLaws.{since_failed, bind_stops, bind_goes}
use Rattle.places.specs.Maps.{leads, places_of, map_of, side}
use Rattle.places.specs.MapsLaws.{leads_none, leads_some, places_length, places_more, places_end}
use Rattle.store.specs.EachLaws.{write_rest, bind_same, writes_all, rest_end, rest_stops, rest_goes}
use Rattle.std.specs.Prelude.{Ok, Err}
use Rattle.store.specs.Writing.{variable_of}

pub variable_from : (b : Bool) (j w : ℕ) → b ≡ true → variable_of b j w ≡ j
unfolding variable_of
variable_from b j w e = rw e

pub variable_to : (b : Bool) (j w : ℕ) → b ≡ false → variable_of b j w ≡ w
unfolding variable_of
variable_to b j w e = rw e

side_cons : (b : Bool) (j w : ℕ) (m : Pairs) → side b ((j, w) ∷ m) ≡ variable_of b j w ∷ side b m
unfolding side variable_of
side_cons true j w m = refl
side_cons false j w m = refl

side_nil : (b : Bool) → side b [] ≡ []
unfolding side
side_nil true = refl
side_nil false = refl

-- bare variables are terms written one by one
unfoldable pub bare_of : ℕ → Writer
bare_of R m d v s = push R VA v NONE s

variables_are : (R : ℕ) (vs : List ℕ) (s : Store) → push_variables R vs s ≡ write_all (bare_of R) R [] 0 vs s
unfolding push_variables write_all bare_of
variables_are R [] s = refl
variables_are R (v ∷ vs) s = bind_same (push R VA v NONE s) _ _ (λ (s₁, x). ap (◌>>= over R CE x) (variables_are R vs s₁))

-- the variables of the first i positions are written, and noted
pub record Named (R n : ℕ) (b : Bool) (m : Map) (ws₀ : List ℕ) (u₀ : ℕ) (ws ys : List ℕ) (u i : ℕ) : Type 0 where
  pub kept : length ws ≡ length ws₀
  pub room : 4 * R ≤ length ws
  pub since : n ≤ u
  pub few : length ys ≤ i
  pub within : i ≤ m.len
  pub same : (ss : List ℕ)
      → push_variables R (side b (map_of false m)) (store ws₀ ss u₀) ≡ write_rest (bare_of R) R [] 0 ys (side b (leads i (drop i (places_of m)))) (store ws ss u)

pub named-first : (R n : ℕ) (b : Bool) (m : Map) (ws : List ℕ) (u : ℕ) (ys : List ℕ) → (4 * R ≤ length ws) × (n ≤ u) → ys ≡ [] → Named R n b m ws u ws ys u 0
unfolding map_of
named-first R n b m ws u ys h e =
    rw e (record {
      kept = refl;
      room = h.0;
      since = h.1;
      few = omega arith;
      within = omega arith;
      same = λ ss. variables_are R (side b (leads 0 (places_of m))) (store ws ss u) ∙ writes_all (bare_of R) R [] 0 (side b (leads 0 (places_of m))) (store ws ss u);
    })

module _ (R n : ℕ) (b : Bool) (m : Map) (ws₀ : List ℕ) (u₀ : ℕ) (ws ys : List ℕ) (u i : ℕ) (h : Named R n b m ws₀ u₀ ws ys u i) where
  pub named_end : (ws₁ zs : List ℕ) (x : Answer) → length (places_of m) ≤ i → zs ≡ ys → Does n (push_cells R zs) ws u ws₁ x → Does n (push_variables R (side b (map_of false m))) ws₀ u₀ ws₁ x
  unfolding leads
  named_end ws₁ zs x g e q =
      let l = places_length m in
      let k : m.len ≤ i = omega arith in
      let z : side b (leads i (drop i (places_of m))) ≡ [] = rw (places_end m i k) (side_nil b) in
      record { run = λ ss. h.same ss ∙ rw z (rest_end (bare_of R) R [] 0 ys (store ws ss u)) ∙ (rw e at q.run ss); grown = q.grown }

  module _ (g : i < length (places_of m)) where
    within : i < m.len
    within = let l = places_length m in omega arith

    place : get_or (places_of m) i 0 ≡ get_or m.places i 0
    place = get_or-take m.len m.places i 0 within

    pub named_slot : length ys < 16
    named_slot = let f = m.few in let w = h.few in let l = within in omega arith

    pub named_skip : get_or (places_of m) i 0 ≡ NONE → Named R n b m ws₀ u₀ ws ys u (i + 1)
    named_skip e =
        let f = h.few in
        let z : leads i (drop i (places_of m)) ≡ leads (i + 1) (drop (i + 1) (places_of m)) = rw (places_more m i within) (leads_none i _ (drop (i + 1) (places_of m)) (sym place ∙ e)) in
        let l = within in
        record { kept = h.kept; room = h.room; since = h.since; few = omega arith; within = omega arith; same = λ ss. rw (← z) (h.same ss) }

    module _ (e : get_or (places_of m) i 0 ≡ NONE → ⊥) (v : ℕ) (is : variable_of b i (get_or (places_of m) i 0) ≡ v) where
      next : side b (leads i (drop i (places_of m))) ≡ v ∷ side b (leads (i + 1) (drop (i + 1) (places_of m)))
      next =
          rw (places_more m i within, ← place, leads_some i (get_or (places_of m) i 0) (drop (i + 1) (places_of m)) e, ← is)
          (side_cons b i (get_or (places_of m) i 0) (leads (i + 1) (drop (i + 1) (places_of m))))

      module _ (ws₁ : List ℕ) (x : Answer) (q : Does n (push R 8 v NONE) ws u ws₁ x) where
        pub named_stops : (f : Failure) (y : Answer) → x ≡ Err f → y ≡ Err f → Does n (push_variables R (side b (map_of false m))) ws₀ u₀ ws₁ y
        unfolding bare_of
        named_stops f y z o =
            rw o (record {
              run = λ ss. h.same ss ∙ rw next (rest_stops (bare_of R) R [] 0 ys v (side b (leads (i + 1) (drop (i + 1) (places_of m)))) (store ws ss u) ws₁ ss f (rw (q.run ss, z)));
              grown = since_failed _ _;
            })

        pub named-takes : (w : Written) (ys₁ : List ℕ) → x ≡ Ok w → length ws₁ ≡ length ws → ys₁ ≡ ys ++ w.root ∷ [] → Named R n b m ws₀ u₀ ws₁ ys₁ w.used (i + 1)
        unfolding bare_of
        named-takes w ys₁ z l t =
            let o = h.room in
            let f = h.few in
            let g₁ = within in
            let c : length ys₁ ≡ length ys + 1 = rw t (length-append ys (w.root ∷ [])) in
            record {
              kept = l ∙ h.kept;
              room = omega arith;
              since = q.grown.since w z;
              few = omega arith;
              within = omega arith;
              same = λ ss. h.same ss
                  ∙ rw (next, t)
                  (rest_goes (bare_of R) R [] 0 ys v (side b (leads (i + 1) (drop (i + 1) (places_of m)))) (store ws ss u) (store ws₁ ss w.used) w.root (rw (q.run ss, z)));
            }

-- an occurrence
module _ (R n h : ℕ) (vs ws : List ℕ) (u : ℕ) (ws₁ : List ℕ) (x : Answer) (p : Does n (push_variables R vs) ws u ws₁ x) where
  pub occurrence_stops : (e : Failure) (y : Answer) → x ≡ Err e → y ≡ Err e → Does n (push_occurrence R h vs) ws u ws₁ y
  unfolding push_occurrence
  occurrence_stops e y q r = bind_stops n (push_variables R vs) (over R 9 h) ws u ws₁ x p e y q r

  pub occurrence_goes : (w : Written) (ws₂ : List ℕ) (y : Answer) → x ≡ Ok w → Does n (push R 9 h w.root) ws₁ w.used ws₂ y → Does n (push_occurrence R h vs) ws u ws₂ y
  unfolding push_occurrence
  occurrence_goes w ws₂ y q r = bind_goes n (push_variables R vs) (over R 9 h) ws u ws₁ x p w ws₂ y q r
