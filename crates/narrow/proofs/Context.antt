-- The entries are noted position by position, and their cells are the context of the rules.
use Prim.Native.Nat.{ℕ, suc, ◌+◌, ◌*◌, ◌<◌, ◌≤◌}
use mathlib.Core.Path.{◌≡◌, refl, sym, ap, ◌∙◌}
use mathlib.Core.List.{List, [], ◌∷◌, ◌++◌, map, append-nil, append_assoc}
use mathlib.Core.Bool.{true, false}
use native.Mathlib.Omega.{arith}
use native.Mathlib.Decide.{ℕ_discrete}
use lib.ListN.{length, get_or, drop, length-append}
use lib.Seq.{drop-drop, get_or-drop, get_or-take}
use lib.Dec.{eqb}
use borrow.Author.Tests.{eq-eqb, ne_eqb}
use Rattle.table.specs.declared.Record.{Record}
use Rattle.places.specs.declared.Map.{Map}
use Rattle.table.specs.Reading.{IsRecord}
use Rattle.rules.specs.Words.{NONE, elements}
use Rattle.rules.specs.Store.{push_cells}
use Rattle.rules.specs.Map.{Map as Pairs, sources}
use Rattle.laws.specs.Lists.{Listed, elements_none, elements_cell}
use Rattle.store.specs.Said.{Answer, Does}
use Rattle.places.specs.Maps.{leads, places_of, map_of, side}
use Rattle.places.specs.MapsLaws.{leads_none, leads_some, places_length, places_more, places_end}
use Rattle.places.specs.ListsLaws.{to_cell, to_rest}
use Rattle.narrow.specs.Context.{contexts, Choosing}

-- the elements whose positions have a place
unfoldable pub placed : List ℕ → List ℕ → List ℕ
placed [] xs = []
placed (w ∷ ws) [] = []
placed (w ∷ ws) (x ∷ xs) = elim (eqb w NONE) [ true ↦ placed ws xs | false ↦ x ∷ placed ws xs ]

placed_none : (w : ℕ) (ws : List ℕ) (x : ℕ) (xs : List ℕ) → w ≡ NONE → placed (w ∷ ws) (x ∷ xs) ≡ placed ws xs
unfolding placed
placed_none w ws x xs e = rw (eq-eqb _ _ e, placed)

placed_some : (w : ℕ) (ws : List ℕ) (x : ℕ) (xs : List ℕ) → (w ≡ NONE → ⊥) → placed (w ∷ ws) (x ∷ xs) ≡ x ∷ placed ws xs
unfolding placed
placed_some w ws x xs n = rw (ne_eqb _ _ n, placed)

-- they are the elements at the positions that the map leads from
placed_are : (zs : List ℕ) (j : ℕ) (ws xs : List ℕ) → length xs ≡ length ws → drop j zs ≡ xs → map (λ k. get_or zs k 0) (sources (leads j ws)) ≡ placed ws xs
unfolding leads placed
placed_are zs j [] xs e d = refl
placed_are zs j (w ∷ ws) [] e d = absurd (omega arith)
placed_are zs j (w ∷ ws) (x ∷ xs) e d = go (ℕ_discrete w NONE) (placed_are zs (j + 1) ws xs (omega arith) rest)
  where
    rest : drop (j + 1) zs ≡ xs
    rest = sym (drop-drop 1 j zs) ∙ ap (λ (l : List ℕ). drop 1 l) d

    here : get_or zs j 0 ≡ x
    here = let z : j + 0 ≡ j = omega arith in (rw z at (sym (get_or-drop j zs 0 0))) ∙ ap (λ (l : List ℕ). get_or l 0 0) d

    go : Dec (w ≡ NONE) → map (λ k. get_or zs k 0) (sources (leads (j + 1) ws)) ≡ placed ws xs → map (λ k. get_or zs k 0) (sources (leads j (w ∷ ws))) ≡ placed (w ∷ ws) (x ∷ xs)
    go (yes q) ih = ap (λ (m : Pairs). map (λ k. get_or zs k 0) (sources m)) (leads_none j w ws q) ∙ ih ∙ sym (placed_none w ws x xs q)
    go (no q) ih = ap (λ (m : Pairs). map (λ k. get_or zs k 0) (sources m)) (leads_some j w ws q) ∙ rw (here, ih) (sym (placed_some w ws x xs q))

-- the entries at the first i positions are noted
pub record Chosen (ws : List ℕ) (l : ℕ) (m : Map) (ys : List ℕ) (i at : ℕ) : Type 0 where
  pub list : Listed ws at
  pub few : length ys ≤ i
  pub arity : i + length (elements ws at) ≡ m.len
  pub same : ys ++ placed (drop i (places_of m)) (elements ws at) ≡ placed (places_of m) (elements ws l)

module _ (ws : List ℕ) (n u R l : ℕ) (m : Map) (c : Choosing ws n u R l m) where
  module _ (ys : List ℕ) (i at : ℕ) (h : Chosen ws l m ys i at) where
    pub chosen_end : (ws₁ zs : List ℕ) (x : Answer) → length (places_of m) ≤ i → zs ≡ ys → Does n (push_cells R zs) ws u ws₁ x
        → Does n (push_cells R (contexts ws l (side true (map_of false m)))) ws u ws₁ x
    unfolding map_of side placed
    chosen_end ws₁ zs x g e q =
        let le = places_length m in
        let ar = c.arity in
        let k : m.len ≤ i = omega arith in
        let z : ys ≡ placed (places_of m) (elements ws l) = sym (append-nil ys) ∙ (rw (places_end m i k) at h.same) in
        let y : contexts ws l (sources (leads 0 (places_of m))) ≡ zs = placed_are (elements ws l) 0 (places_of m) (elements ws l) (omega arith) refl ∙ sym z ∙ sym e in
        rw y q

    module _ (g : i < length (places_of m)) where
      within : i < m.len
      within = let l = places_length m in omega arith

      place : get_or (places_of m) i 0 ≡ get_or m.places i 0
      place = get_or-take m.len m.places i 0 within

      -- the context has not ended
      more : at ≡ NONE → ⊥
      more e = let z : length (elements ws at) ≡ 0 = rw (elements_none ws at e) in let a = h.arity in let k = within in omega arith

      pub chosen_read : 4 * at + 3 < length ws
      chosen_read = to_cell ws at more h.list

      module _ (w : Record) (e : IsRecord ws at w) where
        cell : elements ws at ≡ w.a ∷ elements ws w.b
        cell = rw (e.a_is, e.b_is) (elements_cell ws at more h.list)

        arity_rest : (i + 1) + length (elements ws w.b) ≡ m.len
        arity_rest = let a = h.arity in let z : length (elements ws at) ≡ suc (length (elements ws w.b)) = rw cell in omega arith

        pub chosen_skip : get_or (places_of m) i 0 ≡ NONE → Chosen ws l m ys (i + 1) w.b
        chosen_skip q =
            let f = h.few in
            let z : placed (drop i (places_of m)) (elements ws at) ≡ placed (drop (i + 1) (places_of m)) (elements ws w.b) = rw (places_more m i within, cell) (placed_none _ _ _ _ (sym place ∙ q)) in
            record { list = to_rest ws at w more e h.list; few = omega arith; arity = arity_rest; same = rw (← z) h.same }

        pub chosen_takes : (ys₁ : List ℕ) → (get_or (places_of m) i 0 ≡ NONE → ⊥) → ys₁ ≡ ys ++ w.a ∷ [] → Chosen ws l m ys₁ (i + 1) w.b
        chosen_takes ys₁ q t =
            let f = h.few in
            let k : length ys₁ ≡ length ys + 1 = rw t (length-append ys (w.a ∷ [])) in
            let z : placed (drop i (places_of m)) (elements ws at) ≡ w.a ∷ placed (drop (i + 1) (places_of m)) (elements ws w.b) =
            rw (places_more m i within, ← place, cell) (placed_some _ _ _ _ q) in
            record {
              list = to_rest ws at w more e h.list;
              few = omega arith;
              arity = arity_rest;
              same = rw (t, append_assoc ys (w.a ∷ []), ← z) h.same;
            }
