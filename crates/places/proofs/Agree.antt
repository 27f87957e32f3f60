-- Two lists of arguments compared position by position.
use Prim.Native.Nat.{ℕ, suc, ◌+◌, ◌<◌, ◌≤◌}
use mathlib.Core.Path.{◌≡◌, refl, sym, ap, ◌∙◌}
use mathlib.Core.List.{List, [], ◌∷◌, map}
use native.Mathlib.Omega.{arith}
use native.Mathlib.Decide.{ℕ_discrete}
use native.Mathlib.Numerals.{add-one}
use Rattle.std.specs.Prelude.{◌⊎◌}
use Rattle.std.proofs.Common.{inl, inr}
use Rattle.std.proofs.lemmas.List.{nil_from_length}
use lib.ListN.{length, get_or, drop}
use lib.Seq.{drop-cons, drop-drop, get_or-drop}
use borrow.Author.Tests.{eq-eqb, ne_eqb}
use Rattle.places.specs.declared.Map.{Map}
use Rattle.rules.specs.Words.{NONE, field_a, elements}
use Rattle.rules.specs.Map.{Map as Pairs, sources}
use Rattle.rules.specs.Machine.{agreeing}
use Rattle.places.specs.Maps.{leads, map_of, Unplaced, Pushed}
use Rattle.places.specs.MapsLaws.{leads_none, leads_some}
use Rattle.places.specs.FillingLaws.{fill, Filling, filling-first, filling_room, filling-more, filling_end}
use Rattle.places.specs.Agree.{Comparing, Agrees, agreed}

pub agreed_same : (j x y : ℕ) → x ≡ y → agreed j x y ≡ j
unfolding agreed
agreed_same j x y e = rw (eq-eqb _ _ e, agreed)

pub agreed_not : (j x y : ℕ) → (x ≡ y → ⊥) → agreed j x y ≡ NONE
unfolding agreed
agreed_not j x y n = rw (ne_eqb _ _ n, agreed)

-- what is filled in for a list along the elements rs
abbrev pub agree_at : List ℕ → List ℕ → ℕ → ℕ → ℕ
agree_at ws rs j x = agreed j (field_a ws x) (field_a ws (get_or rs j 0))

leads-agreeing : (ws rs : List ℕ) (j : ℕ) (xs : List ℕ) → j + length xs ≡ length rs → j + length xs ≤ 16
    → sources (leads j (fill (agree_at ws rs) j xs)) ≡ agreeing j (map (λ x. field_a ws x) xs) (map (λ y. field_a ws y) (drop j rs))
unfolding leads fill agreeing
leads-agreeing ws rs j [] e h = refl
leads-agreeing ws rs j (x ∷ xs) e h = go (ℕ_discrete (field_a ws x) (field_a ws (get_or rs j 0))) (leads-agreeing ws rs (j + 1) xs (omega arith) (omega arith))
  where
    at_j : drop j rs ≡ get_or rs j 0 ∷ drop (j + 1) rs
    at_j = let k : j < length rs = omega arith in rw (add-one j, drop-cons rs j 0 k)

    go : Dec (field_a ws x ≡ field_a ws (get_or rs j 0))
        → sources (leads (j + 1) (fill (agree_at ws rs) (j + 1) xs)) ≡ agreeing (j + 1) (map (λ y. field_a ws y) xs) (map (λ y. field_a ws y) (drop (j + 1) rs))
        → sources (leads j (fill (agree_at ws rs) j (x ∷ xs))) ≡ agreeing j (field_a ws x ∷ map (λ y. field_a ws y) xs) (map (λ y. field_a ws y) (drop j rs))
    go (yes q) ih =
        let s = agreed_same j (field_a ws x) (field_a ws (get_or rs j 0)) q in
        let n : agree_at ws rs j x ≡ NONE → ⊥ = omega arith in
        ap (λ (m : Pairs). sources m) (leads_some j (agree_at ws rs j x) (fill (agree_at ws rs) (j + 1) xs) n) ∙ rw (at_j, eq-eqb _ _ q, agreeing, ih)
    go (no q) ih =
        let s = agreed_not j (field_a ws x) (field_a ws (get_or rs j 0)) q in
        ap (λ (m : Pairs). sources m) (leads_none j (agree_at ws rs j x) (fill (agree_at ws rs) (j + 1) xs) s) ∙ rw (at_j, ne_eqb _ _ q, agreeing, ih)

-- while comparing: the left list is filled in, and the right list goes along
pub record Along (ws ls rs : List ℕ) (m : Map) (xs ys : List ℕ) : Type 0 where
  pub fills : Filling (agree_at ws rs) ls m xs
  pub rest : ys ≡ drop m.len rs
  pub alike : length xs ≡ length ys

pub along_first : (ws : List ℕ) (left right : ℕ) (m : Map) → Comparing ws left right → Unplaced m → Along ws (elements ws left) (elements ws right) m (elements ws left) (elements ws right)
along_first ws left right m h e = record { fills = filling-first (agree_at ws (elements ws right)) (elements ws left) m h.left.few e; rest = rw e.len; alike = h.alike }

pub along_end : (ws : List ℕ) (left right : ℕ) (m : Map) (xs ys : List ℕ) → Along ws (elements ws left) (elements ws right) m xs ys → (xs ≡ []) ⊎ (ys ≡ []) → Comparing ws left right → Agrees ws left right m
unfolding map_of
along_end ws left right m xs ys h e c =
    let none : xs ≡ [] = elim e [ inl p ↦ p | inr p ↦ nil_from_length xs (h.alike ∙ ap length p) ] in
    let f = filling_end (agree_at ws (elements ws right)) (elements ws left) m xs h.fills none in
    let k = c.left.few in
    let a = c.alike in
    record { run = rw f.places (leads-agreeing ws (elements ws right) 0 (elements ws left) (omega arith) (omega arith)); len = f.len }

module _ (ws ls rs : List ℕ) (m : Map) (xs ys : List ℕ) (h : Along ws ls rs m xs ys) (x : ℕ) (xs₁ : List ℕ) (e : xs ≡ x ∷ xs₁) where
  pub along_room : m.len < 16
  along_room = filling_room (agree_at ws rs) ls m xs h.fills x xs₁ e

  pub along_more : (y : ℕ) (ys₁ : List ℕ) → ys ≡ y ∷ ys₁ → (p q v : ℕ) (m₁ : Map) → field_a ws x ≡ p → field_a ws y ≡ q → agreed m.len p q ≡ v → Pushed m v m₁ → Along ws ls rs m₁ xs₁ ys₁
  along_more y ys₁ f p q v m₁ a b s z₁ =
      let k : drop m.len rs ≡ y ∷ ys₁ = sym h.rest ∙ f in
      let t : drop (m.len + 1) rs ≡ ys₁ = sym (drop-drop 1 m.len rs) ∙ ap (λ (z : List ℕ). drop 1 z) k in
      let z : m.len + 0 ≡ m.len = omega arith in
      let g : get_or rs m.len 0 ≡ y = (rw z at (sym (get_or-drop m.len rs 0 0))) ∙ ap (λ (u : List ℕ). get_or u 0 0) k in
      let al : suc (length xs₁) ≡ suc (length ys₁) = sym (ap length e) ∙ h.alike ∙ ap length f in
      record { fills = filling-more (agree_at ws rs) ls m xs h.fills x xs₁ e v m₁ (rw (g, a, b) s) z₁; rest = rw z₁.len (sym t); alike = omega arith }
