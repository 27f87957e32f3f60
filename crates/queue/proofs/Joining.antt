-- What joining does to a ring.
use Prim.Native.Nat.{ℕ, zero, suc, ◌+◌, ◌-◌, ◌*◌, ◌<◌, ◌≤◌}
use mathlib.Core.Path.{◌≡◌, refl, sym, subst, ◌∙◌}
use mathlib.Core.List.{List, [], ◌∷◌, ◌++◌, append-nil, append_assoc}
use mathlib.Core.Logic.{◌⊎◌, inl, inr}
use native.Mathlib.Omega.{arith}
use native.Mathlib.Numerals.{add-one}
use lib.ListN.{length, get_or, set, length-set}
use lib.Seq.{get_or-set_other, get_or-set_same}
use Rattle.std.specs.Prelude.{Ok, Err}
use Rattle.rules.specs.declared.Failure.TheVariants.{QueueFull}
use Rattle.rules.specs.Machine.{Pair as Waiting}
use Rattle.queue.specs.declared.Ring.{Ring}
use Rattle.queue.specs.Ring.{wrap, from, view, Fine, Wraps, Roomy, Joins, Queued}
use Rattle.queue.specs.RingLaws.{wrap_in, wrap_out, wrap_after}

-- place `at` is k places after h, round the ring
abbrev After : ℕ → ℕ → ℕ → ℕ → Type 0
After cap h k at = (h + k ≡ at) ⊎ (h + k ≡ at + cap)

after_next : (cap h j at : ℕ) → h < cap → at < cap → After cap h (suc j) at → After cap (wrap cap (h + 1)) j at
after_next cap h j at hc ac a = let w = wrap_after cap (h + 1) (omega arith) in go a w.1
  where
    go : After cap h (suc j) at → (h + 1 ≡ wrap cap (h + 1)) ⊎ (h + 1 ≡ wrap cap (h + 1) + cap) → After cap (wrap cap (h + 1)) j at
    go (inl e) (inl f) = inl (omega arith)
    go (inr e) (inl f) = inr (omega arith)
    go (inl e) (inr f) = absurd (omega arith)
    go (inr e) (inr f) = inl (omega arith)

apart : (cap h j at : ℕ) → suc j < cap → After cap h (suc j) at → h ≡ at → ⊥
apart cap h j at lt (inl e) z = omega arith
apart cap h j at lt (inr e) z = omega arith

module _ (q : List ℕ) (cap at l r : ℕ) (inside : 2 * cap ≤ length q) (below : at < cap) where
  abbrev q' : List ℕ
  q' = set (set q (2 * at) l) (2 * at + 1) r

  here_0 : get_or q' (2 * at) 0 ≡ l
  here_0 =
      let n : 2 * at ≡ 2 * at + 1 → ⊥ = omega arith in
      let b : 2 * at < length q = omega arith in
      simp (get_or-set_other, get_or-set_same)

  here_1 : get_or q' (2 * at + 1) 0 ≡ r
  here_1 = let b : 2 * at + 1 < length (set q (2 * at) l) = simp length-set (omega arith) in simp get_or-set_same

  there : (i : ℕ) → (i ≡ 2 * at → ⊥) → (i ≡ 2 * at + 1 → ⊥) → get_or q' i 0 ≡ get_or q i 0
  there i m n = simp get_or-set_other

  joined : (k h : ℕ) → k < cap → h < cap → After cap h k at → from q' cap h (suc k) ≡ from q cap h k ++ ((l, r) ∷ [])
  unfolding from
  joined zero h lt hc (inl e) = let z : h ≡ at = omega arith in rw (z, here_0, here_1)
  joined zero h lt hc (inr e) = absurd (omega arith)
  joined (suc j) h lt hc a =
      let n = apart cap h j at lt a in
      let w = (wrap_after cap (h + 1) (omega arith)).0 in
      let e₀ = there (2 * h) (λ e. n (omega arith)) (λ e. omega arith) in
      let e₁ = there (2 * h + 1) (λ e. omega arith) (λ e. n (omega arith)) in
      let ih = joined j (wrap cap (h + 1)) (omega arith) w (after_next cap h j at hc below a) in
      λ i. (e₀ i, e₁ i) ∷ ih i

pub wraps_in : (cap x : ℕ) → x < cap → Wraps cap x x
wraps_in cap x h = record { is = wrap_in cap x h; low = h }

pub wraps_out : (cap x : ℕ) → cap ≤ x → x < cap + cap → Wraps cap x (x - cap)
wraps_out cap x h g = record { is = wrap_out cap x h; low = omega arith }

pub queued_full : (q : List ℕ) (g : Ring) (new : List Waiting) (q₁ : List ℕ) → g.cap < g.count + length new → Queued q g new q₁ (Err QueueFull)
queued_full q g new q₁ h = record { full = λ e z. (let y : QueueFull ≡ e = cc in sym y, h); to = λ g₁ z. let y : ◌≡◌ {A = ℕ} 0 1 = cc in absurd (omega arith) }

pub queued_to : (q : List ℕ) (g : Ring) (new : List Waiting) (q₁ : List ℕ) (g₁ : Ring) → Joins q g new q₁ g₁ → Queued q g new q₁ (Ok g₁)
queued_to q g new q₁ g₁ j = record { full = λ e z. let y : ◌≡◌ {A = ℕ} 0 1 = cc in absurd (omega arith); to = λ g₂ z. let y : g₁ ≡ g₂ = cc in subst (λ g₂. Joins q g new q₁ g₂) y j }

pub joins_none : (q : List ℕ) (g : Ring) → Fine q g → Joins q g [] q g
joins_none q g f = record { same = refl; fine = f; counted = omega arith; seen = sym (append-nil _) }

pub joins_more : (q : List ℕ) (g : Ring) (p : Waiting) (new : List Waiting) (q₁ : List ℕ) (g₁ : Ring) (q₂ : List ℕ) (g₂ : Ring)
    → Joins q g (p ∷ []) q₁ g₁ → Joins q₁ g₁ new q₂ g₂ → Joins q g (p ∷ new) q₂ g₂
joins_more q g p new q₁ g₁ q₂ g₂ a b =
    let c = a.counted in
    let d = b.counted in
    record { same = b.same ∙ a.same; fine = b.fine; counted = omega arith; seen = b.seen ∙ rw a.seen (append_assoc (view q g) (p ∷ []) new) }

module _ (q : List ℕ) (g : Ring) (h : Roomy q g 1) where
  -- the place after the last pair is one round the ring
  pub roomy_place : g.head + g.count < g.cap + g.cap
  roomy_place = let r = h.room in let i = g.inside in omega arith

  pub joins_at : (l r at : ℕ) (g₁ : Ring) → Wraps g.cap (g.head + g.count) at → g₁.cap ≡ g.cap → g₁.head ≡ g.head → g₁.count ≡ g.count + 1
      → Joins q g ((l, r) ∷ []) (set (set q (2 * at) l) (2 * at + 1) r) g₁
  unfolding view
  joins_at l r at g₁ e c d n =
      let i = e.is in
      let room = h.room in
      let head = g.inside in
      let w = wrap_after g.cap (g.head + g.count) roomy_place in
      let b : at < g.cap = rw i at w.0 in
      let a : After g.cap g.head g.count at = rw i at w.1 in
      record {
        same = c;
        fine = rw c (simp length-set h.fine);
        counted = omega arith;
        seen = rw (c, d, n, add-one g.count) (joined q g.cap at l r h.fine b g.count g.head (omega arith) (omega arith) a);
      }
