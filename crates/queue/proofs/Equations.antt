-- The equations that were noted, entered in order.
use Prim.Native.Nat.{ℕ, ◌+◌, ◌*◌, ◌<◌, ◌≤◌}
use mathlib.Core.Path.{◌≡◌, sym, ap, subst, ◌∙◌}
use mathlib.Core.List.{List, [], ◌∷◌, map-append}
use native.Mathlib.Omega.{arith}
use native.Mathlib.Numerals.{add-one}
use lib.ListN.{length, get_or, take, length-map}
use lib.Seq.{take-suc, take-length}
use Rattle.std.specs.Prelude.{Ok, Err}
use Rattle.rules.specs.declared.Failure.TheVariants.{QueueFull}
use Rattle.table.specs.declared.Record.{Record}
use Rattle.table.specs.Reading.{IsRecord}
use Rattle.queue.specs.declared.Ring.{Ring}
use Rattle.queue.specs.Ring.{Fine, Roomy, view, Joins}
use Rattle.queue.specs.RingLaws.{view_none}
use Rattle.queue.specs.Equations.{sides, sides_of, Entering, Alone, Enters}

-- while entering: the first i of those that are gone over wait, and these are all the equations
pub record Entered (ws : List ℕ) (cap : ℕ) (es xs : List ℕ) (i : ℕ) (q : List ℕ) (g : Ring) : Type 0 where
  pub all : xs ≡ es
  pub within : i ≤ length xs
  pub few : length xs ≤ cap
  pub same : g.cap ≡ cap
  pub fine : Fine q g
  pub counted : g.count ≡ i
  pub seen : view q g ≡ sides_of ws (take i xs)

module _ (ws q₀ : List ℕ) (cap : ℕ) (es : List ℕ) (p : Entering ws q₀ cap es) where
  sides_long : length (sides_of ws es) ≡ length es
  unfolding sides_of
  sides_long = length-map es (sides ws)

  pub entered_full : cap < length es → Enters cap (sides_of ws es) q₀ (Err QueueFull)
  entered_full lt = let l = sides_long in record { full = λ e z. (let y : QueueFull ≡ e = cc in sym y, omega arith); to = λ g z. let y : ◌≡◌ {A = ℕ} 0 1 = cc in absurd (omega arith) }

  pub entered_first : (xs : List ℕ) (g : Ring) → length es ≤ cap → g.cap ≡ cap → g.count ≡ 0 → xs ≡ es → Entered ws cap es xs 0 q₀ g
  unfolding sides_of
  entered_first xs g le c n e = record { all = e; within = omega arith; few = rw e le; same = c; fine = rw c p.room; counted = n; seen = view_none q₀ g n }

  module _ (xs : List ℕ) (i : ℕ) (q : List ℕ) (g : Ring) (h : Entered ws cap es xs i q g) where
    pub entered_end : length xs ≤ i → Enters cap (sides_of ws es) q (Ok g)
    entered_end le =
        let c = h.counted in
        let l = sides_long in
        let w = h.within in
        let a : length xs ≡ length es = ap length h.all in
        let z : i ≡ length xs = omega arith in
        let here : Alone cap (sides_of ws es) q g = record { same = h.same; fine = h.fine; counted = omega arith; seen = rw (z, take-length xs, h.all) at h.seen } in
        record { full = λ e z. let y : ◌≡◌ {A = ℕ} 0 1 = cc in absurd (omega arith); to = λ g₁ z. let y : g ≡ g₁ = cc in subst (λ g₁. Alone cap (sides_of ws es) q g₁) y here }

    module _ (lt : i < length xs) where
      pub entering_read : 4 * get_or xs i 0 + 3 < length ws
      entering_read = rw h.all (p.inside i (rw h.all at lt))

      pub entering_room : Roomy q g 1
      entering_room = let f = h.few in let c = h.counted in let d = h.same in record { fine = h.fine; room = omega arith }

      pub entered_one : (w : Record) (q₁ : List ℕ) (g₁ : Ring) → IsRecord ws (get_or xs i 0) w → Joins q g ((w.a, w.b) ∷ []) q₁ g₁ → Entered ws cap es xs (i + 1) q₁ g₁
      unfolding sides_of
      entered_one w q₁ g₁ e j =
          let c = h.counted in
          let d = j.counted in
          record {
            all = h.all;
            within = omega arith;
            few = h.few;
            same = j.same ∙ h.same;
            fine = j.fine;
            counted = omega arith;
            seen = rw (add-one i, take-suc xs i 0 lt, map-append (sides ws) (take i xs) (get_or xs i 0 ∷ []), ← e.a_is, ← e.b_is, ← h.seen) j.seen;
          }
