-- A text written into a lent buffer byte by byte, and one text after another.
use Prim.Native.Nat.{ℕ, suc, ◌+◌, ◌<◌, ◌≤◌, min}
use Rattle.std.specs.Prelude.{◌≡◌, refl, Bool, true, false, List, [], ◌∷◌, ◌++◌, leb, length, take, drop, set}
use Rattle.std.proofs.Common.{sym, ap, ◌∙◌, leb-true, leb-false, length-set}
use native.Mathlib.Omega.{arith}
use Rattle.std.proofs.Math.Seq.{set_out}
use Rattle.std.proofs.lemmas.List.Edits.{sets, sets-eq}
use Rattle.rules.specs.Text.{Bytes}
use Rattle.text.specs.Written.{most, written}

-- a text laid over a buffer from index `at` on, all other bytes staying
unfoldable pub overlaid : ℕ → Bytes → List ℕ → List ℕ
overlaid at [] out = out
overlaid at (b ∷ t) out = overlaid (at + 1) t (set out at b)

-- one byte, and one that lies past the buffer's end
module _ (out : List ℕ) (at b : ℕ) where
  pub written_byte : written at (b ∷ []) out ≡ (set out at b, min (at + 1) most)
  unfolding written
  written_byte = refl

  pub written_past : length out ≤ at → written at (b ∷ []) out ≡ (out, min (at + 1) most)
  written_past h = written_byte ∙ rw (set_out out at b h)

pub written_none : (at : ℕ) (out : List ℕ) → written at [] out ≡ (out, at)
unfolding written
written_none at out = refl

-- one text after another
pub written_then : (at : ℕ) (t u : Bytes) (out o : List ℕ) (n : ℕ) (x : List ℕ × ℕ) → written at t out ≡ (o, n) → written n u o ≡ x → written at (t ++ u) out ≡ x
unfolding written
written_then at [] u out o n x p q = rw (ap (λ (y : List ℕ × ℕ). y.0) p, ap (λ (y : List ℕ × ℕ). y.1) p) q
written_then at (b ∷ t) u out o n x p q = written_then (min (at + 1) most) t u (set out at b) o n x p q

overlaid_past : (at : ℕ) (t : Bytes) (out : List ℕ) → length out ≤ at → overlaid at t out ≡ out
unfolding overlaid
overlaid_past at [] out h = refl
overlaid_past at (b ∷ t) out h = rw (set_out out at b h) (overlaid_past (at + 1) t out (omega arith))

overlaid_capped : (at : ℕ) (t : Bytes) (out : List ℕ) → length out ≤ most → overlaid (min at most) t out ≡ overlaid at t out
overlaid_capped at t out h = go (leb at most) refl
  where
    go : (b : Bool) → leb at most ≡ b → overlaid (min at most) t out ≡ overlaid at t out
    go true e = let l : at ≤ most = leb-true at most e in let m : min at most ≡ at = omega arith in rw m
    go false e =
        let l : most < at = leb-false at most e in
        let m : min at most ≡ most = omega arith in
        rw m (overlaid_past most t out h ∙ sym (overlaid_past at t out (omega arith)))

-- what is written: the text laid over the buffer, and the index where it ends
pub written-overlaid : (at : ℕ) (t : Bytes) (out : List ℕ) → at ≤ most → length out ≤ most → written at t out ≡ (overlaid at t out, min (at + length t) most)
unfolding written overlaid
written-overlaid at [] out h l = let m : min (at + 0) most ≡ at = omega arith in rw m
written-overlaid at (b ∷ t) out h l =
    let k : length (set out at b) ≤ most = simp length-set l in
    let m : min (min (at + 1) most + length t) most ≡ min (at + suc (length t)) most = omega arith in
    written-overlaid (min (at + 1) most) t (set out at b) (omega arith) k ∙ rw (m, overlaid_capped (at + 1) t (set out at b) k)

overlaid_sets : (at : ℕ) (t : Bytes) (out : List ℕ) → overlaid at t out ≡ sets out at t
unfolding overlaid
overlaid_sets at [] out = refl
overlaid_sets at (b ∷ t) out = let e : at + 1 ≡ suc at = omega arith in rw e (overlaid_sets (suc at) t (set out at b))

-- a text that fits stands in the buffer whole
pub written-whole : (at : ℕ) (t : Bytes) (out : List ℕ) → at + length t ≤ length out → length out ≤ most
    → written at t out ≡ (take at out ++ t ++ drop (at + length t) out, at + length t)
written-whole at t out h l =
    let m : min (at + length t) most ≡ at + length t = omega arith in
    written-overlaid at t out (omega arith) l ∙ rw (m, overlaid_sets at t out, sets-eq t out at h)

-- one byte, then a text
pub byte_then : (at b : ℕ) (u : Bytes) (out o : List ℕ) (n : ℕ) (x : List ℕ × ℕ) → written at (b ∷ []) out ≡ (o, n) → written n u o ≡ x → written at (b ∷ u) out ≡ x
byte_then at b u out o n x p q = written_then at (b ∷ []) u out o n x p q
