-- Notes serve as lent arrays, and blank notes as blank marks.
use Rattle.std.specs.Prelude.{ℕ, ◌*◌, ◌<◌, ◌≤◌, ◌≡◌, List, length, get_or, replicate}
use Rattle.std.proofs.Common.{arith, ◌∙◌}
use Rattle.std.proofs.lemmas.List.{length-replicate, get_or-replicate}
use Rattle.records.specs.declared.Notes.{Notes}
use Rattle.records.specs.Rows.{LentAsks, BrokenAsks}

-- the four arrays of notes for N records, as they are lent
pub lent_asks : {N : ℕ} (ws : List ℕ) (x : Notes N) (n : ℕ) → BrokenAsks ws x n
    → length x.marks ≡ N → length x.last ≡ N → length x.before ≡ N → length x.equations ≡ N → LentAsks ws x.marks x.last x.before x.equations n
lent_asks ws x n p a c d e =
    let room = p.room in
    record {
      inside = p.inside;
      few = p.few;
      blank = record { room = record { marks = omega arith; last = omega arith; before = omega arith }; last = p.blank };
      equations = omega arith;
    }

-- notes for k records in which no chain has begun serve for at most k records
pub zeros_ask : (k : ℕ) (x : Notes k) → x.last ≡ replicate k 0 → (ws : List ℕ) (n : ℕ) → n ≤ k → n ≤ 4096 → 4 * n ≤ length ws → BrokenAsks ws x n
zeros_ask k x e ws n le few inside = record { inside = inside; few = few; room = le; blank = zeros }
  where
    zeros : (b : ℕ) → b < length x.last → get_or x.last b 0 ≡ 0
    zeros b l = let q : get_or x.last b 0 ≡ get_or (replicate k 0) b 0 = rw e in let m : length x.last ≡ k = rw e (length-replicate {A = ℕ} k 0) in q ∙ get_or-replicate {A = ℕ} k b 0 0 (omega arith)
