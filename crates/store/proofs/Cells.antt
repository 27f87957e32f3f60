-- Cells for noted records, last first.
use Prim.Native.Nat.{ℕ, ◌*◌, ◌≤◌}
use mathlib.Core.Path.{◌≡◌, refl, sym, ap, ◌∙◌}
use mathlib.Core.List.{List, [], ◌∷◌, ◌++◌, append-nil, append_assoc}
use native.Mathlib.Omega.{arith}
use mathlib.Core.Bool.{Bool, true, false}
use lib.ListN.{length}
use Rattle.std.proofs.lemmas.List.{nil_from_length}
use Rattle.std.specs.Prelude.{Ok, Err, ltb}
use Rattle.rules.specs.declared.Failure.{Failure}
use Rattle.store.specs.declared.Written.{Written}
use Rattle.rules.specs.Words.{NONE}
use Rattle.rules.specs.Store.{Store, fails, ◌>>=◌, push, push_cells}
use Rattle.store.specs.Said.{Answer, store, shown, Does}
use Rattle.store.specs.SaidLaws.{since_root, since_failed}

-- cells that fail for the last elements fail for all
cells-fail : (R : ℕ) (xs ys : List ℕ) (s : Store) (ws ss : List ℕ) (e : Failure) → push_cells R ys s ≡ fails ws ss e → push_cells R (xs ++ ys) s ≡ fails ws ss e
unfolding push_cells ◌>>=◌
cells-fail R [] ys s ws ss e h = h
cells-fail R (x ∷ xs) ys s ws ss e h = rw (cells-fail R xs ys s ws ss e h)

-- where a record finds no room, none does, whatever it holds
push-alike : (R t a a₁ b : ℕ) (s : Store) (ws ss : List ℕ) (e : Failure) → push R t a b s ≡ fails ws ss e → push R t a₁ b s ≡ fails ws ss e
unfolding push
push-alike R t a a₁ b s ws ss e h = go (ltb s.used R) refl
  where
    go : (y : Bool) → ltb s.used R ≡ y → push R t a₁ b s ≡ fails ws ss e
    go true z = let q = rw (z, push) at h in let y : ◌≡◌ {A = ℕ} 0 1 = cc in absurd (omega arith)
    go false z = let q = rw (z, push) at h in rw (z, push) q

-- a cell of the same record, in other words
pub push_equal : (n R b u : ℕ) (ws ws₁ : List ℕ) (x : Answer) (a a₁ : ℕ) → Does n (push R 5 a b) ws u ws₁ x → a ≡ a₁ → Does n (push R 5 a₁ b) ws u ws₁ x
push_equal n R b u ws ws₁ x a a₁ p e = rw (← e) p

-- the cells of the elements behind the rest are written
pub record Behind (R n : ℕ) (noted ws₀ : List ℕ) (u₀ : ℕ) (ws rest : List ℕ) (w : Written) : Type 0 where
  pub kept : length ws ≡ length ws₀
  pub room : 4 * R ≤ length ws
  pub behind : List ℕ
  pub split : noted ≡ rest ++ behind
  pub done : Does n (push_cells R behind) ws₀ u₀ ws (Ok w)

pub behind-first : (R n : ℕ) (noted ws : List ℕ) (u : ℕ) (rest : List ℕ) → (4 * R ≤ length ws) × (n ≤ u) → rest ≡ noted → Behind R n noted ws u ws rest (record { root = NONE; used = u })
unfolding push_cells
behind-first R n noted ws u rest h e =
    record { kept = refl; room = h.0; behind = []; split = sym e ∙ sym (append-nil rest); done = record { run = λ ss. refl; grown = since_root _ _ h.1 } }

module _ (R n : ℕ) (noted ws₀ : List ℕ) (u₀ : ℕ) (ws rest : List ℕ) (w : Written) (h : Behind R n noted ws₀ u₀ ws rest w) where
  pub behind-asks : (4 * R ≤ length ws) × (n ≤ w.used)
  behind-asks = (h.room, h.done.grown.since w refl)

  pub behind_end : length rest ≡ 0 → Does n (push_cells R noted) ws₀ u₀ ws (Ok w)
  behind_end z = let n : rest ≡ [] = nil_from_length rest z in let e : noted ≡ h.behind = rw n at h.split in rw e h.done

  module _ (rest₁ : List ℕ) (v : ℕ) (c : rest ≡ rest₁ ++ v ∷ []) where
    split₁ : noted ≡ rest₁ ++ (v ∷ h.behind)
    split₁ = h.split ∙ ap (λ (l : List ℕ). l ++ h.behind) c ∙ append_assoc rest₁ (v ∷ []) h.behind

    module _ (ws₁ : List ℕ) (x : Answer) where
      pub behind_stops : (v₁ : ℕ) → Does n (push R 5 v₁ w.root) ws w.used ws₁ x → (e : Failure) (y : Answer) → x ≡ Err e → y ≡ Err e → Does n (push_cells R noted) ws₀ u₀ ws₁ y
      unfolding push_cells ◌>>=◌
      behind_stops v₁ p e y q o =
          let full : (ss : List ℕ) → push R 5 v w.root (store ws ss w.used) ≡ fails ws₁ ss e = λ ss. push-alike R 5 v₁ v w.root (store ws ss w.used) ws₁ ss e (p.run ss ∙ ap (shown ws₁ ss) q) in
          rw (o, split₁) (record { run = λ ss. cells-fail R rest₁ (v ∷ h.behind) (store ws₀ ss u₀) ws₁ ss e (rw (h.done.run ss, full ss)); grown = since_failed _ _ })

      pub behind_more : Does n (push R 5 v w.root) ws w.used ws₁ x → (w₁ : Written) → x ≡ Ok w₁ → length ws₁ ≡ length ws → Behind R n noted ws₀ u₀ ws₁ rest₁ w₁
      unfolding push_cells ◌>>=◌
      behind_more p w₁ q l =
          let o = h.room in
          record {
            kept = l ∙ h.kept;
            room = omega arith;
            behind = v ∷ h.behind;
            split = split₁;
            done = record { run = λ ss. rw (h.done.run ss, p.run ss, q); grown = since_root _ _ (p.grown.since w₁ q) };
          }
