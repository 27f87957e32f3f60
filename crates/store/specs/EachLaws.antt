-- Arguments written one by one: each in order, what is written noted, and then the cells of all of it from last to first.
use Rattle.std.specs.Prelude.{ℕ, ◌≡◌, refl, List, [], ◌∷◌, ◌++◌}
use Rattle.std.proofs.Common.{sym, ap, ◌∙◌}
use Rattle.rules.specs.declared.Failure.{Failure}
use Rattle.rules.specs.Words.{NONE, CE}
use Rattle.rules.specs.Store.{Store, Out, goes, fails, spent, push, push_cells, ◌>>=◌}
use Rattle.rules.specs.Map.{Map}
use Rattle.rules.specs.Rewrite.{Writer, write_all}
use Rattle.store.specs.Said.{over}
use Rattle.store.specs.SaidLaws.{bind_assoc}

-- what is left to write, after what is written
unfoldable pub write_rest : Writer → ℕ → Map → ℕ → List ℕ → List ℕ → Store → Out ℕ
write_rest write R m d ys [] s = push_cells R ys s
write_rest write R m d ys (x ∷ xs) s = do
  (s₁, y) ← write m d x s
  write_rest write R m d (ys ++ (y ∷ [])) xs s₁

-- cells for these elements before a list
unfoldable cells_on : ℕ → List ℕ → Store × ℕ → Out ℕ
cells_on R [] p = goes p.0 p.1
cells_on R (y ∷ ys) p = do
  (s, rest) ← cells_on R ys p
  push R CE y rest s

cells_last : (R : ℕ) (ys : List ℕ) (s : Store) → push_cells R ys s ≡ cells_on R ys (s, NONE)
unfolding push_cells cells_on
cells_last R [] s = refl
cells_last R (y ∷ ys) s = ap (◌>>= over R CE y) (cells_last R ys s)

bind_goes : (o : Out ℕ) → (o >>= λ (s, x). goes s x) ≡ o
unfolding ◌>>=◌
bind_goes (goes s x) = refl
bind_goes (fails ws ss e) = refl
bind_goes spent = refl

-- one more element behind
cells-more : (R : ℕ) (ys : List ℕ) (y : ℕ) (p : Store × ℕ) → cells_on R (ys ++ (y ∷ [])) p ≡ (push R CE y p.1 p.0 >>= cells_on R ys)
unfolding cells_on ◌>>=◌
cells-more R [] y p = sym (bind_goes (push R CE y p.1 p.0))
cells-more R (x ∷ ys) y p = ap (◌>>= over R CE x) (cells-more R ys y p) ∙ sym (bind_assoc (push R CE y p.1 p.0) (cells_on R ys) (over R CE x))

pub bind_same : (o : Out ℕ) (f g : Store × ℕ → Out ℕ) → ((p : Store × ℕ) → f p ≡ g p) → (o >>= f) ≡ (o >>= g)
unfolding ◌>>=◌
bind_same (goes s x) f g h = h (s, x)
bind_same (fails ws ss e) f g h = refl
bind_same spent f g h = refl

rest_is : (write : Writer) (R : ℕ) (m : Map) (d : ℕ) (ys xs : List ℕ) (s : Store) → write_rest write R m d ys xs s ≡ (write_all write R m d xs s >>= cells_on R ys)
unfolding write_rest write_all ◌>>=◌
rest_is write R m d ys [] s = cells_last R ys s
rest_is write R m d ys (x ∷ xs) s =
    bind_same (write m d x s) _ _ (λ (s₁, y). rest_is write R m d (ys ++ (y ∷ [])) xs s₁
    ∙ bind_same (write_all write R m d xs s₁) _ _ (cells-more R ys y)
    ∙ bind_assoc (write_all write R m d xs s₁) (over R CE y) (cells_on R ys))
    ∙ bind_assoc (write m d x s) (λ (s₁, y). write_all write R m d xs s₁ >>= over R CE y) (cells_on R ys)

-- writing all is writing what is left after nothing
pub writes_all : (write : Writer) (R : ℕ) (m : Map) (d : ℕ) (xs : List ℕ) (s : Store) → write_all write R m d xs s ≡ write_rest write R m d [] xs s
unfolding cells_on
writes_all write R m d xs s = sym (rest_is write R m d [] xs s ∙ bind_goes (write_all write R m d xs s))

-- nothing is left
pub rest_end : (write : Writer) (R : ℕ) (m : Map) (d : ℕ) (ys : List ℕ) (s : Store) → write_rest write R m d ys [] s ≡ push_cells R ys s
unfolding write_rest
rest_end write R m d ys s = refl

-- the next one fails, or is written
module _ (write : Writer) (R : ℕ) (m : Map) (d : ℕ) (ys : List ℕ) (x : ℕ) (xs : List ℕ) (s : Store) where
  pub rest_stops : (ws ss : List ℕ) (e : Failure) → write m d x s ≡ fails ws ss e → write_rest write R m d ys (x ∷ xs) s ≡ fails ws ss e
  unfolding write_rest ◌>>=◌
  rest_stops ws ss e p = rw p

  pub rest_goes : (s₁ : Store) (y : ℕ) → write m d x s ≡ goes s₁ y → write_rest write R m d ys (x ∷ xs) s ≡ write_rest write R m d (ys ++ (y ∷ [])) xs s₁
  unfolding write_rest ◌>>=◌
  rest_goes s₁ y p = rw p
