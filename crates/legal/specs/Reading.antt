-- What lists of a legal table hold, how long they are, and that they stay while the words of the records stay.
use Prim.Native.Nat.{ℕ, zero, suc, ◌<◌, ◌≤◌}
use Rattle.std.specs.Prelude.{◌≡◌, List, [], ◌∷◌, Bool, true}
use native.Mathlib.Omega.{arith}
use Rattle.std.proofs.Math.Decide.{ℕ_discrete}
use Rattle.std.proofs.Math.ListN.{length}
use Rattle.std.proofs.Common.{leb-true, le-leb}
use Rattle.rules.specs.Words.{NONE, HO, CA, VA, HA, tag, field_a, field_b, is_type, is_term, cells, elements, arguments, variables}
use Rattle.laws.specs.Tests.{both_true, both_yes}
use Rattle.laws.specs.Sound.{Sound, hole_context, constant_list, variable_list, hole_list, Follows, follows_type, follows_term}
use Rattle.laws.specs.Lists.{cells_none, cells-more, elements_none}
use Rattle.laws.specs.Members.{Legal, Every, none, more, every_so, map_same, Begins, begins, rest_begins, elements_every}
use Rattle.invariants.specs.Floor.{All}
use Rattle.invariants.specs.Input.{few_cells}
use Rattle.promise.specs.Reading.{Same}
use Rattle.legal.specs.Stay.{a_same, b_same, elements_same}

-- how many variables a hole takes
abbrev pub arity : List ℕ → ℕ → ℕ
arity ws h = length (elements ws (field_a ws h))

pub term_yes : (ws : List ℕ) (x : ℕ) → 6 ≤ tag ws x → tag ws x ≤ 9 → is_term ws x ≡ true
unfolding is_term
term_yes ws x lo hi = both_yes _ _ (le-leb _ _ lo) (le-leb _ _ hi)

pub term_tag : (ws : List ℕ) (x : ℕ) → is_term ws x ≡ true → (6 ≤ tag ws x) × (tag ws x ≤ 9)
unfolding is_term
term_tag ws x e = let p = both_true _ _ e in (leb-true _ _ p.0, leb-true _ _ p.1)

pub every_all : (P : ℕ → Type 0) (xs : List ℕ) → Every P xs → All P xs
every_all P [] none = tt
every_all P (x ∷ xs) (more p ps) = (p, every_all P xs ps)

pub all_both : (P Q S : ℕ → Type 0) (xs : List ℕ) → ((y : ℕ) → P y → Q y → S y) → All P xs → All Q xs → All S xs
all_both P Q S [] k p q = tt
all_both P Q S (y ∷ ys) k p q = (k y p.0 q.0, all_both P Q S ys k p.1 q.1)

module _ (ws : List ℕ) (n : ℕ) (t : Legal ws n) where
  g : Sound ws n
  g = t.sound

  -- the arguments of an applied record
  arguments_begin : (r : ℕ) → r < n → 7 ≤ tag ws r → tag ws r ≤ 9 → Begins (is_term ws) ws r (field_b ws r)
  arguments_begin r h lo hi = go (ℕ_discrete (tag ws r) CA) (ℕ_discrete (tag ws r) VA)
    where
      go : Dec (tag ws r ≡ CA) → Dec (tag ws r ≡ VA) → Begins (is_term ws) ws r (field_b ws r)
      go (yes e) d = begins ws n g (is_term ws) r h (field_b ws r) (constant_list ws n g r h e)
      go (no e) (yes d) = begins ws n g (is_term ws) r h (field_b ws r) (variable_list ws n g r h d)
      go (no e) (no d) = begins ws n g (is_term ws) r h (field_b ws r) (hole_list ws n g r h (omega arith))

  context_begins : (h : ℕ) → h < n → tag ws h ≡ HO → Begins (is_type ws) ws h (field_a ws h)
  context_begins h lt e = begins ws n g (is_type ws) h lt (field_a ws h) (hole_context ws n g h lt e)

  -- so many arguments are lower terms
  pub arguments_terms : (r : ℕ) → r < n → 7 ≤ tag ws r → tag ws r ≤ 9 → All (λ x. (x < r) × (is_term ws x ≡ true)) (arguments ws r)
  unfolding arguments
  arguments_terms r h lo hi = every_all _ _ (elements_every ws n g (is_term ws) (follows_term ws n g) r (field_b ws r) (omega arith) (arguments_begin r h lo hi))

  -- the entries of a context are lower types
  pub context_types : (h : ℕ) → h < n → tag ws h ≡ HO → All (λ x. (x < h) × (is_type ws x ≡ true)) (elements ws (field_a ws h))
  context_types h lt e = every_all _ _ (elements_every ws n g (is_type ws) (follows_type ws n g) h (field_a ws h) (omega arith) (context_begins h lt e))

  -- a list has at most 16 elements
  pub few : (ok : ℕ → Bool) (r l : ℕ) → r ≤ n → Begins ok ws r l → length (elements ws l) ≤ 16
  few ok r l h b = go (ℕ_discrete l NONE)
    where
      go : Dec (l ≡ NONE) → length (elements ws l) ≤ 16
      go (yes e) = rw (elements_none ws l e) (omega arith)
      go (no e) = let p = b e in let lt = p.0 in few_cells ws n g t.few t.inside l (omega arith) p.1

  pub few_arguments : (r : ℕ) → r < n → 7 ≤ tag ws r → tag ws r ≤ 9 → length (arguments ws r) ≤ 16
  unfolding arguments
  few_arguments r h lo hi = few (is_term ws) r (field_b ws r) (omega arith) (arguments_begin r h lo hi)

  -- and no more than there are lower records
  cells_count : (ok : ℕ → Bool) → Follows ws n g ok → (k r l : ℕ) → r ≤ n → Begins ok ws r l → length (cells k ws l) ≤ r
  unfolding cells
  cells_count ok on zero r l h b = omega arith
  cells_count ok on (suc k) r l h b = go (ℕ_discrete l NONE) (λ p q. cells_count ok on k l (field_b ws l) p q)
    where
      go : Dec (l ≡ NONE) → (l ≤ n → Begins ok ws l (field_b ws l) → length (cells k ws (field_b ws l)) ≤ l) → length (cells (suc k) ws l) ≤ r
      go (yes e) ih = rw (cells_none (suc k) ws l e) (omega arith)
      go (no e) ih =
          let p = b e in
          let lt = p.0 in
          let c = ih (omega arith) (rest_begins ws n g ok on l (omega arith) p.1 p.2) in
          rw (cells-more k ws l e) (omega arith)

  pub arity_low : (h : ℕ) → h < n → tag ws h ≡ HO → arity ws h ≤ h
  unfolding elements
  arity_low h lt e = cells_count (is_type ws) (follows_type ws n g) _ h (field_a ws h) (omega arith) (context_begins h lt e)

  pub arity_few : (h : ℕ) → h < n → tag ws h ≡ HO → arity ws h ≤ 16
  arity_few h lt e = few (is_type ws) h (field_a ws h) (omega arith) (context_begins h lt e)

  module _ (ws₁ : List ℕ) (s : Same n ws ws₁) where
    pub arguments_same : (r : ℕ) → r < n → 7 ≤ tag ws r → tag ws r ≤ 9 → arguments ws₁ r ≡ arguments ws r
    unfolding arguments
    arguments_same r h lo hi =
        rw (b_same ws ws₁ n t s r h) (elements_same ws ws₁ n t s (field_b ws r) (λ z. let p = arguments_begin r h lo hi z in let lt = p.0 in (omega arith, p.1)))

    pub variables_same : (r : ℕ) → r < n → tag ws r ≡ HA → variables ws₁ r ≡ variables ws r
    unfolding variables arguments
    variables_same r h e =
        rw (arguments_same r h (omega arith) (omega arith))
        (map_same (λ x. field_a ws₁ x) (λ x. field_a ws x) (elements ws (field_b ws r))
        (every_so (λ x. (x < r) × (is_term ws x ≡ true)) (λ x. field_a ws₁ x ≡ field_a ws x) (elements ws (field_b ws r))
        (λ x p. let lt = p.0 in a_same ws ws₁ n t s x (omega arith))
        (elements_every ws n g (is_term ws) (follows_term ws n g) r (field_b ws r) (omega arith) (arguments_begin r h (omega arith) (omega arith)))))

    pub arity_same : (h : ℕ) → h < n → tag ws h ≡ HO → arity ws₁ h ≡ arity ws h
    arity_same h lt e =
        rw (a_same ws ws₁ n t s h lt, elements_same ws ws₁ n t s (field_a ws h) (λ z. let p = context_begins h lt e z in let l = p.0 in (omega arith, p.1)))
