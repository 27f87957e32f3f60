-- What the machine writes: records from the first unused number on, and solutions.
use Rattle.std.specs.Prelude.{ℕ, ◌+◌, ◌*◌, Bool, true, false, not, List, [], ◌∷◌, get_or, set, eqb, ltb}
use Rattle.rules.specs.declared.Failure.{Failure}
use Rattle.rules.specs.declared.Failure.TheVariants.{TableFull}
use Rattle.rules.specs.Words.{NONE, CE, VA, HA}

-- table words, solution words, and the number of records used
pub record Store : Type 0 where
  pub words : List ℕ
  pub solutions : List ℕ
  pub used : ℕ

-- what a part of the machine comes to: it goes on with a store and a result, or fails and leaves table and solution words;
-- `spent` says that the fuel was too little: it is no answer of the document, and holds no word to mistake for one
pub data Out (A : Type 0) : Type 0 where
  goes : Store → A → Out A
  fails : List ℕ → List ℕ → Failure → Out A
  spent : Out A

-- a failure leaves the words as they stand
unfoldable pub fail : {A : Type 0} → Failure → Store → Out A
fail e s = fails s.words s.solutions e

-- what follows where the first part goes on; a failure stays, and so does spent fuel
infixl 20 ◌>>=◌
unfoldable pub ◌>>=◌ : {A B : Type 0} → Out A → (Store × A → Out B) → Out B
◌>>=◌ o k = elim o [ goes s x ↦ k (s, x) | fails ws ss e ↦ fails ws ss e | spent ↦ spent ]

-- four words written at record r
unfoldable pub put : List ℕ → ℕ → ℕ → ℕ → ℕ → List ℕ
put ws r t a b = set (set (set (set ws (4 * r) t) (4 * r + 1) a) (4 * r + 2) b) (4 * r + 3) 0

-- a record is appended (the machine writes none with a c); table full is met at the first record that has no number
unfoldable pub push : ℕ → ℕ → ℕ → ℕ → Store → Out ℕ
push R t a b s =
    elim (ltb s.used R) [
      | true ↦ goes (record { words = put s.words s.used t a b; solutions = s.solutions; used = s.used + 1 }) s.used
      | false ↦ fail TableFull s
    ]

-- hole h has a solution
unfoldable pub solved : Store → ℕ → Bool
solved s h = not (eqb (get_or s.solutions h NONE) NONE)

-- the record of a hole's solution
unfoldable pub solution : Store → ℕ → ℕ
solution s h = get_or s.solutions h NONE

-- record t becomes the solution of hole h
unfoldable pub settle : ℕ → ℕ → Store → Store
settle h t s = record { words = s.words; solutions = set s.solutions h t; used = s.used }

-- cells for these elements, last first
unfoldable pub push_cells : ℕ → List ℕ → Store → Out ℕ
push_cells R [] s = goes s NONE
push_cells R (x ∷ xs) s = do
  (s₁, rest) ← push_cells R xs s
  push R CE x rest s₁

-- bare variables in order, then their cells from last to first
unfoldable pub push_variables : ℕ → List ℕ → Store → Out ℕ
push_variables R [] s = goes s NONE
push_variables R (v ∷ vs) s = do
  (s₁, x) ← push R VA v NONE s
  (s₂, rest) ← push_variables R vs s₁
  push R CE x rest s₂

-- hole h applied to these variables
unfoldable pub push_occurrence : ℕ → ℕ → List ℕ → Store → Out ℕ
push_occurrence R h vs s = do
  (s₁, xs) ← push_variables R vs s
  push R HA h xs s₁
