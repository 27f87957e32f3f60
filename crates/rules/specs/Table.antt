-- The document's table of examples: P1 to P14, one theorem over one table, by computation.
use Rattle.std.specs.Prelude.{ℕ, zero, suc, ◌+◌, ◌*◌, ◌-◌, ◌/◌, ◌≡◌, refl, List, [], ◌∷◌, ◌++◌, map, length, replicate}
use Rattle.rules.specs.declared.Reply.{Reply}
use Rattle.rules.specs.Words.{NONE, BT, AR, KO, HO, CE, LA, CA, VA, HA, EQ}
use Rattle.rules.specs.Answers.{reply}
use Rattle.rules.specs.Solve.{solve}
use Rattle.rules.specs.All.{everything}

-- a record in front of others
infixr 20 ◌·◌
abbrev pub ◌·◌ : (ℕ × ℕ × ℕ × ℕ) → List ℕ → List ℕ
◌·◌ r ws = r.0 ∷ r.1 ∷ r.2 ∷ r.3 ∷ ws

-- input words, R, C; the answer, its place, and the number of new records
pub record Example : Type 0 where
  pub input : List ℕ
  pub room : ℕ
  pub capacity : ℕ
  pub answer : ℕ
  pub place : ℕ
  pub new : ℕ

abbrev pub example : List ℕ → ℕ → ℕ → ℕ → ℕ → ℕ → Example
example ws R C a p k = record { input = ws; room = R; capacity = C; answer = a; place = p; new = k }

-- the reply that the rules give
unfoldable pub given : Example → Reply
given e =
    (solve
    (e.input ++ replicate (4 * e.room - length e.input) 0)
    (replicate e.room 0)
    (replicate (2 * e.capacity) 0)
    (length e.input / 4)
    ).said

-- the reply that the document tells: used is n plus new records for answer 0, otherwise 0
unfoldable pub told : Example → Reply
told e = reply e.answer e.place (elim e.answer [ zero ↦ length e.input / 4 + e.new | suc k ↦ 0 ])

-- 0: the base type i; 1: i to i; 2: i to i to i; 3: a; 4: f; 5: g
abbrev pub named : List ℕ → List ℕ
named ws = (BT, 0, 0, 0) · (AR, 0, 0, 0) · (AR, 0, 1, 0) · (KO, 0, 0, 0) · (KO, 1, 0, 0) · (KO, 2, 0, 0) · ws

-- none
abbrev pub P1 : List ℕ
P1 = named []

-- f a = f a
abbrev pub P2 : List ℕ
P2 =
    named (
    (CA, 3, NONE, 0) · (CE, 6, NONE, 0) · (CA, 4, 7, 0) · (CA, 3, NONE, 0) · (CE, 9, NONE, 0) · (CA, 4, 10, 0) · (EQ, 8, 11, 0) · []
    )

-- f a = a
abbrev pub P3 : List ℕ
P3 =
    named (
    (CA, 3, NONE, 0) · (CE, 6, NONE, 0) · (CA, 4, 7, 0) · (CA, 3, NONE, 0) · (EQ, 8, 9, 0) · []
    )

-- \x.U[] = \x.x
abbrev pub P4 : List ℕ
P4 =
    named (
    (HO, NONE, 0, 0) · (HA, 6, NONE, 0) · (LA, 7, 0, 0) · (VA, 0, NONE, 0) · (LA, 9, 0, 0) · (EQ, 8, 10, 1) · []
    )

-- U[] = f U[]
abbrev pub P5 : List ℕ
P5 =
    named (
    (HO, NONE, 0, 0) · (HA, 6, NONE, 0) · (HA, 6, NONE, 0) · (CE, 8, NONE, 0) · (CA, 4, 9, 0) · (EQ, 7, 10, 0) · []
    )

-- \xy.U[x,y] = \xy.U[y,x]
abbrev pub P6 : List ℕ
P6 =
    named (
    (CE, 0, NONE, 0) · (CE, 0, 6, 0) · (HO, 7, 0, 0) · (VA, 1, NONE, 0) · (VA, 0, NONE, 0) · (CE, 10, NONE, 0) · (CE, 9, 11, 0)
    · (HA, 8, 12, 0) · (LA, 13, 0, 0) · (LA, 14, 0, 0) · (VA, 0, NONE, 0) · (VA, 1, NONE, 0) · (CE, 17, NONE, 0) · (CE, 16, 18, 0)
    · (HA, 8, 19, 0) · (LA, 20, 0, 0) · (LA, 21, 0, 0) · (EQ, 15, 22, 2) · []
    )

-- \x.U[x,x] = \x.a
abbrev pub P7 : List ℕ
P7 =
    named (
    (CE, 0, NONE, 0) · (CE, 0, 6, 0) · (HO, 7, 0, 0) · (VA, 0, NONE, 0) · (VA, 0, NONE, 0) · (CE, 10, NONE, 0) · (CE, 9, 11, 0)
    · (HA, 8, 12, 0) · (LA, 13, 0, 0) · (CA, 3, NONE, 0) · (LA, 15, 0, 0) · (EQ, 14, 16, 1) · []
    )

-- \xy.U[x,y] = \xy.V[y]
abbrev pub P8 : List ℕ
P8 =
    named (
    (CE, 0, NONE, 0) · (CE, 0, 6, 0) · (HO, 7, 0, 0) · (CE, 0, NONE, 0) · (HO, 9, 0, 0) · (VA, 1, NONE, 0) · (VA, 0, NONE, 0)
    · (CE, 12, NONE, 0) · (CE, 11, 13, 0) · (HA, 8, 14, 0) · (LA, 15, 0, 0) · (LA, 16, 0, 0) · (VA, 0, NONE, 0) · (CE, 18, NONE, 0)
    · (HA, 10, 19, 0) · (LA, 20, 0, 0) · (LA, 21, 0, 0) · (EQ, 17, 22, 2) · []
    )

-- \xy.U[x] = \xy.V[x,y]
abbrev pub P9 : List ℕ
P9 =
    named (
    (CE, 0, NONE, 0) · (HO, 6, 0, 0) · (CE, 0, NONE, 0) · (CE, 0, 8, 0) · (HO, 9, 0, 0) · (VA, 1, NONE, 0) · (CE, 11, NONE, 0)
    · (HA, 7, 12, 0) · (LA, 13, 0, 0) · (LA, 14, 0, 0) · (VA, 1, NONE, 0) · (VA, 0, NONE, 0) · (CE, 17, NONE, 0) · (CE, 16, 18, 0)
    · (HA, 10, 19, 0) · (LA, 20, 0, 0) · (LA, 21, 0, 0) · (EQ, 15, 22, 2) · []
    )

-- \xy.U[x] = \xy.f V[x,y]
abbrev pub P10 : List ℕ
P10 =
    named (
    (CE, 0, NONE, 0) · (HO, 6, 0, 0) · (CE, 0, NONE, 0) · (CE, 0, 8, 0) · (HO, 9, 0, 0) · (VA, 1, NONE, 0) · (CE, 11, NONE, 0)
    · (HA, 7, 12, 0) · (LA, 13, 0, 0) · (LA, 14, 0, 0) · (VA, 1, NONE, 0) · (VA, 0, NONE, 0) · (CE, 17, NONE, 0) · (CE, 16, 18, 0)
    · (HA, 10, 19, 0) · (CE, 20, NONE, 0) · (CA, 4, 21, 0) · (LA, 22, 0, 0) · (LA, 23, 0, 0) · (EQ, 15, 24, 2) · []
    )

-- U[] = a; U[] = f a
abbrev pub P11 : List ℕ
P11 =
    named (
    (HO, NONE, 0, 0) · (HA, 6, NONE, 0) · (CA, 3, NONE, 0) · (EQ, 7, 8, 0) · (HA, 6, NONE, 0) · (CA, 3, NONE, 0) · (CE, 11, NONE, 0)
    · (CA, 4, 12, 0) · (EQ, 10, 13, 0) · []
    )

-- U[] = V[]; V[] = U[]
abbrev pub P12 : List ℕ
P12 =
    named (
    (HO, NONE, 0, 0) · (HO, NONE, 0, 0) · (HA, 6, NONE, 0) · (HA, 7, NONE, 0) · (EQ, 8, 9, 0) · (HA, 7, NONE, 0) · (HA, 6, NONE, 0)
    · (EQ, 11, 12, 0) · []
    )

-- \k.U[k] = \k.k a, k from i to i
abbrev pub P13 : List ℕ
P13 =
    named (
    (AR, 1, 0, 0) · (CE, 1, NONE, 0) · (HO, 7, 0, 0) · (VA, 0, NONE, 0) · (CE, 9, NONE, 0) · (HA, 8, 10, 0) · (LA, 11, 0, 0)
    · (CA, 3, NONE, 0) · (CE, 13, NONE, 0) · (VA, 0, 14, 0) · (LA, 15, 0, 0) · (EQ, 12, 16, 6) · []
    )

-- g a a = g a a
abbrev pub P14 : List ℕ
P14 =
    named (
    (CA, 3, NONE, 0) · (CA, 3, NONE, 0) · (CE, 7, NONE, 0) · (CE, 6, 8, 0) · (CA, 5, 9, 0) · (CA, 3, NONE, 0) · (CA, 3, NONE, 0)
    · (CE, 12, NONE, 0) · (CE, 11, 13, 0) · (CA, 5, 14, 0) · (EQ, 10, 15, 0) · []
    )

-- the table of the document
unfoldable pub examples : List Example
examples =
    example P1 40 4 0 0 0 ∷
    example P2 40 4 0 0 0 ∷
    example P3 40 4 1 0 0 ∷
    example P4 40 4 2 0 0 ∷
    example P5 40 4 3 0 0 ∷
    example P6 40 4 0 0 2 ∷
    example P7 40 4 7 13 0 ∷
    example P8 40 4 0 0 3 ∷
    example P9 40 4 0 0 8 ∷
    example P10 40 4 0 0 10 ∷
    example P11 40 4 1 0 0 ∷
    example P12 40 4 0 0 2 ∷
    example P13 40 4 0 0 3 ∷
    example P14 40 1 8 0 0 ∷
    example P14 40 2 0 0 0 ∷
    []

-- every example of the table comes out as the document tells
pub examples_hold : map given examples ≡ map told examples
unfolding given told examples everything
examples_hold = refl
