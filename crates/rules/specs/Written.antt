-- Examples of our own, by computation: every word that solving and showing leave, where the document's table tells only counts.
use Rattle.std.specs.Prelude.{ℕ, ◌+◌, ◌*◌, ◌-◌, ◌/◌, ◌≡◌, refl, List, [], ◌∷◌, ◌++◌, length, replicate, set}
use Rattle.rules.specs.Words.{NONE, AR, KO, HO, CE, LA, CA, VA, HA, EQ}
use Rattle.rules.specs.Answers.{reply}
use Rattle.rules.specs.Solve.{Behind, solve}
use Rattle.rules.specs.Show.{Shown, show}
use Rattle.rules.specs.Table.{◌·◌, named, P3, P12}
use Rattle.rules.specs.Examples.{Q1}
use Rattle.rules.specs.All.{everything}

-- a word that was there before
abbrev pub old : ℕ
old = 7

-- solving in a table of R records, with room for C pairs, all other words old
abbrev solving : List ℕ → ℕ → ℕ → Behind
solving ws R C = solve (ws ++ replicate (4 * R - length ws) old) (replicate R old) (replicate (2 * C) old) (length ws / 4)

-- what answer 0 leaves: input, new records, zeros; solutions; an empty queue
abbrev solved_by : List ℕ → List ℕ → ℕ → ℕ → List ℕ → Behind
solved_by ws new R C ss =
    record {
      table = ws ++ new ++ replicate (4 * R - length ws - length new) 0;
      solutions = ss;
      queue = replicate (2 * C) 0;
      said = reply 0 0 ((length ws + length new) / 4);
    }

-- 6: (i to i) to i; 7: h, of that type
abbrev known : List ℕ → List ℕ
known ws = named ((AR, 1, 0, 0) · (KO, 6, 0, 0) · ws)

-- \x.U[x] = \x.h (\y.x)
abbrev under : List ℕ
under =
    known (
    (CE, 0, NONE, 0) · (HO, 8, 0, 0) · (VA, 0, NONE, 0) · (CE, 10, NONE, 0) · (HA, 9, 11, 0) · (LA, 12, 0, 0) · (VA, 1, NONE, 0)
    · (LA, 14, 0, 0) · (CE, 15, NONE, 0) · (CA, 7, 16, 0) · (LA, 17, 0, 0) · (EQ, 13, 18, 1) · []
    )

-- under a lambda the place is one higher
pub shift_under_lambda : solving under 26 2
    ≡ solved_by under ((VA, 1, NONE, 0) · (LA, 20, 0, 0) · (CE, 21, NONE, 0) · (CA, 7, 22, 0) · []) 26 2 (set (replicate 26 NONE) 9 23)
unfolding everything
shift_under_lambda = refl

-- \x.U[x] = \x.h (\y.g x y); \xy.U[x] = \xy.V[x,y]
abbrev own : List ℕ
own =
    known (
    (CE, 0, NONE, 0) · (HO, 8, 0, 0) · (CE, 0, NONE, 0) · (CE, 0, 10, 0) · (HO, 11, 0, 0) · (VA, 0, NONE, 0) · (CE, 13, NONE, 0)
    · (HA, 9, 14, 0) · (LA, 15, 0, 0) · (VA, 1, NONE, 0) · (VA, 0, NONE, 0) · (CE, 18, NONE, 0) · (CE, 17, 19, 0) · (CA, 5, 20, 0)
    · (LA, 21, 0, 0) · (CE, 22, NONE, 0) · (CA, 7, 23, 0) · (LA, 24, 0, 0) · (EQ, 16, 25, 1) · (VA, 1, NONE, 0) · (CE, 27, NONE, 0)
    · (HA, 9, 28, 0) · (LA, 29, 0, 0) · (LA, 30, 0, 0) · (VA, 1, NONE, 0) · (VA, 0, NONE, 0) · (CE, 33, NONE, 0) · (CE, 32, 34, 0)
    · (HA, 12, 35, 0) · (LA, 36, 0, 0) · (LA, 37, 0, 0) · (EQ, 31, 38, 2) · []
    )

-- a copy renames the context variable to the argument (2 under the lambda) and not the solution's own variable (0);
-- then V is solved by the copy, which leads back to position 0
pub own-variables_stay : solving own 64 2
    ≡ solved_by own (
    (VA, 1, NONE, 0) · (VA, 0, NONE, 0) · (CE, 41, NONE, 0) · (CE, 40, 42, 0) · (CA, 5, 43, 0) · (LA, 44, 0, 0) · (CE, 45, NONE, 0) · (CA, 7, 46, 0)
    · (VA, 2, NONE, 0) · (VA, 0, NONE, 0) · (CE, 49, NONE, 0) · (CE, 48, 50, 0) · (CA, 5, 51, 0) · (LA, 52, 0, 0) · (CE, 53, NONE, 0) · (CA, 7, 54, 0)
    · (VA, 1, NONE, 0) · (VA, 0, NONE, 0) · (CE, 57, NONE, 0) · (CE, 56, 58, 0) · (CA, 5, 59, 0) · (LA, 60, 0, 0) · (CE, 61, NONE, 0) · (CA, 7, 62, 0) · []
    ) 64 2 (set (set (replicate 64 NONE) 9 47) 12 63)
unfolding everything
own-variables_stay = refl

-- 6: i to i to i to i; \xyz.U[z,x] = \xyz.V[y,z]
abbrev crossed : List ℕ
crossed =
    named (
    (AR, 0, 2, 0) · (CE, 0, NONE, 0) · (CE, 0, 7, 0) · (HO, 8, 0, 0) · (CE, 0, NONE, 0) · (CE, 0, 10, 0) · (HO, 11, 0, 0)
    · (VA, 0, NONE, 0) · (VA, 2, NONE, 0) · (CE, 14, NONE, 0) · (CE, 13, 15, 0) · (HA, 9, 16, 0) · (LA, 17, 0, 0) · (LA, 18, 0, 0)
    · (LA, 19, 0, 0) · (VA, 1, NONE, 0) · (VA, 0, NONE, 0) · (CE, 22, NONE, 0) · (CE, 21, 23, 0) · (HA, 12, 24, 0) · (LA, 25, 0, 0)
    · (LA, 26, 0, 0) · (LA, 27, 0, 0) · (EQ, 20, 28, 6) · []
    )

-- V is narrowed to position 1, at which its solution applies the new hole; the occurrence has the place of z, which is 0
pub places_and_positions : solving crossed 40 2
    ≡ solved_by crossed (
    (CE, 0, NONE, 0) · (HO, 30, 0, 0) · (VA, 1, NONE, 0) · (CE, 32, NONE, 0) · (HA, 31, 33, 0)
    · (VA, 0, NONE, 0) · (CE, 35, NONE, 0) · (HA, 31, 36, 0) · []
    ) 40 2 (set (set (replicate 40 NONE) 12 34) 9 37)
unfolding everything
places_and_positions = refl

-- \x.U[] = \x.a; U[] = V[]
abbrev bodies : List ℕ
bodies =
    named (
    (HO, NONE, 0, 0) · (HO, NONE, 0, 0) · (HA, 6, NONE, 0) · (LA, 8, 0, 0) · (CA, 3, NONE, 0) · (LA, 10, 0, 0) · (EQ, 9, 11, 1)
    · (HA, 6, NONE, 0) · (HA, 7, NONE, 0) · (EQ, 13, 14, 0) · []
    )

-- the bodies are next, before the second equation: U is solved by a, and V by a copy of it
pub bodies_at_once : solving bodies 20 2
    ≡ solved_by bodies ((CA, 3, NONE, 0) · (CA, 3, NONE, 0) · (CA, 3, NONE, 0) · []) 20 2 (set (set (replicate 20 NONE) 6 16) 7 18)
unfolding everything
bodies_at_once = refl

-- U[] = V[]; V[] = U[]: the left hole is solved; then the right side is expanded before the holes are compared
pub right_side-expanded : solving P12 17 2 ≡ solved_by P12 ((HA, 7, NONE, 0) · (HA, 7, NONE, 0) · []) 17 2 (set (replicate 17 NONE) 6 14)
unfolding everything
right_side-expanded = refl

-- f U[] = f a; U[] = V[]
abbrev waiting : List ℕ
waiting =
    named (
    (HO, NONE, 0, 0) · (HO, NONE, 0, 0) · (HA, 6, NONE, 0) · (CE, 8, NONE, 0) · (CA, 4, 9, 0) · (CA, 3, NONE, 0) · (CE, 11, NONE, 0)
    · (CA, 4, 12, 0) · (EQ, 10, 13, 0) · (HA, 6, NONE, 0) · (HA, 7, NONE, 0) · (EQ, 15, 16, 0) · []
    )

-- first in, first out: U is solved by V before the arguments, U and a, are met; then the copy's hole V is solved by a
pub first_in_first_out : solving waiting 24 2
    ≡ solved_by waiting ((HA, 7, NONE, 0) · (HA, 7, NONE, 0) · (CA, 3, NONE, 0) · []) 24 2 (set (set (replicate 24 NONE) 6 18) 7 20)
unfolding everything
first_in_first_out = refl

-- g U[] V[] = g V[] a
abbrev sided : List ℕ
sided =
    named (
    (HO, NONE, 0, 0) · (HO, NONE, 0, 0) · (HA, 6, NONE, 0) · (HA, 7, NONE, 0) · (CE, 9, NONE, 0) · (CE, 8, 10, 0) · (CA, 5, 11, 0)
    · (HA, 7, NONE, 0) · (CA, 3, NONE, 0) · (CE, 14, NONE, 0) · (CE, 13, 15, 0) · (CA, 5, 16, 0) · (EQ, 12, 17, 0) · []
    )

-- argument pairs join in order and keep their sides: U, on the left, is solved by V, and after that V by a
pub argument_pairs_in_order : solving sided 24 2
    ≡ solved_by sided ((HA, 7, NONE, 0) · (CA, 3, NONE, 0) · []) 24 2 (set (set (replicate 24 NONE) 6 19) 7 20)
unfolding everything
argument_pairs_in_order = refl

-- U[] = W[]; V[] = a; U[] = V[]
abbrev both-solved : List ℕ
both-solved =
    named (
    (HO, NONE, 0, 0) · (HO, NONE, 0, 0) · (HO, NONE, 0, 0) · (HA, 6, NONE, 0) · (HA, 8, NONE, 0) · (EQ, 9, 10, 0) · (HA, 7, NONE, 0)
    · (CA, 3, NONE, 0) · (EQ, 12, 13, 0) · (HA, 6, NONE, 0) · (HA, 7, NONE, 0) · (EQ, 15, 16, 0) · []
    )

-- the left side's copy, W, is written before the right side's, a; then W is solved by a
pub left-side-first : solving both-solved 24 3
    ≡ solved_by both-solved (
    (HA, 8, NONE, 0) · (CA, 3, NONE, 0) · (HA, 8, NONE, 0) · (CA, 3, NONE, 0) · (CA, 3, NONE, 0) · []
    ) 24 3 (set (set (set (replicate 24 NONE) 6 18) 7 19) 8 22)
unfolding everything
left-side-first = refl

-- U[] = V[]; V[] = a; U[] = a
abbrev twice_solved : List ℕ
twice_solved =
    named (
    (HO, NONE, 0, 0) · (HO, NONE, 0, 0) · (HA, 6, NONE, 0) · (HA, 7, NONE, 0) · (EQ, 8, 9, 0) · (HA, 7, NONE, 0) · (CA, 3, NONE, 0)
    · (EQ, 11, 12, 0) · (HA, 6, NONE, 0) · (CA, 3, NONE, 0) · (EQ, 14, 15, 0) · []
    )

-- while the head is a solved hole: the copy of U's solution is V, which is solved, and is replaced by a copy of a
pub expanded_to_the_end : solving twice_solved 24 3
    ≡ solved_by twice_solved ((HA, 7, NONE, 0) · (CA, 3, NONE, 0) · (HA, 7, NONE, 0) · (CA, 3, NONE, 0) · []) 24 3 (set (set (replicate 24 NONE) 6 17) 7 18)
unfolding everything
expanded_to_the_end = refl

-- U[] = g a (f a)
abbrev ordered : List ℕ
ordered =
    named (
    (HO, NONE, 0, 0) · (HA, 6, NONE, 0) · (CA, 3, NONE, 0) · (CA, 3, NONE, 0) · (CE, 9, NONE, 0) · (CA, 4, 10, 0) · (CE, 11, NONE, 0)
    · (CE, 8, 12, 0) · (CA, 5, 13, 0) · (EQ, 7, 14, 0) · []
    )

-- children first: arguments in order, then their cells from last to first, then the head record
pub children_first : solving ordered 24 1
    ≡ solved_by ordered (
    (CA, 3, NONE, 0) · (CA, 3, NONE, 0) · (CE, 17, NONE, 0) · (CA, 4, 18, 0) · (CE, 19, NONE, 0) · (CE, 16, 20, 0) · (CA, 5, 21, 0) · []
    ) 24 1 (set (replicate 24 NONE) 6 22)
unfolding everything
children_first = refl

-- \xy.V[x,y] = \xy.f x; \xy.U[x] = \xy.f V[x,y]
abbrev partly : List ℕ
partly =
    named (
    (CE, 0, NONE, 0) · (HO, 6, 0, 0) · (CE, 0, NONE, 0) · (CE, 0, 8, 0) · (HO, 9, 0, 0) · (VA, 1, NONE, 0) · (VA, 0, NONE, 0)
    · (CE, 12, NONE, 0) · (CE, 11, 13, 0) · (HA, 10, 14, 0) · (LA, 15, 0, 0) · (LA, 16, 0, 0) · (VA, 1, NONE, 0) · (CE, 18, NONE, 0)
    · (CA, 4, 19, 0) · (LA, 20, 0, 0) · (LA, 21, 0, 0) · (EQ, 17, 22, 2) · (VA, 1, NONE, 0) · (CE, 24, NONE, 0) · (HA, 7, 25, 0)
    · (LA, 26, 0, 0) · (LA, 27, 0, 0) · (VA, 1, NONE, 0) · (VA, 0, NONE, 0) · (CE, 30, NONE, 0) · (CE, 29, 31, 0) · (HA, 10, 32, 0)
    · (CE, 33, NONE, 0) · (CA, 4, 34, 0) · (LA, 35, 0, 0) · (LA, 36, 0, 0) · (EQ, 28, 37, 2) · []
    )

-- below the solved V the lost y leaves the map partial, and nothing escapes
pub map-left_partial : solving partly 48 2
    ≡ solved_by partly (
    (VA, 0, NONE, 0) · (CE, 39, NONE, 0) · (CA, 4, 40, 0) · (VA, 0, NONE, 0) · (CE, 42, NONE, 0) · (CA, 4, 43, 0) · (CE, 44, NONE, 0) · (CA, 4, 45, 0) · []
    ) 48 2 (set (set (replicate 48 NONE) 10 41) 7 46)
unfolding everything
map-left_partial = refl

-- words past the ranges: three after the last record, two after the solutions, one after the last pair
pub only_the_ranges : solve (P12 ++ replicate 15 old) (replicate 19 old) (replicate 5 old) 14
    ≡ record {
      table = P12 ++ ((HA, 7, NONE, 0) · (HA, 7, NONE, 0) · 0 ∷ 0 ∷ 0 ∷ 0 ∷ old ∷ old ∷ old ∷ []);
      solutions = set (replicate 17 NONE) 6 14 ++ old ∷ old ∷ [];
      queue = 0 ∷ 0 ∷ 0 ∷ 0 ∷ old ∷ [];
      said = reply 0 0 16;
    }
unfolding everything
only_the_ranges = refl

-- 1: records from n on zero, solutions NONE, the queue empty, although records may have been written
pub failure_clears : solve (P3 ++ replicate 9 old) (replicate 14 old) (replicate 3 old) 11
    ≡ record {
      table = P3 ++ replicate 8 0 ++ old ∷ [];
      solutions = replicate 13 NONE ++ old ∷ [];
      queue = 0 ∷ 0 ∷ old ∷ [];
      said = reply 1 0 0;
    }
unfolding everything
failure_clears = refl

-- 9, met when U's solution is written, leaves no trace of it
pub full_table_clears : solve (Q1 ++ replicate 8 old) (replicate 16 old) (replicate 2 old) 14
    ≡ record { table = Q1 ++ replicate 8 0; solutions = replicate 16 NONE; queue = 0 ∷ 0 ∷ []; said = reply 9 0 0 }
unfolding everything
full_table_clears = refl

-- 4: nothing is written, here with one solution word too few
pub refusal_writes_nothing : solve (P3 ++ replicate 9 old) (replicate 12 old) (replicate 3 old) 11
    ≡ record { table = P3 ++ replicate 9 old; solutions = replicate 12 old; queue = replicate 3 old; said = reply 4 0 0 }
unfolding everything
refusal_writes_nothing = refl

-- R is at most 4,096 and C at most 1,024, so 4,096 solution words suffice, and words beyond stay
pub room_is_capped : solve (replicate 16394 old) (replicate 4096 old) (replicate 2050 old) 0
    ≡ record {
      table = replicate 16384 0 ++ replicate 10 old;
      solutions = replicate 4096 NONE;
      queue = replicate 2048 0 ++ replicate 2 old;
      said = reply 0 0 0;
    }
unfolding everything
room_is_capped = refl

-- showing record h in a table of R records and an output of so many words, all other words old
abbrev showing : List ℕ → ℕ → ℕ → ℕ → Shown
showing ws R O h = show (ws ++ replicate (4 * R - length ws) old) (replicate R old) (old ∷ old ∷ []) (replicate O old) (length ws / 4) h

-- what solving Q1 leaves, with show's reply
abbrev behind-Q1 : ℕ → ℕ → Behind
behind-Q1 a u =
    record {
      table = Q1 ++ ((VA, 0, NONE, 0) · (CE, 14, NONE, 0) · (CA, 2, 15, 0) · replicate 12 0);
      solutions = set (replicate 20 NONE) 4 16;
      queue = 0 ∷ 0 ∷ [];
      said = reply a 0 u;
    }

-- f x, with the constant's table number and output numbers for the rest; the counted record left over is zero, a word past them stays
pub shown_in_output : showing Q1 20 17 4
    ≡ record { behind = behind-Q1 0 3; output = (VA, 0, NONE, 0) · (CE, 0, NONE, 0) · (CA, 2, 1, 0) · 0 ∷ 0 ∷ 0 ∷ 0 ∷ old ∷ [] }
unfolding everything
shown_in_output = refl

-- 11: the table as for 0, all counted output records zero
pub output_too_small : showing Q1 20 9 4 ≡ record { behind = behind-Q1 11 0; output = replicate 8 0 ++ old ∷ [] }
unfolding everything
output_too_small = refl

-- a hole over two variables, in no equation
abbrev alone : List ℕ
alone = named ((CE, 0, NONE, 0) · (CE, 0, 6, 0) · (HO, 7, 0, 0) · [])

-- an unsolved hole is shown applied to its context variables in order
pub unsolved_in_output : showing alone 9 20 8
    ≡ record {
      behind = record { table = alone; solutions = replicate 9 NONE; queue = 0 ∷ 0 ∷ []; said = reply 0 0 5 };
      output = (VA, 0, NONE, 0) · (VA, 1, NONE, 0) · (CE, 1, NONE, 0) · (CE, 0, 2, 0) · (HA, 8, 3, 0) · [];
    }
unfolding everything
unsolved_in_output = refl
