-- The invariant of the walk. Every record has a label, its home: no record below it in the tree has a lower number than that. A home of 0 says nothing.
-- In a solution homes are not 0, and for every occurrence q of a solved hole that stands in a solution, q is below the home of that hole's solution.
use Rattle.std.specs.Prelude.{ℕ, ◌+◌, ◌-◌, ◌*◌, ◌<◌, ◌≤◌, ◌≡◌, List, [], ◌∷◌, length, get_or}
use Rattle.rules.specs.Words.{NONE, tag, field_a, field_b, elements, HO, CE, LA, HA}
use Rattle.rules.specs.Store.{Store, Out, goes, fails, spent}
use Rattle.rules.specs.Solve.{filled}
use Rattle.laws.specs.Lists.{Cell}

-- tag 6 to 9
pub record Term (ws : List ℕ) (r : ℕ) : Type 0 where
  pub low : 6 ≤ tag ws r
  pub high : tag ws r ≤ 9

-- x is a term below r whose home is at least b
pub record Sub (ws : List ℕ) (home : ℕ → ℕ) (b r x : ℕ) : Type 0 where
  pub below : x < r
  pub term : Term ws x
  pub up : b ≤ home x

-- of every element
abbrev pub All : {A : Type 0} → (A → Type 0) → List A → Type 0
All P [] = Unit {0}
All P (x ∷ xs) = P x × All P xs

-- l is a list below r of terms whose homes are at least b
pub record Args (ws : List ℕ) (home : ℕ → ℕ) (b r l : ℕ) : Type 0 where
  pub here : (l ≡ NONE → ⊥) → (l < r) × (tag ws l ≡ CE)
  pub all : All (Sub ws home b r) (elements ws l)

-- an occurrence: of a hole
pub record Occ (ws : List ℕ) (r : ℕ) : Type 0 where
  pub below : field_a ws r < r
  pub hole : tag ws (field_a ws r) ≡ HO

-- the first word of a term written as record r is no higher than this: a walk leads no variable higher than 2 to the 25th, and a copy leads
-- none by more than 4,096 higher than those that it finds
abbrev pub limit : ℕ → ℕ
limit r = 33554432 + 4096 * r

-- record r keeps the rules, as far as the walk relies on them
pub record Rule (ws : List ℕ) (home : ℕ → ℕ) (r : ℕ) : Type 0 where
  pub own : home r ≤ r
  pub lam : tag ws r ≡ LA → Sub ws home (home r) r (field_a ws r)
  pub app : 7 ≤ tag ws r → tag ws r ≤ 9 → Args ws home (home r) r (field_b ws r)
  pub few : 7 ≤ tag ws r → tag ws r ≤ 9 → length (elements ws (field_b ws r)) ≤ 16
  pub low : 6 ≤ tag ws r → tag ws r ≤ 9 → field_a ws r ≤ limit r
  pub occ : tag ws r ≡ HA → Occ ws r
  pub cell : tag ws r ≡ CE → Cell ws r
  pub hole : tag ws r ≡ HO → (field_a ws r ≡ NONE → ⊥) → (field_a ws r < r) × (tag ws (field_a ws r) ≡ CE)

-- hole h is solved by a term of which all records are from n on
pub record Solved (n : ℕ) (home : ℕ → ℕ) (s : Store) (h : ℕ) : Type 0 where
  pub hole : h < s.used
  pub below : get_or s.solutions h NONE < s.used
  pub term : Term s.words (get_or s.solutions h NONE)
  pub since : n ≤ home (get_or s.solutions h NONE)

-- the invariant: R records of room, of which n are given; every record in use keeps the rules, every solution is in use, and an occurrence q in a
-- solution is below the home of its hole's solution; the records that were written have a tag, and those past them are still zero
pub record Fine (R n : ℕ) (home : ℕ → ℕ) (s : Store) : Type 0 where
  pub room : 4 * R ≤ length s.words
  pub held : R ≤ length s.solutions
  pub few : R ≤ 4096
  pub some : 1 ≤ n
  pub since : n ≤ s.used
  pub within : s.used ≤ R
  pub good : (r : ℕ) → r < s.used → Rule s.words home r
  pub sols : (h : ℕ) → h < R → (get_or s.solutions h NONE ≡ NONE → ⊥) → Solved n home s h
  pub above : (q : ℕ) → q < s.used → tag s.words q ≡ HA → 1 ≤ home q → (get_or s.solutions (field_a s.words q) NONE ≡ NONE → ⊥)
      → q < home (get_or s.solutions (field_a s.words q) NONE)
  pub tagged : (r : ℕ) → n ≤ r → r < s.used → 1 ≤ tag s.words r
  pub blank : (i : ℕ) → 4 * s.used ≤ i → i < 4 * R → get_or s.words i 0 ≡ 0

-- one store after another: what was written stays, and no new occurrence is of a hole that is barred
pub record Ext (barred : ℕ → Type 0) (home : ℕ → ℕ) (s : Store) (home₁ : ℕ → ℕ) (s₁ : Store) : Type 0 where
  pub grown : s.used ≤ s₁.used
  pub kept : (i : ℕ) → i < 4 * s.used → get_or s₁.words i 0 ≡ get_or s.words i 0
  pub labels : (r : ℕ) → r < s.used → home₁ r ≡ home r
  pub none : (q : ℕ) → s.used ≤ q → q < s₁.used → tag s₁.words q ≡ HA → barred (field_a s₁.words q) → ⊥

-- words left by a part of the machine: nothing has changed outside records n to R and past the first R solutions, so that cleared they are the same
pub record Outside (R n : ℕ) (s : Store) (ws ss : List ℕ) : Type 0 where
  pub table : filled (4 * n) (4 * (R - n)) 0 ws ≡ filled (4 * n) (4 * (R - n)) 0 s.words
  pub solutions : filled 0 R NONE ss ≡ filled 0 R NONE s.solutions

-- records n to used - 1 were written and have a tag; the rest up to R is zero, and no hole there is solved
pub record Rest (R n : ℕ) (ws ss : List ℕ) : Type 0 where
  pub used : ℕ
  pub since : n ≤ used
  pub within : used ≤ R
  pub tagged : (r : ℕ) → n ≤ r → r < used → 1 ≤ tag ws r
  pub blank : (i : ℕ) → 4 * used ≤ i → i < 4 * R → get_or ws i 0 ≡ 0
  pub free : (h : ℕ) → used ≤ h → h < R → get_or ss h NONE ≡ NONE

-- words left by a failure: nothing has changed outside, and what was not written is still as it was cleared
pub record Stopped (R n : ℕ) (s : Store) (ws ss : List ℕ) : Type 0 where
  pub outside : Outside R n s ws ss
  pub rest : Rest R n ws ss

-- where a part of the machine goes on, its store is fine again, and its result is as said
pub record Grown {A : Type 0} (barred : ℕ → Type 0) (Q : (ℕ → ℕ) → Store → A → Type 0) (R n : ℕ) (home : ℕ → ℕ) (s s₁ : Store) (x : A) : Type 0 where
  pub home₁ : ℕ → ℕ
  pub ext : Ext barred home s home₁ s₁
  pub outside : Outside R n s s₁.words s₁.solutions
  pub fine : Fine R n home₁ s₁
  pub root : Q home₁ s₁ x

-- a failure leaves what is outside and what was not written, spent fuel is no result
abbrev pub Grows : {A : Type 0} → (ℕ → Type 0) → ((ℕ → ℕ) → Store → A → Type 0) → ℕ → ℕ → (ℕ → ℕ) → Store → Out A → Type 0
Grows barred Q R n home s (goes s₁ x) = Grown barred Q R n home s s₁ x
Grows barred Q R n home s (fails ws ss e) = Stopped R n s ws ss
Grows barred Q R n home s spent = ⊥

-- what is said of a term written, from record b on
abbrev pub Rooted : ℕ → (ℕ → ℕ) → Store → ℕ → Type 0
Rooted b home s x = Sub s.words home b s.used x
